-- The names of a script's events.
use Rattle.std.specs.Prelude.{ℕ, Bool, List, map, bytes_eq, Option, Some, None, option_map, if◌then◌else◌}
use Rattle.std.specs.List.{position}
use Rattle.samoa_model.specs.declared.ids.EventId.{EventId}
use Rattle.samoa_model.specs.declared.script.EventDef.{EventDef}
use Rattle.samoa_model.specs.declared.script.Script.{Script}

abbrev pub event_names : Script → List (List ℕ)
event_names script = map (λ (e : EventDef). e.name) script.events

-- the number of the event with this name, if there is one
abbrev pub event_named : List (List ℕ) → List ℕ → Option EventId
event_named names name = option_map (λ i. record { 0 = i }) (position (bytes_eq name) names)

-- the number of a name that had this one, or else gets the next where it is the new name
abbrev pub first_number : Option ℕ → Bool → ℕ → Option ℕ
first_number (Some first) is_new number = Some first
first_number None is_new number = if is_new then Some number else None
