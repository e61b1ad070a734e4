-- What the outcomes of handler steps name is of the script.
use Rattle.std.proofs.Common.{◌≡◌, ◌<◌, ◌≤◌, ℕ, length, arith}
use Rattle.std.proofs.lemmas.List.Elements.{All-map, All-weaker}
use Rattle.samoa_model.specs.declared.ids.HandlerId.{HandlerId}
use Rattle.samoa_model.specs.declared.handler.Moment.{Moment}
use Rattle.samoa_model.specs.declared.script.EventDef.{EventDef}
use Rattle.samoa_model.specs.declared.script.Script.{Script}
use Rattle.samoa_model.specs.Scripts.{Table, first_table, micro_at, setup_of}
use Rattle.samoa_model.specs.Range.{IsEventInRange, IsInRange}
use Rattle.samoa_serial.specs.State.{State}
use Rattle.samoa_serial.specs.Kinds.{kind_step}
use Rattle.samoa_serial.proofs.CodeLaws.{steps_are_named}
use Rattle.samoa_calls.specs.Handed.{AreCounted, IsCounted, IsNamed}

-- the outcome of a step of a microprotocol of a script in range, by a table of the script's events
pub named-step : (script : Script) (table : Table) (node p : ℕ) (state : State) (moment : Moment) → IsInRange script → length table ≡ length script.events
    → IsNamed table (kind_step (micro_at script p).kind (setup_of script node p) state moment).1
named-step script table node p state moment in_range as_many =
    record { script = script; events = as_many; names = steps_are_named script in_range node p state moment }

-- the handlers of the script's events are at microprotocols that a bound can count
pub counted : (script : Script) → IsInRange script → IsCounted (first_table script)
counted script in_range =
    All-map AreCounted (λ (e : EventDef). e.handlers) script.events
    (All-weaker (IsEventInRange script) (λ (e : EventDef). AreCounted e.handlers)
    (λ e has. All-weaker (λ (h : HandlerId). h.micro.0 < length script.micros) (λ (h : HandlerId). h.micro.0 < 24)
    (λ h lt. let few : length script.micros ≤ 24 = in_range.few_micros in omega (arith, lt, few)) e.handlers has.handlers.known)
    script.events in_range.events)
