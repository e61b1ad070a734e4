-- Scripts that a text can hold, told by their fields.
use Rattle.std.specs.Prelude.{◌≡◌, ◌≤◌, ◌*◌, ℕ, List, map, count_by}
use Rattle.std.specs.List.{All, AllPairs}
use Rattle.samoa_model.specs.declared.ids.HandlerId.{HandlerId}
use Rattle.samoa_model.specs.declared.setup.Kind.{Kind}
use Rattle.samoa_model.specs.contracts.setup.KindPartialEq.TheImpl.{ghosts}
use Rattle.samoa_model.specs.declared.script.CodeDef.{CodeDef}
use Rattle.samoa_model.specs.declared.script.MicroDef.{MicroDef}
use Rattle.samoa_model.specs.declared.script.Decl.{Decl}
use Rattle.samoa_model.specs.declared.script.DeclDef.{DeclDef}
use Rattle.samoa_model.specs.declared.script.EventDef.{EventDef}
use Rattle.samoa_model.specs.declared.script.TableDef.{TableDef}
use Rattle.samoa_model.specs.declared.script.ChangeDef.{ChangeDef}
use Rattle.samoa_model.specs.declared.script.Script.{Script}
use Rattle.samoa_model.specs.NameRule.{IsScriptName}
use Rattle.samoa_model.specs.Range.{HasHandlers, IsInRange}
use Rattle.samoa_model.specs.Routes.{once, met}

-- no two items are equal
abbrev pub AreApart : {X : Type 0} → List X → Type 0
AreApart xs = AllPairs (λ x y. x ≡ y → ⊥) xs

-- names of a script, none twice
pub record AreNames (names : List (List ℕ)) : Type 0 where
  pub each : All IsScriptName names
  pub apart : AreApart names

-- a microprotocol has scripted handlers just where it is of the scripted kind, each with a name of its own
pub record IsMicroValid (micro : MicroDef) : Type 0 where
  pub own : HasHandlers micro.kind micro.handlers
  pub names : AreNames (map (λ (h : CodeDef). h.name) micro.handlers)

-- no root and no edge of a route is repeated, and its vertices are its roots and then the ends of its edges, in
-- first-seen order
pub record IsRouteValid (vertices : List HandlerId) (roots : List ℕ) (edges : List (ℕ × ℕ)) : Type 0 where
  pub roots_apart : AreApart roots
  pub edges_apart : AreApart edges
  pub vertices_met : vertices ≡ once (met vertices roots edges)

abbrev pub IsDeclValid : Decl → Type 0
IsDeclValid (Decl.Set micros) = Unit {0}
IsDeclValid (Decl.Bound bounds) = Unit {0}
IsDeclValid (Decl.Route vertices roots edges) = IsRouteValid vertices roots edges

-- no event stands twice in the table of a change, and no handler twice in a list of it
pub record IsChangeValid (change : ChangeDef) : Type 0 where
  pub events : AreApart (map (λ (t : TableDef). t.event) change.table)
  pub handlers : All (λ (t : TableDef). AreApart t.handlers) change.table

-- the nodes together have at most 32 microprotocols of a kind
abbrev pub HasFewOfEach : Script → Type 0
HasFewOfEach script = (kind : Kind) → script.nodes * count_by (λ (m : MicroDef). ghosts.eq m.kind kind) script.micros ≤ 32

-- a script in range, whose names have their form and stand once
pub record IsValid (script : Script) : Type 0 where
  pub in_range : IsInRange script
  pub few_of_each : HasFewOfEach script
  pub micro_names : AreNames (map (λ (m : MicroDef). m.name) script.micros)
  pub decl_names : AreNames (map (λ (d : DeclDef). d.name) script.decls)
  pub event_names : AreNames (map (λ (e : EventDef). e.name) script.events)
  pub change_names : AreNames (map (λ (c : ChangeDef). c.name) script.changes)
  pub micros : All IsMicroValid script.micros
  pub decls : All (λ (d : DeclDef). IsDeclValid d.decl) script.decls
  pub events : All (λ (e : EventDef). AreApart e.handlers) script.events
  pub changes : All IsChangeValid script.changes
