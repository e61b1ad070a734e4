-- What the first pass tells of a script's draft: each number and each list within its limit, and what is named has a name
-- of a script.
use Rattle.std.specs.Prelude.{◌≤◌, length}
use Rattle.std.specs.List.{All}
use Rattle.samoa_model.specs.declared.script.CodeDef.{CodeDef}
use Rattle.samoa_model.specs.NameRule.{IsScriptName}
use Rattle.samoa_model.specs.Range.{HasHandlers, IsCode}
use Rattle.samoa_grammar.specs.Names.{IsHandlerText}
use Rattle.samoa_grammar.specs.declared.draft.MicroDraft.{MicroDraft}
use Rattle.samoa_grammar.specs.declared.draft.BoundDraft.{BoundDraft}
use Rattle.samoa_grammar.specs.declared.draft.BodyDraft.{BodyDraft}
use Rattle.samoa_grammar.specs.declared.draft.BodyDraft.TheVariants as bodies
use Rattle.samoa_grammar.specs.declared.draft.DeclDraft.{DeclDraft}
use Rattle.samoa_grammar.specs.declared.draft.EventDraft.{EventDraft}
use Rattle.samoa_grammar.specs.declared.draft.TableDraft.{TableDraft}
use Rattle.samoa_grammar.specs.declared.draft.ChangeDraft.{ChangeDraft}
use Rattle.samoa_grammar.specs.declared.draft.DoDraft.{DoDraft}
use Rattle.samoa_grammar.specs.declared.draft.Draft.{Draft}

pub record HasMicroLimits (m : MicroDraft) : Type 0 where
  pub name : IsScriptName m.name
  pub nums : length m.nums ≤ 12
  pub ports : length m.ports ≤ 16
  pub changes : length m.changes ≤ 16
  pub handlers : length m.handlers ≤ 16
  pub own : HasHandlers m.kind m.handlers
  pub names : All (λ (h : CodeDef). IsScriptName h.name) m.handlers
  pub codes : All IsCode m.handlers

abbrev pub HasCalls : BoundDraft → Type 0
HasCalls b = (1 ≤ b.calls) × (b.calls ≤ 256)

abbrev pub HasBodyLimits : BodyDraft → Type 0
HasBodyLimits (bodies.Set micros) = (1 ≤ length micros) × (length micros ≤ 24)
HasBodyLimits (bodies.Bound bounds) = (1 ≤ length bounds) × (length bounds ≤ 24) × All HasCalls bounds
HasBodyLimits (bodies.Route roots edges) = (length roots ≤ 32) × (length edges ≤ 256)

pub record HasDeclLimits (d : DeclDraft) : Type 0 where
  pub name : IsScriptName d.name
  pub least_budget : 1 ≤ d.budget
  pub budget : d.budget ≤ 256
  pub body : HasBodyLimits d.body

pub record HasEventLimits (e : EventDraft) : Type 0 where
  pub name : IsScriptName e.name
  pub handlers : length e.handlers ≤ 4
  pub formed : All IsHandlerText e.handlers

pub record HasTableLimits (t : TableDraft) : Type 0 where
  pub handlers : length t.handlers ≤ 4
  pub formed : All IsHandlerText t.handlers

pub record HasChangeLimits (c : ChangeDraft) : Type 0 where
  pub name : IsScriptName c.name
  pub some_row : 1 ≤ length c.table
  pub table : length c.table ≤ 16
  pub rows : All HasTableLimits c.table

pub record HasDoLimits (item : DoDraft) : Type 0 where
  pub tick : 1 ≤ item.tick
  pub args : length item.args ≤ 12

pub record HasLimits (x : Draft) : Type 0 where
  pub some_node : 1 ≤ x.nodes
  pub few_nodes : x.nodes ≤ 8
  pub some_tick : 1 ≤ x.ticks
  pub few_ticks : x.ticks ≤ 10000
  pub some_micro : 1 ≤ length x.micros
  pub few_micros : length x.micros ≤ 24
  pub micros : All HasMicroLimits x.micros
  pub some_decl : 1 ≤ length x.decls
  pub few_decls : length x.decls ≤ 64
  pub decls : All HasDeclLimits x.decls
  pub some_event : 1 ≤ length x.events
  pub few_events : length x.events ≤ 64
  pub events : All HasEventLimits x.events
  pub few_changes : length x.changes ≤ 16
  pub changes : All HasChangeLimits x.changes
  pub few_does : length x.does ≤ 8192
  pub does : All HasDoLimits x.does
  pub few_losses : length x.losses ≤ 256
  pub few_crashes : length x.crashes ≤ 8
