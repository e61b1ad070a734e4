-- The form of each part of a draft, as the first pass wants it.
use Rattle.std.proofs.Common.{◌≡◌, ℕ, ◌≤◌, Bool, true, false, List, [], length}
use Rattle.samoa_model.specs.declared.script.CodeDef.{CodeDef}
use Rattle.samoa_grammar.specs.declared.draft.MicroDraft.{MicroDraft}
use Rattle.samoa_grammar.specs.declared.draft.BoundDraft.{BoundDraft}
use Rattle.samoa_grammar.specs.declared.draft.EdgeDraft.{EdgeDraft}
use Rattle.samoa_grammar.specs.declared.draft.BodyDraft.{BodyDraft}
use Rattle.samoa_grammar.specs.declared.draft.BodyDraft.TheVariants as bodies
use Rattle.samoa_grammar.specs.declared.draft.DeclDraft.{DeclDraft}
use Rattle.samoa_grammar.specs.declared.draft.EventDraft.{EventDraft}
use Rattle.samoa_grammar.specs.declared.draft.TableDraft.{TableDraft}
use Rattle.samoa_grammar.specs.declared.draft.ChangeDraft.{ChangeDraft}
use Rattle.samoa_grammar.specs.declared.draft.CauseDraft.{CauseDraft}
use Rattle.samoa_grammar.specs.declared.draft.CauseDraft.TheVariants.{Event, Change}
use Rattle.samoa_grammar.specs.declared.draft.DoDraft.{DoDraft}
use Rattle.samoa_grammar.specs.declared.draft.Draft.{Draft}
use Rattle.samoa_grammar.specs.Forms.{is_prog}
use Rattle.samoa_print.proofs.Instrs.{IsProper}
use Rattle.samoa_print.proofs.Parts.{IsNamed, IsHandlerNamed, IsWithin}
use Rattle.std.specs.List.{AllByRecursion}

pub record AreListed (least most : ℕ) (names : List (List ℕ)) : Type 0 where
  pub each : AllByRecursion IsNamed names
  pub some : least ≤ length names
  pub few : length names ≤ most

pub record AreHandlers (most : ℕ) (names : List (List ℕ)) : Type 0 where
  pub each : AllByRecursion IsHandlerNamed names
  pub few : length names ≤ most

pub record AreAll {X : Type 0} (least most : ℕ) (P : X → Type 0) (xs : List X) : Type 0 where
  pub each : AllByRecursion P xs
  pub some : least ≤ length xs
  pub few : length xs ≤ most

pub record CodeForm (c : CodeDef) : Type 0 where
  pub name : IsNamed c.name
  pub code : AllByRecursion IsProper c.code
  pub few : length c.code ≤ 32

abbrev pub HandlersForm : Bool → List CodeDef → Type 0
HandlersForm true handlers = AreAll 1 16 CodeForm handlers
HandlersForm false handlers = handlers ≡ []

pub record MicroForm (m : MicroDraft) : Type 0 where
  pub name : IsNamed m.name
  pub nums : length m.nums ≤ 12
  pub ports : AreListed 0 16 m.ports
  pub changes : AreListed 0 16 m.changes
  pub handlers : HandlersForm (is_prog m.kind) m.handlers

pub record BoundForm (b : BoundDraft) : Type 0 where
  pub micro : IsNamed b.micro
  pub calls : IsWithin 1 256 b.calls

pub record EdgeForm (e : EdgeDraft) : Type 0 where
  pub origin : IsHandlerNamed e.from
  pub to : IsHandlerNamed e.to

abbrev pub BodyForm : BodyDraft → Type 0
BodyForm (bodies.Set micros) = AreListed 1 24 micros
BodyForm (bodies.Bound bounds) = AreAll 1 24 BoundForm bounds
BodyForm (bodies.Route roots edges) = AreHandlers 32 roots × AreAll 0 256 EdgeForm edges

pub record DeclForm (d : DeclDraft) : Type 0 where
  pub name : IsNamed d.name
  pub budget : IsWithin 1 256 d.budget
  pub body : BodyForm d.body

pub record EventForm (e : EventDraft) : Type 0 where
  pub name : IsNamed e.name
  pub decl : IsNamed e.decl
  pub handlers : AreHandlers 4 e.handlers

pub record TableForm (t : TableDraft) : Type 0 where
  pub event : IsNamed t.event
  pub handlers : AreHandlers 4 t.handlers

pub record ChangeForm (c : ChangeDraft) : Type 0 where
  pub name : IsNamed c.name
  pub event : IsNamed c.event
  pub table : AreAll 1 16 TableForm c.table

abbrev pub CauseForm : CauseDraft → Type 0
CauseForm (Event name) = IsNamed name
CauseForm (Change name) = IsNamed name

pub record DoForm (item : DoDraft) : Type 0 where
  pub tick : 1 ≤ item.tick
  pub cause : CauseForm item.cause
  pub args : length item.args ≤ 12

pub record DraftForm (x : Draft) : Type 0 where
  pub nodes : IsWithin 1 8 x.nodes
  pub ticks : IsWithin 1 10000 x.ticks
  pub micros : AreAll 1 24 MicroForm x.micros
  pub decls : AreAll 1 64 DeclForm x.decls
  pub events : AreAll 1 64 EventForm x.events
  pub changes : AreAll 0 16 ChangeForm x.changes
  pub does : AreAll 0 8192 DoForm x.does
  pub losses : length x.losses ≤ 256
  pub crashes : length x.crashes ≤ 8
