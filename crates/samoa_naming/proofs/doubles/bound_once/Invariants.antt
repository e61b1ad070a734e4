use Rattle.std.proofs.Common.{◌≡◌, None, take}
use Rattle.samoa_grammar.specs.Walks.{first_along}
use Rattle.samoa_grammar.specs.declared.draft.EventDraft.{EventDraft}
use Rattle.samoa_grammar.specs.Passes.{twice}
use Rattle.samoa_naming.proofs.doubles.bound_once.Given as goal

abbrev pub invariant-loop-event : goal.invariant-loop-event
invariant-loop-event l = first_along (λ (e : EventDraft). twice e.handlers) (take l.event-index l.draft.events) ≡ None
