use Rattle.std.proofs.Common.{◌≡◌, None, take, map}
use Rattle.samoa_grammar.specs.Walks.{first_along}
use Rattle.samoa_grammar.specs.declared.draft.TableDraft.{TableDraft}
use Rattle.samoa_grammar.specs.declared.draft.ChangeDraft.{ChangeDraft}
use Rattle.samoa_grammar.specs.Passes.{twice}
use Rattle.samoa_naming.proofs.doubles.rebound_once.Given as goal

abbrev pub invariant-loop-change : goal.invariant-loop-change
invariant-loop-change l = first_along (λ (c : ChangeDraft). twice (map (λ (t : TableDraft). t.event) c.table)) (take l.change-index l.draft.changes) ≡ None
