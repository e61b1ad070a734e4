use Rattle.std.proofs.Common.{◌≡◌, None, take}
use Rattle.samoa_grammar.specs.Walks.{first_along}
use Rattle.samoa_grammar.specs.declared.draft.TableDraft.{TableDraft}
use Rattle.samoa_grammar.specs.Passes.{twice}
use Rattle.samoa_naming.proofs.doubles.table_once.Given as goal

abbrev pub invariant-loop-row : goal.invariant-loop-row
invariant-loop-row l = first_along (λ (t : TableDraft). twice t.handlers) (take l.row-index l.table) ≡ None
