use Rattle.std.proofs.Common.{◌≡◌, None, take, codes}
use Rattle.samoa_grammar.specs.Walks.{first_along}
use Rattle.samoa_grammar.specs.declared.draft.CrashDraft.{CrashDraft}
use Rattle.samoa_grammar.specs.Passes.{node_fault}
use Rattle.samoa_naming.proofs.totals.crashes_within.Given as goal

abbrev pub invariant-loop-crash : goal.invariant-loop-crash
invariant-loop-crash l = first_along (λ (c : CrashDraft). node_fault l.draft.nodes (codes "node") c.node) (take l.crash-index l.draft.crashes) ≡ None
