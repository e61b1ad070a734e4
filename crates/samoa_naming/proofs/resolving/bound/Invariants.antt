use Rattle.std.proofs.Common.{◌≡◌, take, map}
use Rattle.samoa_grammar.specs.declared.draft.BoundDraft.{BoundDraft}
use Rattle.samoa_grammar.specs.Meaning.{number_in_names, micros_named}
use Rattle.samoa_naming.proofs.resolving.bound.Given as goal

abbrev pub invariant-loop-bound : goal.invariant-loop-bound
invariant-loop-bound l = l.found.items ≡ map (λ (b : BoundDraft). (number_in_names (micros_named l.draft) b.micro, b.calls)) (take l.bound-index l.bounds)
