use Rattle.std.proofs.Common.{ap, ◌∙◌, ℕ, replicate, false}
use Rattle.samoa_core.proofs.Members.{all-none}
use Rattle.samoa_core.proofs.index.empty.Goals as goal

pub returns : goal.returns
returns c = all-none c.loop-at.members c.in_default.ensures.none ∙ ap (λ (n : ℕ). replicate n false) c.loop-at.invariant.size
