use Rattle.std.proofs.Common.{ap, ◌∙◌, ℕ, Option, Some}
use Rattle.samoa_core.proofs.index.Index.link.Goals as goal

pub link_next-requires-clause-last : goal.link_next-requires-clause-last
link_next-requires-clause-last c at e = c.requires.last at (c.tail-last.ensures ∙ ap (λ (x : Option ℕ). Some x) e)
