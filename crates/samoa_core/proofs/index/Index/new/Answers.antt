use Rattle.std.proofs.Common.{refl}
use Rattle.samoa_core.proofs.index.Index.new.Goals as goal

pub returns : goal.returns
returns c = rw (c.in_ok-heads.ensures, c.in_ok-tails.ensures, c.in_ok-ready.ensures.none, c.in_ok-restless.ensures.none, c.in_ok-closing.ensures.none, c.new-4.ensures.items) refl
