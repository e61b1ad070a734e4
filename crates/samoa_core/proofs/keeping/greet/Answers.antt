use Rattle.std.proofs.Common.{arith, ◌+◌}
use Rattle.samoa_core.proofs.Passed.{greeted-here, is-greeted, most-here}
use Rattle.samoa_core.proofs.keeping.greet.Goals as goal

pub mark_restless-requires : goal.mark_restless-requires
mark_restless-requires g c =
    let most = most-here c.args.control.now (c.args.number + 1) c.recall.ensures (greeted-here c.args.control.now c.args.number c.requires.kept c.requires.admitted) in
    let size = c.mark_entry.ensures.sized.restless in
    let at = c.place.ensures in
    let first = c.cleared.ensures in
    omega (arith, most, size, at, first)

pub returns : goal.returns
returns g c x keeps =
    rw (c.mark_restless.ensures, c.place.ensures, c.cleared.ensures)
    (is-greeted c.args.control.now c.mark_entry.new.index x c.args.number c.recall.ensures (greeted-here c.args.control.now c.args.number c.requires.kept c.requires.admitted) (c.mark_entry.ensures.entry x keeps))
