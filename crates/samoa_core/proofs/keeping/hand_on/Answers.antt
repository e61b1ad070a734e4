use Rattle.std.proofs.Common.{arith, ◌-◌, true}
use Rattle.samoa_invariant.specs.Index.{Index}
use Rattle.samoa_invariant.specs.State.{put}
use Rattle.samoa_core.proofs.Passed.{can-close, has-released, kept-closing, most-here}
use Rattle.samoa_core.proofs.keeping.hand_on.Goals as goal

pub mark_closing-requires : goal.mark_closing-requires
mark_closing-requires g c =
    let most = most-here c.args.control.now c.args.comp c.recall.ensures (record { since = c.requires.can.since; admitted = c.requires.can.admitted }) in
    let size = c.requires.can.keeps.sized.closing in
    let at = c.place.ensures in
    let first = c.cleared.ensures in
    omega (arith, most, size, at, first)

pub pass_on-requires : goal.pass_on-requires
pass_on-requires g c = record {
  can = rw (c.mark_closing.ensures, c.place.ensures, c.cleared.ensures)
      (can-close c.args.control.now c.args.index.now c.args.comp c.args.micro c.recall.ensures (record { since = c.requires.can.since; admitted = c.requires.can.admitted }) c.requires.can);
}

pub returns : goal.returns
returns g c x keeps =
    let marked : Index = record x { closing = put x.closing (c.args.comp - 1) true } in
    has-released c.args.control.now c.pass_on.new.index x c.args.comp c.args.micro
    (c.pass_on.ensures marked (rw (c.mark_closing.ensures, c.place.ensures, c.cleared.ensures)
    (kept-closing c.args.control.now c.args.index.now x c.args.comp c.recall.ensures (record { since = c.requires.can.since; admitted = c.requires.can.admitted }) keeps)))
