use Rattle.std.proofs.Common.{arith, ap, Bool, ◌-◌, ◌||◌}
use Rattle.samoa_versions.specs.Ready.{is_member}
use Rattle.samoa_control.specs.Since.{cleared_comps}
use Rattle.samoa_core.proofs.Passed.{has-left, most-here}
use Rattle.samoa_core.proofs.keeping.take_note.Goals as goal

pub add_restless-requires : goal.add_restless-requires
add_restless-requires g c =
    let most = most-here c.args.control.now c.args.comp c.recall.ensures (record { since = c.requires.kept; admitted = c.requires.admitted }) in
    let size = c.mark_entry.ensures.sized.restless in
    let at = c.place-at.ensures in
    let first = c.cleared.ensures in
    omega (arith, most, size, at, first)

pub add_closing-requires : goal.add_closing-requires
add_closing-requires g c =
    let most = most-here c.args.control.now c.args.comp c.recall.ensures (record { since = c.requires.kept; admitted = c.requires.admitted }) in
    let size = c.mark_entry.ensures.sized.closing in
    let at = c.place-at.ensures in
    let first = c.cleared.ensures in
    rw c.add_restless.ensures (omega (arith, most, size, at, first))

pub returns : goal.returns
returns g c x keeps =
    let t = c.args.control.now in
    let rows = c.mark_entry.new.index in
    let at = c.args.comp - 1 - cleared_comps t in
    rw (c.add_closing.ensures, c.add_restless.ensures, c.place-at.ensures, c.cleared.ensures)
    (has-left t rows x c.args.comp (c.may_have_releases.result || is_member rows.restless at) (c.may_end.result || is_member rows.closing at) c.recall.ensures
    (record { since = c.requires.kept; admitted = c.requires.admitted })
    (λ micro due. ap (λ (b : Bool). b || is_member rows.restless at) (c.may_have_releases.ensures micro due))
    (λ due. ap (λ (b : Bool). b || is_member rows.closing at) (c.may_end.ensures due)) (c.mark_entry.ensures.entry x keeps))
