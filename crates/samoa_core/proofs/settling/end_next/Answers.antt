use Rattle.std.proofs.Common.{arith, sym}
use Rattle.samoa_core.proofs.Passed.{IsHere, most-here}
use Rattle.samoa_core.proofs.Past.{closed, ends-next, ends-until, here-later}
use Rattle.samoa_core.proofs.settling.end_next.Goals as goal

pub mark_closing-requires : goal.mark_closing-requires
mark_closing-requires g c =
    let most = most-here c.args.control.now c.args.comp c.recall.ensures (record { since = c.requires.kept; admitted = c.requires.admitted }) in
    let size = c.requires.indexed.keeps.sized.closing in
    let at = c.place-at.ensures in
    let first = c.cleared.ensures in
    omega (arith, most, size, at, first)

pub returns-clause-past : goal.returns-clause-past
returns-clause-past g c before run is =
    let since = c.requires.kept in
    let here : IsHere c.try_end.new.control c.args.comp = here-later c.args.control.now c.try_end.new.control c.args.comp c.try_end.ensures.later (record { since = c.requires.kept; admitted = c.requires.admitted }) in
    rw (c.mark_closing.ensures, c.place-at.ensures, c.cleared.ensures, sym c.try_end.ensures.later.cleared)
    (ends-next before c.args.control.now c.try_end.new.control c.args.index.now c.args.comp c.recall-2.ensures here c.try_end.ensures.later.cleared is
    (c.try_end.ensures.ends before run (ends-until before c.args.control.now c.args.index.now c.args.comp (omega (arith, since)) is)) c.try_end.ensures.indexed)

pub returns-clause-indexed : goal.returns-clause-indexed
returns-clause-indexed g c =
    let here : IsHere c.try_end.new.control c.args.comp = here-later c.args.control.now c.try_end.new.control c.args.comp c.try_end.ensures.later (record { since = c.requires.kept; admitted = c.requires.admitted }) in
    rw (c.mark_closing.ensures, c.place-at.ensures, c.cleared.ensures, sym c.try_end.ensures.later.cleared)
    (closed c.try_end.new.control c.args.index.now c.args.comp c.recall-2.ensures here c.try_end.ensures.indexed c.try_end.ensures.over)
