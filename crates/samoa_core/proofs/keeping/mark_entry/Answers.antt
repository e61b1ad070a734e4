use Rattle.std.proofs.Common.{arith}
use Rattle.samoa_core.proofs.Passed.{marks-entry, most-here}
use Rattle.samoa_core.proofs.keeping.mark_entry.Goals as goal

pub mark_ready-requires : goal.mark_ready-requires
mark_ready-requires g c =
    let most = most-here c.args.control.now c.args.comp c.recall.ensures (record { since = c.requires.kept; admitted = c.requires.admitted }) in
    let size = c.requires.sized.ready in
    let at = c.place.ensures in
    let first = c.cleared.ensures in
    omega (arith, most, size, at, first)

pub returns-clause-entry : goal.returns-clause-entry
returns-clause-entry g c x keeps =
    rw (c.mark_ready.ensures, c.place.ensures, c.cleared.ensures)
    (marks-entry c.args.control.now c.args.index.now x c.args.comp c.may_enter-enters.result c.recall.ensures (record { since = c.requires.kept; admitted = c.requires.admitted }) c.may_enter-enters.ensures keeps)
