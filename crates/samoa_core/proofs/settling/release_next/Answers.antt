use Rattle.std.proofs.Common.{arith, ap, length, sym}
use Rattle.samoa_control.specs.Later.{IsLater}
use Rattle.samoa_core.proofs.Passed.{IsHere, most-here}
use Rattle.samoa_core.proofs.Past.{calmed, here-later, later-of, none-of, releases-next}
use Rattle.samoa_core.proofs.settling.release_next.Goals as goal

pub mark_restless-requires : goal.mark_restless-requires
mark_restless-requires g c =
    let most = most-here c.args.control.now c.args.comp c.recall.ensures (record { since = c.requires.kept; admitted = c.requires.admitted }) in
    let size = c.release_of.ensures.indexed.keeps.sized.restless in
    let at = c.place-at.ensures in
    let first = c.cleared.ensures in
    omega (arith, most, size, at, first)

pub returns-clause-past : goal.returns-clause-past
returns-clause-past g c before run is =
    let later : IsLater c.args.control.now c.release_of.new.control = later-of c.args.control.now c.release_of.new.control c.args.comp (length c.args.control.now.script.micros) c.recall.ensures.run c.release_of.ensures.releases in
    let here : IsHere c.release_of.new.control c.args.comp = here-later c.args.control.now c.release_of.new.control c.args.comp later (record { since = c.requires.kept; admitted = c.requires.admitted }) in
    let size = ap (λ s. length s.micros) later.script in
    rw (c.mark_restless.ensures, c.place-at.ensures, c.cleared.ensures, sym later.cleared)
    (releases-next before c.args.control.now c.release_of.new.control c.args.index.now c.release_of.new.index c.args.comp (length c.args.control.now.script.micros) run c.recall-2.ensures here later.cleared
    (omega (arith, size)) is c.release_of.ensures.releases c.release_of.ensures.indexed c.release_of.ensures.calm)

pub returns-clause-later : goal.returns-clause-later
returns-clause-later g c =
    later-of c.args.control.now c.release_of.new.control c.args.comp (length c.args.control.now.script.micros) c.recall.ensures.run c.release_of.ensures.releases

pub returns-clause-indexed : goal.returns-clause-indexed
returns-clause-indexed g c =
    let later : IsLater c.args.control.now c.release_of.new.control = later-of c.args.control.now c.release_of.new.control c.args.comp (length c.args.control.now.script.micros) c.recall.ensures.run c.release_of.ensures.releases in
    let here : IsHere c.release_of.new.control c.args.comp = here-later c.args.control.now c.release_of.new.control c.args.comp later (record { since = c.requires.kept; admitted = c.requires.admitted }) in
    let size = ap (λ s. length s.micros) later.script in
    rw (c.mark_restless.ensures, c.place-at.ensures, c.cleared.ensures, sym later.cleared)
    (calmed c.release_of.new.control c.release_of.new.index c.args.comp c.recall-2.ensures here c.release_of.ensures.indexed
    (none-of c.args.control.now c.release_of.new.control c.args.comp (length c.args.control.now.script.micros) c.recall-2.ensures (omega (arith, size)) c.release_of.ensures.releases))
