use Rattle.std.proofs.Common.{◌≡◌, ℕ, subst, Some}
use Rattle.std.specs.Prelude.{slice_get}
use Rattle.samoa_core.proofs.Joined.{joins-linked, joins-unnamed, tail-read, tail-row}
use Rattle.samoa_core.proofs.joining.join.Goals as goal

pub link-requires-clause-last : goal.link-requires-clause-last
link-requires-clause-last g c last e =
    let since = tail-read c.args.control.now c.args.index.now c.requires.can.index c.args.comp c.args.micro last c.recall.ensures (record { since = c.requires.kept; last = c.requires.last }) c.slot-slot.ensures.node c.requires.within c.requires.can.within c.requires.can.joins
    (subst (λ (slot : ℕ). slice_get c.args.index.now.tails slot ≡ Some (Some last)) c.slot-slot.ensures.place e) in
    rw c.cleared.ensures (since.0, tail-row c.args.control.now c.args.index.now c.requires.can.index c.args.micro last c.requires.within c.requires.can.joins since.0 since.1)

pub returns-then-declares : goal.returns-then-declares
returns-then-declares g c x within joins =
    joins-linked c.args.control.now c.args.index.now c.link.new.self x c.args.comp c.args.micro c.slot-slot.result c.cleared.result c.recall.ensures (record { since = c.requires.kept; last = c.requires.last })
    c.slot-slot.ensures.node c.requires.within (c.declares.ensures.0 c.if-declares.true) c.slot-slot.ensures.place c.cleared.ensures within joins c.link.ensures

pub returns-else-declares : goal.returns-else-declares
returns-else-declares g c x within joins =
    joins-unnamed c.args.control.now c.args.index.now x c.args.comp c.args.micro c.declares.result c.recall.ensures (record { since = c.requires.kept; last = c.requires.last }) c.if-declares.false c.declares.ensures joins
