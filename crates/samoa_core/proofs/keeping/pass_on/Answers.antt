use Rattle.std.proofs.Common.{◌∙◌, ◌-◌, Some}
use Rattle.samoa_invariant.specs.Index.{Index}
use Rattle.samoa_invariant.specs.Runs.{play}
use Rattle.samoa_invariant.specs.Slots.{put_at}
use Rattle.samoa_core.proofs.Passed.{kept-head, next-of, passes-none, passes-some}
use Rattle.samoa_core.proofs.keeping.pass_on.Goals as goal

pub returns-in-None : goal.returns-in-None
returns-in-None g c x keeps =
    rw (c.set_head.ensures, c.slot.ensures.place, c.in-None.is)
    (passes-none c.args.control.now c.args.index.now x c.args.comp c.args.micro c.slot.ensures.node c.requires.can.within
    (next-of c.args.control.now c.args.index.now x c.args.comp c.args.micro c.place.result c.cleared.result c.next-next.result c.recall.ensures c.requires.can c.place.ensures c.cleared.ensures keeps c.next-next.ensures ∙ c.in-None.is) keeps)

pub returns-in-Some : goal.returns-in-Some
returns-in-Some g c x keeps =
    let ahead : Index = record x { head = put_at x.head ((play c.args.control.now).node (c.args.comp - 1)) c.args.micro (Some c.in-Some.number) } in
    passes-some c.args.control.now c.greet.new.index x c.args.comp c.args.micro c.in-Some.number
    (next-of c.args.control.now c.args.index.now x c.args.comp c.args.micro c.place.result c.cleared.result c.next-next.result c.recall.ensures c.requires.can c.place.ensures c.cleared.ensures keeps c.next-next.ensures ∙ c.in-Some.is)
    (c.greet.ensures ahead (rw (c.set_head.ensures, c.slot.ensures.place, c.in-Some.is)
    (kept-head c.args.control.now c.args.index.now x c.args.comp c.args.micro (Some c.in-Some.number) c.slot.ensures.node c.requires.can.within keeps)))
