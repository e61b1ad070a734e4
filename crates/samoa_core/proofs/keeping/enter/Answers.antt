use Rattle.samoa_control.proofs.Facts.{due-since}
use Rattle.samoa_core.proofs.Stepped.{entered}
use Rattle.samoa_core.proofs.keeping.enter.Goals as goal

pub place-requires : goal.place-requires
place-requires g c = rw c.cleared-first.ensures (due-since c.args.control.now c.args.comp c.enter-turn.result.micro c.recall.ensures c.enter-turn.ensures.due)

pub returns-clause-indexed : goal.returns-clause-indexed
returns-clause-indexed g c =
    rw (c.enter-turn.ensures.step, c.mark_ready.ensures, c.place.ensures)
    (entered c.args.control.now c.args.index.now c.args.comp c.enter-turn.result.micro c.cleared-first.result c.recall.ensures.run c.requires.indexed c.enter-turn.ensures.due c.cleared-first.ensures)
