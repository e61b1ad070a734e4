use Rattle.samoa_control.proofs.Facts.{due-since}
use Rattle.samoa_control.proofs.control.Control.due.Goals as goal

pub next-requires-clause-kept : goal.next-requires-clause-kept
next-requires-clause-kept g c = due-since c.args.self.now c.args.comp c.requires.due.0 c.recall.ensures c.requires.due.1
