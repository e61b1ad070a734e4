use Rattle.std.proofs.Common.{arith, length}
use Rattle.samoa_invariant.specs.Index.{Index}
use Rattle.samoa_core.specs.Joining.{joined, last_node, last_one, named_to}
use Rattle.samoa_core.proofs.Joined.{has-admitted, joins-blank}
use Rattle.samoa_core.proofs.joining.take_up.Goals as goal

pub join_queues-requires-clause-can : goal.join_queues-requires-clause-can
join_queues-requires-clause-can g c = record {
  index = c.requires.row.index;
  joins = joins-blank c.args.control.now c.args.index.now c.blank.new.self c.requires.row.index c.args.comp c.place-at.result c.cleared.result c.recall.ensures (record { since = c.requires.kept; last = c.requires.last })
      c.requires.row.kept c.requires.row.long c.place-at.ensures c.cleared.ensures c.blank.ensures;
  within = c.requires.row.within;
}

pub returns : goal.returns
returns g c x kept within =
    let start = joins-blank c.args.control.now c.args.index.now c.blank.new.self x c.args.comp c.place-at.result c.cleared.result c.recall.ensures (record { since = c.requires.kept; last = c.requires.last })
    kept c.requires.row.long c.place-at.ensures c.cleared.ensures c.blank.ensures in
    let in_all : Index = joined x (last_one c.args.control.now) (last_node c.args.control.now) (named_to c.args.control.now (length c.args.control.now.script.micros)) in
    has-admitted c.args.control.now c.take_note.new.index x c.args.comp c.recall.ensures (record { since = c.requires.kept; last = c.requires.last })
    (c.take_note.ensures in_all (c.join_queues.ensures.joins x within start))
