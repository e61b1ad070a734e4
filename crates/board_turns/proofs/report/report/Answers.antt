use Rattle.std.proofs.Common.{arith}
use Rattle.board_turns.proofs.Cores.{ended_before, none_cleared}
use Rattle.board_turns.proofs.report.report.Goals as goal

pub push_comp-requires-clause-kept : goal.push_comp-requires-clause-kept
push_comp-requires-clause-kept g c = omega (arith, none_cleared c.args.core.now c.requires.clears)
