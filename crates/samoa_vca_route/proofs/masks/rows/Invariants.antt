use Rattle.std.proofs.Common.{◌≤◌}
use Rattle.samoa_vca_route.proofs.masks.rows.Given as goal

abbrev pub invariant-loop-vertex : goal.invariant-loop-vertex
invariant-loop-vertex l = l.rows ≤ 16
