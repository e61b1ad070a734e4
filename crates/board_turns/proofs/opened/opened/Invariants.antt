use Rattle.std.proofs.Common.{◌≡◌, []}
use Rattle.samoa_invariant.specs.State.{NothingOut}
use Rattle.samoa_invariant.specs.Runs.{state}
use Rattle.board_turns.proofs.opened.opened.Given as goal

-- the script is the core's, nothing was cleared away, and nothing is out
abbrev pub invariant-loop-item : goal.invariant-loop-item
invariant-loop-item l = record {
  script : l.core.script ≡ l.script;
  clears : l.core.clears ≡ [];
  home : NothingOut (state l.core);
}
