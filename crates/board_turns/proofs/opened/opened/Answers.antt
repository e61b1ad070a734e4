use Rattle.std.proofs.Common.{◌∙◌}
use Rattle.board_turns.proofs.Cores.{still_home}
use Rattle.board_turns.proofs.opened.opened.Goals as goal

pub loop-item-preserved : goal.loop-item-preserved
loop-item-preserved c = record {
  script = c.in_ok-admit.ensures.script ∙ c.loop-item.invariant.script;
  clears = c.in_ok-admit.ensures.clears ∙ c.loop-item.invariant.clears;
  home = still_home c.loop-item.core c.admit.new.core c.loop-item.invariant.home c.in_ok-admit.ensures.still;
}
