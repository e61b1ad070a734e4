use Rattle.std.proofs.Common.{◌≡◌, Bool, true, false, rules}
use Rattle.std.specs.Bool.{OnTrue}
use Rattle.samoa_micro.specs.Covers.{Covers}
use Rattle.board_turns.proofs.opened.can_run.Goals as goal

-- what holds holds where a test passes, too
holds_there : (passes : Bool) (P : Type 0) → P → OnTrue passes P
holds_there true P holds = holds
holds_there false P holds = tt

pub returns-clause-covers : goal.returns-clause-covers
returns-clause-covers g c = holds_there _ (Covers c.args.script.now c.args.stock.now) (c.covers.ensures.0 c.if-not-covers.false)
