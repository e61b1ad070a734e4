use Rattle.std.proofs.Common.{sym, subst}
use Rattle.samoa_micro.specs.Stocks.{HasEnough}
use Rattle.samoa.proofs.tests.answer_behind.Goals as goal

pub serve-status-requires-after_bounds : goal.serve-status-requires-after_bounds
serve-status-requires-after_bounds g c κs within = subst HasEnough (sym c.new-stock.ensures) c.in_ok-boxes.ensures.enough
