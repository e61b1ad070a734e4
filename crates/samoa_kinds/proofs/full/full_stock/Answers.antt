use Rattle.std.proofs.Common.{List, subst, sym}
use Rattle.samoa_model.specs.declared.setup.Kind.{Kind}
use Rattle.samoa_micro.specs.Stocks.{HasEnough}
use Rattle.samoa_kinds.proofs.full.full_stock.Goals as goal

pub returns : goal.returns
returns c = subst (λ (kinds : List Kind). HasEnough kinds) (sym c.new.ensures) c.in_ok-full_boxes.ensures.enough
