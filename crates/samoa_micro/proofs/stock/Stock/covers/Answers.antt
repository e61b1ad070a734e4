use Rattle.std.proofs.Common.{sym, ◌∙◌, rules, tests}
use Rattle.std.proofs.lemmas.Iterator.{YieldsList-from_slice}
use Rattle.std.proofs.lemmas.Iterator.Search.{all_from_yields_List}
use Rattle.samoa_micro.proofs.CoverLaws.{has_enough, Covers-from_all, all-from_Covers}
use Rattle.samoa_micro.proofs.stock.Stock.covers.Goals as goal

-- the kinds that stand in the script are tested, and they decide
pub returns : goal.returns
returns g c =
    let script = c.args.script.now in
    let kinds = c.args.self.now in
    let tested = all_from_yields_List (has_enough script kinds) _ _ c.all.result c.all.ensures.ran (YieldsList-from_slice script.micros cc) (λ x b q k. search (rules, tests)) in
    (λ yes. Covers-from_all script kinds (sym tested ∙ yes), λ covers. tested ∙ all-from_Covers script kinds covers)
