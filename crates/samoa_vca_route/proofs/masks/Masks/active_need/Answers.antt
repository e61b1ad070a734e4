use Rattle.std.proofs.Common.{◌∙◌, sym}
use Rattle.samoa_model.specs.Paths.{IsSafe}
use Rattle.samoa_vca_route.proofs.Masking.{all_first, one_more}
use Rattle.samoa_vca_route.proofs.masks.Masks.active_need.Goals as goal

pub loop-handler-preserved : goal.loop-handler-preserved
loop-handler-preserved g c =
    one_more c.args.vertices.now c.args.edges.now (g.T.Standing.active_handlers c.args.standing.now) c.loop-handler.at c.loop-handler.needed c.mask-needed.result c.in-Some.handler
    (sym c.active.ensures.listed ∙ c.in-Some.is) c.loop-handler.invariant c.mask-needed.ensures

pub returns : goal.returns
returns g c = λ p within.
    let all = all_first (IsSafe c.args.vertices.now c.args.edges.now p) (g.T.Standing.active_handlers c.args.standing.now) c.loop-handler.at (sym c.active.ensures.listed ∙ c.in_default.is) in
    (λ clear. all.0 ((c.loop-handler.invariant p within).0 clear), λ safe. (c.loop-handler.invariant p within).1 (all.1 safe))
