use Rattle.std.proofs.Common.{refl, false, replicate}
use Rattle.samoa_vca_route.proofs.Marking.{no_marks}
use Rattle.samoa_vca_route.proofs.Masking.{outside_mask, walked_mask}
use Rattle.samoa_vca_route.proofs.words.mask_from.Goals as goal

pub returns-then-not-is_vertex : goal.returns-then-not-is_vertex
returns-then-not-is_vertex c =
    outside_mask c.args.vertices.now c.args.edges.now c.args.start c.bit.result c.requires (c.if-not-is_vertex.ensures.none refl) c.bit.ensures

pub walk-requires-clause-unmarked : goal.walk-requires-clause-unmarked
walk-requires-clause-unmarked c = λ place. no_marks (replicate 32 false) refl place

pub returns : goal.returns
returns c =
    walked_mask c.args.vertices.now c.args.edges.now c.args.start c.walk.new.marks c.marked.result c.requires (c.if-not-is_vertex.ensures.vertex refl) c.walk.ensures c.marked.ensures
