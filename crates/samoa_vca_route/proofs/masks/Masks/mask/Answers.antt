use Rattle.std.proofs.Common.{◌∙◌, sym}
use Rattle.samoa_vca_route.proofs.Masking.{listed_mask}
use Rattle.samoa_vca_route.proofs.masks.Masks.mask.Goals as goal

pub returns-in-Some : goal.returns-in-Some
returns-in-Some c =
    listed_mask c.args.vertices.now c.args.edges.now c.args.self.now c.args.handler c.in-Some.mask c.requires.masks c.if-handler-lt24.true (sym c.word.ensures ∙ c.in-Some.is)
