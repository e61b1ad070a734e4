use Rattle.samoa_vca_route.proofs.Walking.{away_test, here_test}
use Rattle.samoa_vca_route.proofs.release.is_away.Goals as goal

pub returns-then-handler-micro : goal.returns-then-handler-micro
returns-then-handler-micro c =
    away_test c.args.vertices.now c.args.edges.now c.args.micro c.args.handler c.reaches.result c.requires c.if-handler-micro.true c.reaches.ensures

pub returns-else-handler-micro : goal.returns-else-handler-micro
returns-else-handler-micro c =
    here_test c.args.vertices.now c.args.edges.now c.args.micro c.args.handler c.if-handler-micro.false
