use Rattle.std.proofs.Common.{arith, sym, ap₂, ◌∙◌}
use Rattle.samoa_grammar.specs.Meaning.{edge_numbers}
use Rattle.samoa_naming.specs.Routes.{with_edge}
use Rattle.samoa_naming.proofs.Once.{edges_more}
use Rattle.samoa_naming.proofs.routes.edges_once.Goals as goal

pub loop-edge-preserved : goal.loop-edge-preserved
loop-edge-preserved c =
    c.in_ok-add_edge.ensures
    ∙ ap₂ (λ es e. with_edge es e) c.loop-edge.invariant c.numbers_of.ensures
    ∙ sym (edges_more (edge_numbers c.args.draft.now.micros c.args.vertices.now) c.args.edges.now c.loop-edge.edge-index c.edge-item.result (omega arith) c.edge-item.is)
