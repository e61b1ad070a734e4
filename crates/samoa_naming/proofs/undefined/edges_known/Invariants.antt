use Rattle.std.proofs.Common.{◌≡◌, None, take}
use Rattle.samoa_grammar.specs.Walks.{first_along}
use Rattle.samoa_naming.specs.Groups.{edge_unknown}
use Rattle.samoa_naming.proofs.undefined.edges_known.Given as goal

abbrev pub invariant-loop-edge : goal.invariant-loop-edge
invariant-loop-edge l = first_along (edge_unknown l.draft.micros) (take l.edge-index l.edges) ≡ None
