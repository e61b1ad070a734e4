use Rattle.std.proofs.Common.{◌≡◌, ◌++◌, take, map}
use Rattle.std.specs.List.{flat_map}
use Rattle.samoa_model.specs.Routes.{once}
use Rattle.samoa_grammar.specs.Meaning.{handler_of}
use Rattle.samoa_naming.specs.Routes.{ends_of}
use Rattle.samoa_naming.proofs.routes.vertices.Given as goal

abbrev pub invariant-loop-edge : goal.invariant-loop-edge
invariant-loop-edge l = l.found.items ≡ once (map (handler_of l.draft.micros) l.roots ++ flat_map (ends_of l.draft.micros) (take l.edge-index l.edges))
