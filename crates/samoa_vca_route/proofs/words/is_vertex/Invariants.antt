use Rattle.std.proofs.Common.{◌≢◌, ◌<◌, ℕ}
use Rattle.samoa_vca_route.specs.Routes.{vertex_at}
use Rattle.samoa_vca_route.proofs.words.is_vertex.Given as goal

abbrev pub invariant-loop-vertex : goal.invariant-loop-vertex
invariant-loop-vertex l = (place : ℕ) → place < l.vertex-index → vertex_at l.vertices place ≢ l.handler
