-- The handlers of a route, each once.
use Rattle.std.specs.Prelude.{ℕ, List, [], ◌∷◌, ◌++◌, map, get_or, if◌then◌else◌}
use Rattle.std.specs.List.{list_any, flat_map}
use Rattle.samoa_model.specs.declared.ids.HandlerId.{HandlerId}
use Rattle.samoa_model.specs.Allowed.{same_handler, no_handler}

-- each handler once, in first-seen order, but for those seen before
abbrev pub once_after : List HandlerId → List HandlerId → List HandlerId
once_after before [] = []
once_after before (h ∷ hs) = if list_any (same_handler h) before then once_after before hs else h ∷ once_after (before ++ h ∷ []) hs

abbrev pub once : List HandlerId → List HandlerId
once hs = once_after [] hs

-- a vertex of a route by its number
abbrev pub vertex_at : List HandlerId → ℕ → HandlerId
vertex_at vertices v = get_or vertices v no_handler

-- the ends of an edge
abbrev pub ends_at : List HandlerId → ℕ × ℕ → List HandlerId
ends_at vertices e = vertex_at vertices e.0 ∷ vertex_at vertices e.1 ∷ []

-- the roots of a route, and then the ends of its edges
abbrev pub met : List HandlerId → List ℕ → List (ℕ × ℕ) → List HandlerId
met vertices roots edges = map (vertex_at vertices) roots ++ flat_map (ends_at vertices) edges
