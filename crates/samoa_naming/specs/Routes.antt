-- Lists that have each handler and each edge once.
use Rattle.std.specs.Prelude.{ℕ, List, [], ◌∷◌, ◌++◌, if◌then◌else◌}
use Rattle.std.specs.List.{list_any}
use Rattle.samoa_model.specs.declared.ids.HandlerId.{HandlerId}
use Rattle.samoa_model.specs.Allowed.{same_handler}
use Rattle.samoa_grammar.specs.declared.draft.MicroDraft.{MicroDraft}
use Rattle.samoa_grammar.specs.declared.draft.EdgeDraft.{EdgeDraft}
use Rattle.samoa_grammar.specs.Meaning.{same_edge, handler_of}

-- the list with a handler, at its end if it isn't there
abbrev pub with_handler : List HandlerId → HandlerId → List HandlerId
with_handler handlers h = if list_any (same_handler h) handlers then handlers else handlers ++ h ∷ []

-- the list with an edge, at its end if it isn't there
abbrev pub with_edge : List (ℕ × ℕ) → (ℕ × ℕ) → List (ℕ × ℕ)
with_edge edges e = if list_any (same_edge e) edges then edges else edges ++ e ∷ []

-- the ends of an edge
abbrev pub ends_of : List MicroDraft → EdgeDraft → List HandlerId
ends_of micros e = handler_of micros e.from ∷ handler_of micros e.to ∷ []
