-- What the entries of a computation say of its calls.
use Rattle.std.specs.Prelude.{ℕ, ◌+◌, List, [], ◌∷◌, ◌==◌, if◌then◌else◌}
use Rattle.samoa_model.specs.declared.record.Entry.{Entry}

-- the number of calls made so far. Call number j is the j-th accepted entry
abbrev pub calls_made : List Entry → ℕ
calls_made [] = 0
calls_made (Entry.Accepted call caller handler arg ∷ es) = calls_made es + 1
calls_made (_ ∷ es) = calls_made es

-- the number of calls made at a microprotocol
abbrev pub calls_at : List Entry → ℕ → ℕ
calls_at [] p = 0
calls_at (Entry.Accepted call caller handler arg ∷ es) p = if handler.micro.0 == p then calls_at es p + 1 else calls_at es p
calls_at (_ ∷ es) p = calls_at es p
