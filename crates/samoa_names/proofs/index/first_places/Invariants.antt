use Rattle.std.proofs.Common.{◌≡◌, ℕ, List, take, bytes_eq}
use Rattle.std.specs.List.{position}
use Rattle.std.specs.HashMap.{get_by_text}
use Rattle.samoa_names.proofs.index.first_places.Given as goal

abbrev pub invariant-loop-place : goal.invariant-loop-place
invariant-loop-place l = (q : List ℕ) → get_by_text l.firsts q ≡ position (bytes_eq q) (take l.place l.names)
