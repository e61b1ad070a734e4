-- Names that stand once have numbers that stand once.
use Rattle.std.proofs.Common.{◌≡◌, ℕ, List, [], get_or, map, bytes_eq, None}
use Rattle.std.specs.List.{All, list_any}
use Rattle.samoa_model.specs.Range.{HasNoneTwice}
use Rattle.samoa_grammar.specs.Meaning.{number_in_names}
use Rattle.samoa_grammar.specs.Passes.{twice, among}
use Rattle.samoa_grammar.proofs.Dedup.{same_bytes, place_back}
use Rattle.samoa_grammar.proofs.Apart.{apart_map, twice_apart}
use Rattle.samoa_naming.proofs.Sizes.{when_passes}

-- the name of the number of a name
pub number_back : (names : List (List ℕ)) (name : List ℕ) → among names name ≡ None → get_or names (number_in_names names name) [] ≡ name
number_back names name h = place_back bytes_eq same_bytes names name [] (when_passes (list_any (bytes_eq name) names) _ h)

pub numbers_apart : (names ns : List (List ℕ)) → twice ns ≡ None → All (λ n. among names n ≡ None) ns → HasNoneTwice (map (number_in_names names) ns)
numbers_apart names ns once known =
    apart_map (number_in_names names) (λ i. get_or names i []) ns (λ k d below. number_back names (get_or ns k d) (known k d below)) (twice_apart ns once)
