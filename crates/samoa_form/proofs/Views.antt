-- Values of `serde_json`, as lists of trees.
use Rattle.std.proofs.Common.{◌≡◌, List, [], ◌∷◌, map, refl, sym, ap, ap₂, ◌∙◌, ℕ, Bor, string_bytes, String, Global}
use Rattle.std.specs.Prelude.{Bool, ◌&&◌, bytes_eq}
use Rattle.std.specs.List.{list_any, list_all}
use Rattle.std.specs.Map.{keys_of as entry_keys}
use Rattle.serde_json.specs.View.{view, items_view, members_view}
use Rattle.serde_json.specs.declared.value.Value.{Value}
use Rattle.samoa_grammar.specs.Tree.{items_list, keys_of, known_keys}
use Rattle.samoa_grammar.proofs.Lists.{list_any-map}

pub items_list-items_view : (vs : List Value) → items_list (items_view vs) ≡ map view vs
items_list-items_view [] = refl
items_list-items_view (v ∷ vs) = ap (λ ds. view v ∷ ds) (items_list-items_view vs)

pub keys_of-members_view : (es : List (String Global × Value)) → keys_of (members_view es) ≡ map string_bytes (entry_keys es)
keys_of-members_view [] = refl
keys_of-members_view (e ∷ es) = ap (λ ks. string_bytes e.0 ∷ ks) (keys_of-members_view es)

known_here : (names : List (Bor (List ℕ))) (es : List (String Global × Value))
    → list_all (λ key. list_any (λ (name : Bor (List ℕ)). bytes_eq name.now (string_bytes key)) names) (entry_keys es) ≡ known_keys (map (λ (name : Bor (List ℕ)). name.now) names) (members_view es)
known_here names [] = refl
known_here names (e ∷ es) =
    ap₂ (λ a b. a && b) (sym (list_any-map (λ name. bytes_eq name (string_bytes e.0)) (λ (name : Bor (List ℕ)). name.now) names)) (known_here names es)

-- the keys of a map are from a list of names exactly where those of the object are
pub known_keys-members_view : (names : List (Bor (List ℕ))) (es : List (String Global × Value)) (b : Bool)
    → b ≡ list_all (λ key. list_any (λ (name : Bor (List ℕ)). bytes_eq name.now (string_bytes key)) names) (entry_keys es)
    → b ≡ known_keys (map (λ (name : Bor (List ℕ)). name.now) names) (members_view es)
known_keys-members_view names es b h = h ∙ known_here names es

pub ruleset items_view_lists = (items_list-items_view)
