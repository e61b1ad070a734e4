-- Words on a JSON tree.
use Rattle.std.specs.Prelude.{◌≡◌, ℕ, Bool, false, List, [], ◌∷◌, Option, Some, option_and_then, option_map, unwrap_or, is_some, IsUtf8, bytes_eq}
use Rattle.std.specs.List.{list_all, list_any}
use Rattle.serde_json.specs.Data.{Data, null, Items, no_items, item, Members, no_members, member}
use Rattle.serde_json.specs.Find.{get, as_number, as_u64, as_str, as_array, as_object}
use Rattle.serde_json.specs.Read.{read}

-- the bytes are a JSON text, and this is its tree
abbrev pub IsJson : List ℕ → Data → Type 0
IsJson bytes d = IsUtf8 bytes × (read bytes ≡ Some d)

-- the part of an object at a key; a key that isn't there reads as null
abbrev pub part : List ℕ → Data → Data
part key d = unwrap_or (get key d) null

abbrev pub keys_of : Members → List (List ℕ)
keys_of no_members = []
keys_of (member k d ms) = k ∷ keys_of ms

-- the keys are from this list
abbrev pub known_keys : List (List ℕ) → Members → Bool
known_keys keys ms = list_all (λ k. list_any (λ name. bytes_eq name k) keys) (keys_of ms)

-- an object, with keys from this list alone
abbrev pub has_only : List (List ℕ) → Data → Bool
has_only keys d = unwrap_or (option_map (known_keys keys) (as_object d)) false

abbrev pub items_list : Items → List Data
items_list no_items = []
items_list (item d ds) = d ∷ items_list ds

abbrev pub is_list : Data → Bool
is_list d = is_some (as_array d)

-- the items of a list
abbrev pub list_of : Data → List Data
list_of d = items_list (unwrap_or (as_array d) no_items)

abbrev pub number_in : Data → Option ℕ
number_in d = option_and_then as_u64 (as_number d)

abbrev pub is_number : Data → Bool
is_number d = is_some (number_in d)

abbrev pub number_of : Data → ℕ
number_of d = unwrap_or (number_in d) 0

abbrev pub is_text : Data → Bool
is_text d = is_some (as_str d)

abbrev pub text_of : Data → List ℕ
text_of d = unwrap_or (as_str d) []
