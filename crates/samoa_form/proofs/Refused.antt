-- An item that fails its test, in a list of items.
use Rattle.std.proofs.Common.{◌≡◌, ℕ, ◌<◌, Bool, false, List, length, get_or, map, sym, ap, ◌∙◌}
use Rattle.std.specs.List.{list_all}
use Rattle.std.proofs.lemmas.List.Folds.{list_all-map, list_all_at}
use Rattle.serde_json.specs.Data.{Data}
use Rattle.serde_json.specs.View.{view}
use Rattle.serde_json.specs.declared.value.Value.{Value}

pub refused_at : (passes : Data → Bool) (vs : List Value) (i : ℕ) (v : Value) → i < length vs → v ≡ get_or vs i v → passes (view v) ≡ false → list_all passes (map view vs) ≡ false
refused_at passes vs i v below here fails =
    list_all-map passes view vs ∙ list_all_at (λ w. passes (view w)) vs i v below (ap (λ w. passes (view w)) (sym here) ∙ fails)

-- a test along a list of values
pub all_view : (passes : Data → Bool) (vs : List Value) → list_all passes (map view vs) ≡ list_all (λ w. passes (view w)) vs
all_view passes vs = list_all-map passes view vs

pub ruleset all_along = (all_view)
