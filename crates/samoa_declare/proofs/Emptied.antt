-- A list without a first item is empty.
use Rattle.std.proofs.Common.{◌≡◌, refl, List, [], ◌∷◌, None, slice_get}
use Rattle.samoa_model.specs.declared.ids.HandlerId.{HandlerId}

pub none_empty : (xs : List HandlerId) → None ≡ slice_get xs 0 → xs ≡ []
none_empty [] is = refl
none_empty (x ∷ xs) is = cc
