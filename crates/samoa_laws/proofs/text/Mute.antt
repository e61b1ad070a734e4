-- Lines that tell nothing.
use Rattle.std.proofs.Common.{◌≡◌, refl, sym, ap, subst, ◌∙◌, ℕ, ◌==◌, Bool, true, false, ◌||◌, if◌then◌else◌, List, [], ◌∷◌, ◌++◌, append_assoc, append-nil, bytes_eq, codes}
use Rattle.samoa_serial.specs.Lists.{Each}
use Rattle.samoa_laws.specs.text.Text.{fields, pieces_after}
use Rattle.samoa_laws.specs.text.Told.{field, heads}
use Rattle.samoa_laws.specs.text.Clause.{IsMute, IsMuteLine}
use Rattle.samoa_laws.proofs.text.Texts.{Plain, line_is}

pub mute_line : (line rest : List ℕ) → Plain line → IsMuteLine line → IsMute rest → IsMute ((line ++ codes "\n") ++ rest)
mute_line line rest plain mute more = subst (Each IsMuteLine) (sym (line_is line rest plain.lacks)) (mute, more)

-- a line whose first byte is another is no such letter
other_field : (x y : ℕ) → (x == y) ≡ false → (begun rest : List ℕ) → bytes_eq (field (pieces_after 32 (x ∷ begun) (rest ++ codes " ")) 0) (y ∷ []) ≡ false
other_field x y other begun [] = rw other
other_field x y other begun (c ∷ rest) = go (c == 32) (other_field x y other (begun ++ c ∷ []) rest)
  where
    go : (b : Bool) → bytes_eq (field (pieces_after 32 (x ∷ (begun ++ c ∷ [])) (rest ++ codes " ")) 0) (y ∷ []) ≡ false
        → bytes_eq (field (if b then (x ∷ begun) ∷ pieces_after 32 [] (rest ++ codes " ") else pieces_after 32 (x ∷ (begun ++ c ∷ [])) (rest ++ codes " ")) 0) (y ∷ []) ≡ false
    go true on = rw other
    go false on = on

-- the first byte neither ends a field nor is one of the letters `B`, `D`, `E`
abbrev pub IsOther : ℕ → Type 0
IsOther x = ((x == 32) ≡ false) × (((x == 66) ≡ false) × (((x == 68) ≡ false) × ((x == 69) ≡ false)))

begun_line : (x : ℕ) (rest : List ℕ) → IsOther x → IsMuteLine (x ∷ rest)
begun_line x rest other =
    let F : Bool → Type 0 = λ b. IsMuteField (if b then [] ∷ pieces_after 32 [] (rest ++ codes " ") else pieces_after 32 (x ∷ []) (rest ++ codes " ")) in
    subst F (sym other.0) (both_false _ _ (other_field x 69 other.1.1.1 [] rest) (other_field x 66 other.1.0 [] rest), other_field x 68 other.1.1.0 [] rest)
  where
    IsMuteField : List (List ℕ) → Type 0
    IsMuteField fs = (heads fs ≡ false) × (bytes_eq (field fs 0) (codes "D") ≡ false)

    both_false : (a b : Bool) → a ≡ false → b ≡ false → (a || b) ≡ false
    both_false true b e f = e
    both_false false b e f = f

-- one line that begins with another byte
pub mute_begun : (x : ℕ) (rest : List ℕ) → IsOther x → Plain (x ∷ rest) → IsMute (x ∷ (rest ++ codes "\n"))
mute_begun x rest other plain = subst IsMute (append-nil (x ∷ (rest ++ codes "\n"))) (mute_line (x ∷ rest) [] plain (begun_line x rest other) tt)
