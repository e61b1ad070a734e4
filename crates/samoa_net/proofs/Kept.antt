-- The first of what is gathered, up to a limit.
use Rattle.std.proofs.Common.{◌≡◌, ℕ, zero, suc, ◌<◌, ◌≤◌, Bool, true, false, cond, List, [], ◌∷◌, ◌++◌, length, take, refl, sym, ap, ◌∙◌, arith, length-append, append_assoc, append-nil}
use Rattle.std.proofs.lemmas.List.{take-append-le, take_all}

pub kept_full : {A : Type 0} (m : ℕ) (xs ys : List A) → length xs ≤ m → m ≤ length xs → xs ≡ take m (xs ++ ys)
kept_full m xs ys few full = sym (take-append-le m xs ys full ∙ take_all m xs few)

pub kept_other : {A : Type 0} (m : ℕ) (passes : Bool) (xs : List A) (x : A) → length xs ≤ m → passes ≡ false → xs ≡ take m (xs ++ cond passes (x ∷ []) [])
kept_other m passes xs x few other =
    sym (ap (λ b. take m (xs ++ cond b (x ∷ []) [])) other ∙ ap (take m) (append-nil xs) ∙ take_all m xs few)

pub kept_more : {A : Type 0} (m : ℕ) (passes : Bool) (xs : List A) (x : A) → length xs < m → passes ≡ true → xs ++ x ∷ [] ≡ take m (xs ++ cond passes (x ∷ []) [])
kept_more m passes xs x few passed =
    sym (ap (λ b. take m (xs ++ cond b (x ∷ []) [])) passed ∙ take_all m (xs ++ x ∷ []) (omega (arith, length-append xs (x ∷ []))))

take_first : {A : Type 0} (m : ℕ) (xs ys : List A) → take m (take m xs ++ ys) ≡ take m (xs ++ ys)
take_first zero xs ys = refl
take_first (suc m) [] ys = refl
take_first (suc m) (x ∷ xs) ys = ap (λ (zs : List _). x ∷ zs) (take_first m xs ys)

-- what is kept after what was kept
pub kept_then : {A : Type 0} (m : ℕ) (olds xs ys news : List A) → news ≡ take m (olds ++ xs) → take m (news ++ ys) ≡ take m (olds ++ (xs ++ ys))
kept_then m olds xs ys news e =
    ap (λ (zs : List _). take m (zs ++ ys)) e ∙ take_first m (olds ++ xs) ys ∙ ap (take m) (append_assoc olds xs ys)
