-- Sets of which members are taken out.
use Rattle.std.proofs.Common.{arith, ◌≡◌, ◌≢◌, ◌⊎◌, inl, inr, ℕ, suc, ◌+◌, ◌<◌, ◌≤◌, refl, sym, ap, ◌∙◌, List, [], ◌∷◌, length, replicate, set, Bool, true, false}
use Rattle.std.proofs.lemmas.Bool.{cases_eq, cases_lt}
use Rattle.std.proofs.lemmas.Grind.{get_or-set_at}
use Rattle.std.proofs.lemmas.List.{get_or-set_other}
use Rattle.samoa_versions.specs.Ready.{is_member}
use Rattle.samoa_core.specs.Settling.{NoneBelow}

-- a set without a member
pub all-none : (members : List Bool) → ((k : ℕ) → is_member members k ≡ false) → members ≡ replicate (length members) false
all-none [] none = refl
all-none (b ∷ rest) none =
    let here : b ≡ false = none 0 in
    rw here (ap (λ (xs : List Bool). false ∷ xs) (all-none rest (λ k. none (suc k))))

-- the least member isn't among those of which there is none
pub member-past : (members : List Bool) (n at : ℕ) → NoneBelow members n → is_member members at ≡ true → n ≤ at
member-past members n at none member = go (cases_lt at n)
  where
    go : (at < n) ⊎ (n ≤ at) → n ≤ at
    go (inl lt) = absurd (let never : true ≡ false = sym member ∙ none at lt in cc)
    go (inr le) = le

-- once it is taken out there is none up to its place
pub none-up : (members : List Bool) (at : ℕ) → at < length members → NoneBelow members at → NoneBelow (set members at false) (at + 1)
none-up members at within below i lt = go (cases_eq i at)
  where
    go : (i ≡ at) ⊎ (i ≢ at) → is_member (set members at false) i ≡ false
    go (inl here) = get_or-set_at members at i false false here within
    go (inr ne) = get_or-set_other members at i false false ne ∙ below i (omega (arith, lt, ne))
