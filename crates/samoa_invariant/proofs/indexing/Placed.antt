-- Sets that are kept by place from the first computation on.
use Rattle.std.proofs.Common.{arith, ◌≡◌, ◌≢◌, ◌-◌, ℕ, ◌≤◌, ◌<◌, ◌⊎◌, inl, inr, sym, ap, ◌∙◌, List, length, set, replicate, Bool, false}
use Rattle.std.proofs.lemmas.Bool.{cases_eq}
use Rattle.std.proofs.lemmas.Grind.{get_or-set_at}
use Rattle.std.proofs.lemmas.List.{get_or-replicate, get_or-set_other, get_or_past, length-replicate}
use Rattle.samoa_versions.specs.Ready.{is_member}
use Rattle.samoa_invariant.specs.State.{put}
use Rattle.samoa_invariant.specs.Index.{placed}
use Rattle.samoa_invariant.proofs.preservation.Slots.{put-else, put-here}

-- one becomes a member or none
pub placed-set : (first : ℕ) (members : List Bool) (at : ℕ) (b : Bool) (k : ℕ) → first ≤ at → at - first < length members → first ≤ k
    → placed first (set members (at - first) b) k ≡ put (placed first members) at b k
placed-set first members at b k le within from = go (cases_eq k at)
  where
    go : (k ≡ at) ⊎ (k ≢ at) → placed first (set members (at - first) b) k ≡ put (placed first members) at b k
    go (inl e) = get_or-set_at members (at - first) (k - first) b false (ap (λ (n : ℕ). n - first) e) within ∙ sym (put-here (placed first members) at k b e)
    go (inr ne) =
        get_or-set_other members (at - first) (k - first) b false (λ (e : k - first ≡ at - first). ne (omega arith))
        ∙ sym (put-else (placed first members) at k b ne)

-- none is a member of an empty set
none-member : (size i : ℕ) → (i < size) ⊎ (size ≤ i) → is_member (replicate size false) i ≡ false
none-member size i (inl lt) = get_or-replicate size i false false lt
none-member size i (inr le) = get_or_past (replicate size false) i false (omega (arith, le, length-replicate size false))

before_or_past : (i n : ℕ) → (i < n) ⊎ (n ≤ i)
before_or_past i n = grind arith

pub placed-none : (first size k : ℕ) → placed first (replicate size false) k ≡ false
placed-none first size k = none-member size (k - first) (before_or_past (k - first) size)
