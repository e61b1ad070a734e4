-- Instances of consensus in the order of their numbers: each is what its number finds.
use Rattle.std.proofs.Common.{◌≡◌, ◌⊎◌, inl, inr, ℕ, ◌<◌, Bool, true, false, List, [], ◌∷◌, Some, cond, sym, ap, ◌∙◌, arith, nat_cmp}
use Rattle.std.specs.Prelude.{⊤}
use Rattle.std.specs.Ordering.{is_eq}
use Rattle.std.proofs.lemmas.Bool.Decides.{nat_tests}
use Rattle.samoa_serial.specs.ConsTable.{instance_of}
use Rattle.samoa_serial.specs.Lists.{In}
use Rattle.samoa_serial.specs.declared.message.Instance.{Instance}

abbrev pub IsRising : List (ℕ × Instance) → Type 0
IsRising [] = ⊤
IsRising (e ∷ es) = ((x : ℕ × Instance) → In x es → e.0 < x.0) × IsRising es

-- ---- what stands at a number
pub not_here : (k a : ℕ) → (k < a) ⊎ (a < k) → is_eq (nat_cmp k a) ≡ false
not_here k a (inl h) = grind (arith, nat_tests)
not_here k a (inr h) = grind (arith, nat_tests)

here : (k a : ℕ) → k ≡ a → is_eq (nat_cmp k a) ≡ true
here k a e = grind (arith, nat_tests)

-- past the first, what stands there without it
pub past : (e : ℕ × Instance) (es : List (ℕ × Instance)) (k : ℕ) → e.0 < k → instance_of (e ∷ es) k ≡ instance_of es k
past e es k h = ap (λ (b : Bool). cond b (Some e.1) (instance_of es k)) (not_here k e.0 (inr h))

pub at_head : (e : ℕ × Instance) (es : List (ℕ × Instance)) (k : ℕ) → k ≡ e.0 → instance_of (e ∷ es) k ≡ Some e.1
at_head e es k h = ap (λ (b : Bool). cond b (Some e.1) (instance_of es k)) (here k e.0 h)

pub rising_finds : (es : List (ℕ × Instance)) (e : ℕ × Instance) → IsRising es → In e es → instance_of es e.0 ≡ Some e.1
rising_finds [] e r h = absurd h
rising_finds (d ∷ es) e r (inl f) = at_head d es e.0 (ap (λ (y : ℕ × Instance). y.0) f) ∙ ap (λ (y : ℕ × Instance). Some y.1) (sym f)
rising_finds (d ∷ es) e r (inr h) = past d es e.0 (r.0 e h) ∙ rising_finds es e r.1 h
