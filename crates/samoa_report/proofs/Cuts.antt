-- A list of bytes cut at the first place of a byte.
use Rattle.std.proofs.Common.{◌≡◌, ◌≢◌, ℕ, zero, suc, ◌+◌, ◌<◌, List, [], ◌∷◌, ◌++◌, Option, Some, None, IfNone, length, take, drop, slice_index, refl, sym, ap, subst, ◌∙◌, arith}
use Rattle.std.specs.Prelude.{⊤}
use Rattle.std.proofs.lemmas.Bool.{eq-eqb, eqb-true}
use Rattle.memchr.specs.Find.{IsFirstByte, is_byte}

-- what holds anyway holds if there's no value
pub if_none : {A P : Type 0} (r : Option A) → P → IfNone r P
if_none None p = p
if_none (Some x) p = tt

-- no byte of xs is b
abbrev pub Lacks : ℕ → List ℕ → Type 0
Lacks b [] = ⊤
Lacks b (x ∷ xs) = (x ≢ b) × Lacks b xs

pub lacks_append : (b : ℕ) (xs ys : List ℕ) → Lacks b xs → Lacks b ys → Lacks b (xs ++ ys)
lacks_append b [] ys p q = q
lacks_append b (x ∷ xs) ys p q = (p.0, lacks_append b xs ys p.1 q)

-- what holds b lacks it nowhere
pub lacks_none : (b : ℕ) (xs ys : List ℕ) → Lacks b (xs ++ b ∷ ys) → ⊥
lacks_none b [] ys p = p.0 refl
lacks_none b (x ∷ xs) ys p = lacks_none b xs ys p.1

-- two cuts at the first b are the same
pub same_cut : (b : ℕ) (xs ys us vs : List ℕ) → Lacks b xs → Lacks b ys → xs ++ b ∷ us ≡ ys ++ b ∷ vs → (xs ≡ ys) × (us ≡ vs)
same_cut b [] [] us vs p q e = (refl, cc)
same_cut b [] (y ∷ ys) us vs p q e = let h : y ≡ b = cc in absurd (q.0 h)
same_cut b (x ∷ xs) [] us vs p q e = let h : x ≡ b = cc in absurd (p.0 h)
same_cut b (x ∷ xs) (y ∷ ys) us vs p q e =
    let tails : xs ++ b ∷ us ≡ ys ++ b ∷ vs = cc in
    let k = same_cut b xs ys us vs p.1 q.1 tails in
    let here : x ≡ y = cc in
    let there : xs ≡ ys = k.0 in
    ((λ i. here i ∷ there i), k.1)

-- the bytes before the first place of b
pub lacks_before : (b n : ℕ) (hay : List ℕ) → ((k : ℕ) → k < n → k < length hay → slice_index hay k ≡ b → ⊥) → Lacks b (take n hay)
lacks_before b zero hay h = tt
lacks_before b (suc n) [] h = tt
lacks_before b (suc n) (x ∷ hay) h = (h 0 (omega arith) (omega arith), lacks_before b n hay (λ k l m. h (suc k) (omega arith) (omega arith)))

lacks_all : (b : ℕ) (hay : List ℕ) → ((k : ℕ) → k < length hay → slice_index hay k ≡ b → ⊥) → Lacks b hay
lacks_all b [] h = tt
lacks_all b (x ∷ hay) h = (h 0 (omega arith), lacks_all b hay (λ k l. h (suc k) (omega arith)))

-- a search that finds no b
pub nowhere_cut : (b : ℕ) (hay xs ys : List ℕ) → IsFirstByte (is_byte b) hay None → hay ≡ xs ++ b ∷ ys → ⊥
nowhere_cut b hay xs ys h e = lacks_none b xs ys (subst (Lacks b) e (lacks_all b hay (λ k l is. h k (omega arith) l (eq-eqb _ _ is))))

-- a search that finds b cuts where every other cut at the first b does
pub first_cut : (b at : ℕ) (hay xs ys : List ℕ) → IsFirstByte (is_byte b) hay (Some at) → Lacks b xs → hay ≡ xs ++ b ∷ ys → (take at hay ≡ xs) × (drop (at + 1) hay ≡ ys)
first_cut b at hay xs ys h p e =
    let here : slice_index hay at ≡ b = eqb-true _ _ h.1 in
    let next : suc at ≡ at + 1 = omega arith in
    same_cut b (take at hay) xs (drop (at + 1) hay) ys
    (lacks_before b at hay (λ k l m is. h.0.before k (omega arith) l (eq-eqb _ _ is)))
    p
    (sym (cut_here b at hay h.0.high here ∙ ap (λ n. take at hay ++ b ∷ drop n hay) next) ∙ e)
  where
    cut_here : (b at : ℕ) (hay : List ℕ) → at < length hay → slice_index hay at ≡ b → hay ≡ take at hay ++ b ∷ drop (suc at) hay
    cut_here b at [] l e = absurd (omega arith)
    cut_here b zero (x ∷ hay) l e = λ i. e i ∷ hay
    cut_here b (suc at) (x ∷ hay) l e = ap (λ r. x ∷ r) (cut_here b at hay (omega arith) e)
