-- Lists: what stands in them, which begin one another, first places, and what stands apart.
use Rattle.std.proofs.Common.{Some, Option, Bool, true, false, not, cond, ◌||◌, ◌≡◌, ◌⊎◌, inl, inr, List, [], ◌∷◌, ◌++◌, map, refl, sym, ap, ◌∙◌, filter, if◌then◌else◌, append_assoc, append-nil, true≢false}
use Rattle.std.specs.List.{list_any}
use Rattle.std.proofs.lemmas.Bool.{cond_both, or_left, or_right, false≢true}
use Rattle.std.proofs.lemmas.List.{map-append}
use Rattle.std.proofs.lemmas.List.Elements.{filter-append}
use Rattle.samoa_serial.proofs.ListLaws.{in_middle, begins-trans}
use Rattle.samoa_laws.specs.lists.Lists.{In, Begins, Comparable, among, firsts, unknown, IsApart, EndsOnlyIn}

-- ---- tests
or_assoc : (a b c : Bool) → ((a || b) || c) ≡ (a || (b || c))
or_assoc true b c = refl
or_assoc false b c = refl

pub or_none : (a : Bool) → (a || false) ≡ a
or_none true = refl
or_none false = refl

-- a test that holds where b does adds nothing to b
or_absorbs : (b c : Bool) → (c ≡ true → b ≡ true) → (b || c) ≡ b
or_absorbs true c h = refl
or_absorbs false true h = absurd (false≢true (h refl))
or_absorbs false false h = refl

-- what known has, or is like x, and so on: two orders of adding
or_swap : (s a b : Bool) → ((s || a) || b) ≡ ((s || b) || a)
or_swap true a b = refl
or_swap false true true = refl
or_swap false true false = refl
or_swap false false true = refl
or_swap false false false = refl

pub or_false_both : (a b : Bool) → (a || b) ≡ false → (a ≡ false) × (b ≡ false)
or_false_both true b e = absurd (cc)
or_false_both false b e = (refl, e)

pub some_same : {A : Type 0} (o : Option A) (m n : A) → o ≡ Some m → o ≡ Some n → m ≡ n
some_same o m n e f = cc

-- ---- what stands in a list
pub in_end : {A : Type 0} (xs : List A) (y : A) → In y (xs ++ y ∷ [])
in_end xs y = in_middle y xs []

pub in_split : {A : Type 0} (xs : List A) (y z : A) → In z (xs ++ y ∷ []) → In z xs ⊎ (z ≡ y)
in_split [] y z (inl e) = inr e
in_split [] y z (inr none) = absurd none
in_split (x ∷ xs) y z (inl e) = inl (inl e)
in_split (x ∷ xs) y z (inr h) = go (in_split xs y z h)
  where
    go : In z xs ⊎ (z ≡ y) → In z (x ∷ xs) ⊎ (z ≡ y)
    go (inl i) = inl (inr i)
    go (inr e) = inr e

pub in_map : {A B : Type 0} (f : A → B) (xs : List A) (x : A) → In x xs → In (f x) (map f xs)
in_map f [] x h = absurd h
in_map f (y ∷ ys) x (inl e) = inl (ap f e)
in_map f (y ∷ ys) x (inr h) = inr (in_map f ys x h)

pub in_mapped : {A B : Type 0} (f : A → B) (xs : List A) (y : B) → In y (map f xs) → (x : A) × In x xs × (f x ≡ y)
in_mapped f [] y h = absurd h
in_mapped f (x ∷ xs) y (inl e) = (x, inl refl, sym e)
in_mapped f (x ∷ xs) y (inr h) =
    let r = in_mapped f xs y h in (r.0, inr r.1, r.2)

pub in_any : {A : Type 0} (p : A → Bool) (xs : List A) (x : A) → In x xs → p x ≡ true → list_any p xs ≡ true
in_any p [] x h t = absurd h
in_any p (y ∷ ys) x (inl e) t = ap (λ (b : Bool). b || list_any p ys) (sym (ap p e) ∙ t)
in_any p (y ∷ ys) x (inr h) t = go (p y) (in_any p ys x h t)
  where
    go : (b : Bool) → list_any p ys ≡ true → (b || list_any p ys) ≡ true
    go true r = refl
    go false r = r

pub any_in : {A : Type 0} (p : A → Bool) (xs : List A) → list_any p xs ≡ true → (x : A) × In x xs × (p x ≡ true)
any_in p [] t = absurd (cc)
any_in {A} p (y ∷ ys) t = go (any_in p ys) (p y) refl t
  where
    go : (list_any p ys ≡ true → (x : A) × In x ys × (p x ≡ true)) → (b : Bool) → p y ≡ b → (b || list_any p ys) ≡ true
        → (x : A) × In x (y ∷ ys) × (p x ≡ true)
    go ih true e h = (y, inl refl, e)
    go ih false e h =
        let r = ih h in (r.0, inr r.1, r.2)

-- where a list is cut at two places, its head stands before the second or at it
pub head_in : {A : Type 0} (x : A) (xs : List A) (ys : List A) (y : A) (zs : List A) → x ∷ xs ≡ ys ++ y ∷ zs → In x (ys ++ y ∷ [])
head_in x xs [] y zs e = inl (let both : x ∷ xs ≡ y ∷ zs = e in cc)
head_in x xs (w ∷ ws) y zs e = inl (let both : x ∷ xs ≡ w ∷ (ws ++ y ∷ zs) = e in cc)

-- ---- beginnings
pub begins_after : {A : Type 0} (f l m : List A) → Begins l m → Begins (f ++ l) (f ++ m)
begins_after f l m p = record { rest = p.rest; is = ap (λ z. f ++ z) p.is ∙ sym (append_assoc f l p.rest) }

pub begins_filter : {A : Type 0} (p : A → Bool) (l m : List A) → Begins l m → Begins (filter p l) (filter p m)
begins_filter p l m h = record { rest = filter p h.rest; is = ap (λ z. filter p z) h.is ∙ filter-append p l h.rest }

pub begins_map : {A B : Type 0} (f : A → B) (l m : List A) → Begins l m → Begins (map f l) (map f m)
begins_map f l m h = record { rest = map f h.rest; is = ap (λ z. map f z) h.is ∙ map-append f l h.rest }

pub comparable_filter : {A : Type 0} (p : A → Bool) (l m : List A) → Comparable l m → Comparable (filter p l) (filter p m)
comparable_filter p l m (inl h) = inl (begins_filter p l m h)
comparable_filter p l m (inr h) = inr (begins_filter p m l h)

pub comparable_map : {A B : Type 0} (f : A → B) (l m : List A) → Comparable l m → Comparable (map f l) (map f m)
comparable_map f l m (inl h) = inl (begins_map f l m h)
comparable_map f l m (inr h) = inr (begins_map f m l h)

pub comparable_after : {A : Type 0} (f l m : List A) → Comparable l m → Comparable (f ++ l) (f ++ m)
comparable_after f l m (inl h) = inl (begins_after f l m h)
comparable_after f l m (inr h) = inr (begins_after f m l h)

pub comparable_back : {A : Type 0} (l m : List A) → Comparable l m → Comparable m l
comparable_back l m (inl h) = inr h
comparable_back l m (inr h) = inl h

head_of : {A : Type 0} (x y : A) (xs ys : List A) → x ∷ xs ≡ y ∷ ys → x ≡ y
head_of x y xs ys e = cc

tail_of : {A : Type 0} (x y : A) (xs ys : List A) → x ∷ xs ≡ y ∷ ys → xs ≡ ys
tail_of x y xs ys e = cc

cons_begins : {A : Type 0} (x y : A) (l m : List A) → x ≡ y → Begins l m → Begins (x ∷ l) (y ∷ m)
cons_begins x y l m e h = record { rest = h.rest; is = ap (λ z. y ∷ z) h.is ∙ ap (λ z. z ∷ (l ++ h.rest)) (sym e) }

-- two that begin one list
both_begin : {A : Type 0} (l m r s : List A) → l ++ r ≡ m ++ s → Comparable l m
both_begin [] m r s e = inl (record { rest = m; is = refl })
both_begin (x ∷ l) [] r s e = inr (record { rest = x ∷ l; is = refl })
both_begin (x ∷ l) (y ∷ m) r s e = go (both_begin l m r s (tail_of x y (l ++ r) (m ++ s) e))
  where
    same : x ≡ y
    same = head_of x y (l ++ r) (m ++ s) e

    go : Comparable l m → Comparable (x ∷ l) (y ∷ m)
    go (inl h) = inl (cons_begins x y l m same h)
    go (inr h) = inr (cons_begins y x m l (sym same) h)

pub begin_one : {A : Type 0} (l m k : List A) → Begins l k → Begins m k → Comparable l m
begin_one l m k p q = both_begin l m p.rest q.rest (sym p.is ∙ q.is)

-- prefixes of comparable lists are comparable
pub comparable_begins : {A : Type 0} (l m l' m' : List A) → Comparable l m → Begins l' l → Begins m' m → Comparable l' m'
comparable_begins l m l' m' (inl h) p q = begin_one l' m' m (begins-trans l' l m p h) q
comparable_begins l m l' m' (inr h) p q = begin_one l' m' l p (begins-trans m' m l q h)

-- ---- one element at the end
pub any_append : {A : Type 0} (p : A → Bool) (l m : List A) → list_any p (l ++ m) ≡ (list_any p l || list_any p m)
any_append p [] m = refl
any_append p (x ∷ l) m = ap (λ b. p x || b) (any_append p l m) ∙ sym (or_assoc (p x) (list_any p l) (list_any p m))

-- ---- first places
firsts_cong : {A : Type 0} (same : A → A → Bool) (S T : A → Bool) → ((y : A) → S y ≡ T y) → (l : List A) → firsts same S l ≡ firsts same T l
firsts_cong {A} same S T h l = ap (λ (u : A → Bool). firsts same u l) (λ k y. h y k)

-- what is like something known is known
abbrev pub IsClosed : {A : Type 0} → (A → A → Bool) → (A → Bool) → Type 0
IsClosed {A} same S = (x y : A) → S x ≡ true → same x y ≡ true → S y ≡ true

abbrev pub IsTransitive : {A : Type 0} → (A → A → Bool) → Type 0
IsTransitive {A} same = (x y z : A) → same x y ≡ true → same y z ≡ true → same x z ≡ true

-- known, or like x
abbrev pub with_one : {A : Type 0} → (A → A → Bool) → (A → Bool) → A → A → Bool
with_one same S x = λ y. S y || same x y

closed_with : {A : Type 0} (same : A → A → Bool) → IsTransitive same → (S : A → Bool) → IsClosed same S → (x : A) → IsClosed same (with_one same S x)
closed_with same trans S closed x a b h e = go (S a) refl
  where
    go : (t : Bool) → S a ≡ t → (S b || same x b) ≡ true
    go true s = or_left (S b) (same x b) (closed a b s e)
    go false s = or_right (S b) (same x b) (trans x a b (ap (λ t. t || same x a) (sym s) ∙ h) e)

pub closed_among : {A : Type 0} (same : A → A → Bool) → IsTransitive same → (l : List A) → IsClosed same (among same l)
closed_among same trans [] x y h e = absurd (cc)
closed_among same trans (z ∷ l) x y h e = go (closed_among same trans l x y) (same z x) refl h
  where
    go : (among same l x ≡ true → same x y ≡ true → among same l y ≡ true) → (t : Bool) → same z x ≡ t → (t || among same l x) ≡ true
        → (same z y || among same l y) ≡ true
    go ih true s i = or_left (same z y) (among same l y) (trans z x y s e)
    go ih false s i = or_right (same z y) (among same l y) (ih i e)

-- a list after another: what the first has is known then
pub firsts-append : {A : Type 0} (same : A → A → Bool) → IsTransitive same → (S : A → Bool) → IsClosed same S → (l r : List A)
    → firsts same S (l ++ r) ≡ firsts same S l ++ firsts same (λ y. S y || among same l y) r
firsts-append same trans S closed [] r = firsts_cong same S (λ y. S y || false) (λ y. sym (or_none (S y))) r
firsts-append {A} same trans S closed (x ∷ l) r =
    go (firsts-append same trans S closed l r) (firsts-append same trans (with_one same S x) (closed_with same trans S closed x) l r) (S x) refl
  where
    all : A → Bool
    all y = S y || (same x y || among same l y)

    go : firsts same S (l ++ r) ≡ firsts same S l ++ firsts same (λ y. S y || among same l y) r
        → firsts same (with_one same S x) (l ++ r) ≡ firsts same (with_one same S x) l ++ firsts same (λ y. (S y || same x y) || among same l y) r
        → (t : Bool) → S x ≡ t
        → cond t (firsts same S (l ++ r)) (x ∷ firsts same (with_one same S x) (l ++ r))
        ≡ cond t (firsts same S l) (x ∷ firsts same (with_one same S x) l) ++ firsts same (λ y. S y || (same x y || among same l y)) r
    go skip keep true s =
        skip ∙ ap (λ z. firsts same S l ++ z)
        (firsts_cong same (λ y. S y || among same l y) (λ y. S y || (same x y || among same l y))
        (λ y. ap (λ b. b || among same l y) (sym (or_absorbs (S y) (same x y) (λ e. closed x y s e))) ∙ or_assoc (S y) (same x y) (among same l y)) r)
    go skip keep false s =
        ap (λ z. x ∷ z) keep ∙ ap (λ z. x ∷ (firsts same (with_one same S x) l ++ z))
        (firsts_cong same (λ y. (S y || same x y) || among same l y) (λ y. S y || (same x y || among same l y))
        (λ y. or_assoc (S y) (same x y) (among same l y)) r)

-- nothing is known, and so all that is like it is
pub closed_unknown : {A : Type 0} (same : A → A → Bool) → IsClosed same unknown
closed_unknown same x y known alike = absurd (cc)

-- one element more stands at the end where it is new
firsts_push : {A : Type 0} (same : A → A → Bool) → IsTransitive same → (l : List A) (x : A)
    → firsts same unknown (l ++ x ∷ []) ≡ firsts same unknown l ++ (if among same l x then [] else x ∷ [])
firsts_push same trans l x = firsts-append same trans unknown (closed_unknown same) l (x ∷ [])

pub firsts_old : {A : Type 0} (same : A → A → Bool) → IsTransitive same → (l : List A) (x : A) → among same l x ≡ true
    → firsts same unknown (l ++ x ∷ []) ≡ firsts same unknown l
firsts_old same trans l x old =
    firsts_push same trans l x ∙ (ap (λ (b : Bool). firsts same unknown l ++ (if b then [] else x ∷ [])) old ∙ append-nil (firsts same unknown l))

pub firsts_new : {A : Type 0} (same : A → A → Bool) → IsTransitive same → (l : List A) (x : A) → among same l x ≡ false
    → firsts same unknown (l ++ x ∷ []) ≡ firsts same unknown l ++ x ∷ []
firsts_new same trans l x new = firsts_push same trans l x ∙ ap (λ (b : Bool). firsts same unknown l ++ (if b then [] else x ∷ [])) new

-- what stands at a first place stands in the list
pub firsts_in : {A : Type 0} (same : A → A → Bool) (known : A → Bool) (xs : List A) (z : A) → In z (firsts same known xs) → In z xs
firsts_in same known [] z h = h
firsts_in same known (x ∷ xs) z h = go (known x) (firsts_in same known xs z) (firsts_in same (with_one same known x) xs z) h
  where
    go : (b : Bool) → (In z (firsts same known xs) → In z xs) → (In z (firsts same (with_one same known x) xs) → In z xs)
        → In z (if b then firsts same known xs else x ∷ firsts same (with_one same known x) xs) → In z (x ∷ xs)
    go true skip keep i = inr (skip i)
    go false skip keep (inl e) = inl e
    go false skip keep (inr i) = inr (keep i)

-- where only equals are the same, each element that is not known has a first place
in_firsts_from : {A : Type 0} (same : A → A → Bool) → ((a b : A) → same a b ≡ true → a ≡ b) → (known : A → Bool) (xs : List A) (z : A) → In z xs
    → In z (firsts same known xs) ⊎ (known z ≡ true)
in_firsts_from same equal known [] z h = absurd h
in_firsts_from same equal known (x ∷ xs) z (inl e) = go (known x) refl
  where
    go : (b : Bool) → known x ≡ b → In z (if b then firsts same known xs else x ∷ firsts same (with_one same known x) xs) ⊎ (known z ≡ true)
    go true t = inr (ap known e ∙ t)
    go false t = inl (inl e)
in_firsts_from same equal known (x ∷ xs) z (inr h) =
    go (known x) (in_firsts_from same equal known xs z h) (in_firsts_from same equal (with_one same known x) xs z h)
  where
    new : (a b : Bool) → known z ≡ a → same x z ≡ b → (a || b) ≡ true → In z (x ∷ firsts same (with_one same known x) xs) ⊎ (known z ≡ true)
    new true b k s r = inr k
    new false true k s r = inl (inl (sym (equal x z s)))
    new false false k s r = absurd (cc)

    go : (b : Bool) → In z (firsts same known xs) ⊎ (known z ≡ true) → In z (firsts same (with_one same known x) xs) ⊎ ((known z || same x z) ≡ true)
        → In z (if b then firsts same known xs else x ∷ firsts same (with_one same known x) xs) ⊎ (known z ≡ true)
    go true skip keep = skip
    go false skip (inl i) = inl (inr i)
    go false skip (inr r) = new (known z) (same x z) refl refl r

pub in_firsts : {A : Type 0} (same : A → A → Bool) → ((a b : A) → same a b ≡ true → a ≡ b) → (xs : List A) (z : A) → In z xs → In z (firsts same unknown xs)
in_firsts {A} same equal xs z h = go (in_firsts_from same equal unknown xs z h)
  where
    go : In z (firsts same unknown xs) ⊎ (false ≡ true) → In z (firsts same unknown xs)
    go (inl i) = i
    go (inr none) = absurd (cc)

pub begins_firsts : {A : Type 0} (same : A → A → Bool) → IsTransitive same → (S : A → Bool) → IsClosed same S → (l m : List A)
    → Begins l m → Begins (firsts same S l) (firsts same S m)
begins_firsts same trans S closed l m h = record {
  rest = firsts same (λ y. S y || among same l y) h.rest;
  is = ap (λ z. firsts same S z) h.is ∙ firsts-append same trans S closed l h.rest;
}

pub comparable_firsts : {A : Type 0} (same : A → A → Bool) → IsTransitive same → (S : A → Bool) → IsClosed same S → (l m : List A)
    → Comparable l m → Comparable (firsts same S l) (firsts same S m)
comparable_firsts same trans S closed l m (inl h) = inl (begins_firsts same trans S closed l m h)
comparable_firsts same trans S closed l m (inr h) = inr (begins_firsts same trans S closed m l h)

-- the first places by a finer test change nothing
pub firsts_of_firsts : {A : Type 0} (fine same : A → A → Bool) → IsTransitive same → ((x y : A) → fine x y ≡ true → same x y ≡ true)
    → (S T : A → Bool) → IsClosed same S → ((y : A) → T y ≡ true → S y ≡ true)
    → (l : List A) → firsts same S (firsts fine T l) ≡ firsts same S l
firsts_of_firsts fine same trans finer S T closed sub [] = refl
firsts_of_firsts {A} fine same trans finer S T closed sub (x ∷ l) =
    go (T x) (S x) refl refl
    (firsts_of_firsts fine same trans finer S T closed sub l)
    (λ s. firsts_of_firsts fine same trans finer S (with_one fine T x) closed (λ y e. grown s y e) l)
    (firsts_of_firsts fine same trans finer (with_one same S x) (with_one fine T x) (closed_with same trans S closed x) both l)
  where
    split : (y : A) (t : Bool) → T y ≡ t → with_one fine T x y ≡ true → (T y ≡ true) ⊎ (fine x y ≡ true)
    split y true a e = inl a
    split y false a e = inr (ap (λ b. b || fine x y) (sym a) ∙ e)

    grown : S x ≡ true → (y : A) → with_one fine T x y ≡ true → S y ≡ true
    grown s y e = at (split y (T y) refl e)
      where
        at : (T y ≡ true) ⊎ (fine x y ≡ true) → S y ≡ true
        at (inl a) = sub y a
        at (inr a) = closed x y s (finer x y a)

    both : (y : A) → with_one fine T x y ≡ true → with_one same S x y ≡ true
    both y e = at (split y (T y) refl e)
      where
        at : (T y ≡ true) ⊎ (fine x y ≡ true) → (S y || same x y) ≡ true
        at (inl a) = or_left (S y) (same x y) (sub y a)
        at (inr a) = or_right (S y) (same x y) (finer x y a)

    go : (t s : Bool) → T x ≡ t → S x ≡ s
        → firsts same S (firsts fine T l) ≡ firsts same S l
        → (S x ≡ true → firsts same S (firsts fine (with_one fine T x) l) ≡ firsts same S l)
        → firsts same (with_one same S x) (firsts fine (with_one fine T x) l) ≡ firsts same (with_one same S x) l
        → firsts same S (cond t (firsts fine T l) (x ∷ firsts fine (with_one fine T x) l))
        ≡ cond s (firsts same S l) (x ∷ firsts same (with_one same S x) l)
    go true true t s skip mid keep = skip
    go true false t s skip mid keep = absurd (false≢true (sym s ∙ sub x t))
    go false true t s skip mid keep =
        ap (λ b. cond b (firsts same S (firsts fine (with_one fine T x) l)) (x ∷ firsts same (with_one same S x) (firsts fine (with_one fine T x) l))) s ∙ mid s
    go false false t s skip mid keep =
        ap (λ b. cond b (firsts same S (firsts fine (with_one fine T x) l)) (x ∷ firsts same (with_one same S x) (firsts fine (with_one fine T x) l))) s
        ∙ ap (λ z. x ∷ z) keep

-- what a filter leaves out, if it is known, changes nothing
pub firsts_filtered : {A : Type 0} (same : A → A → Bool) (S p q : A → Bool) → ((y : A) → p y ≡ true → q y ≡ false → S y ≡ true)
    → (l : List A) → firsts same S (filter p (filter q l)) ≡ firsts same S (filter p l)
firsts_filtered same S p q left [] = refl
firsts_filtered {A} same S p q left (x ∷ l) =
    go (q x) (p x) refl refl (firsts_filtered same S p q left l)
    (firsts_filtered same (with_one same S x) p q (λ y a b. or_left (S y) (same x y) (left y a b)) l)
  where
    go : (b a : Bool) → q x ≡ b → p x ≡ a
        → firsts same S (filter p (filter q l)) ≡ firsts same S (filter p l)
        → firsts same (with_one same S x) (filter p (filter q l)) ≡ firsts same (with_one same S x) (filter p l)
        → firsts same S (filter p (cond b (x ∷ filter q l) (filter q l))) ≡ firsts same S (cond a (x ∷ filter p l) (filter p l))
    go true true b a skip keep =
        ap (λ t. firsts same S (cond t (x ∷ filter p (filter q l)) (filter p (filter q l)))) a
        ∙ cond_both (S x) (firsts same S (filter p (filter q l))) (x ∷ firsts same (with_one same S x) (filter p (filter q l)))
        (λ z. z ≡ firsts same S (x ∷ filter p l))
        (λ s. skip ∙ ap (λ t. cond t (firsts same S (filter p l)) (x ∷ firsts same (with_one same S x) (filter p l))) (sym s))
        (λ s. ap (λ z. x ∷ z) keep ∙ ap (λ t. cond t (firsts same S (filter p l)) (x ∷ firsts same (with_one same S x) (filter p l))) (sym s))
    go true false b a skip keep = ap (λ t. firsts same S (cond t (x ∷ filter p (filter q l)) (filter p (filter q l)))) a ∙ skip
    go false true b a skip keep =
        skip ∙ ap (λ t. cond t (firsts same S (filter p l)) (x ∷ firsts same (with_one same S x) (filter p l))) (sym (left x a b))
    go false false b a skip keep = skip

-- one more that is known takes its like out
pub firsts_without : {A : Type 0} (same : A → A → Bool) → IsTransitive same → (S : A → Bool) (x : A) (l : List A)
    → firsts same (with_one same S x) l ≡ filter (λ y. not (same x y)) (firsts same S l)
firsts_without same trans S x [] = refl
firsts_without {A} same trans S x (z ∷ l) =
    go (S z) (same x z) refl refl (firsts_without same trans S x l) (firsts_without same trans (with_one same S z) x l)
  where
    rest : List A
    rest = filter (λ y. not (same x y)) (firsts same (with_one same S z) l)

    go : (s t : Bool) → S z ≡ s → same x z ≡ t
        → firsts same (with_one same S x) l ≡ filter (λ y. not (same x y)) (firsts same S l)
        → firsts same (with_one same (with_one same S z) x) l ≡ filter (λ y. not (same x y)) (firsts same (with_one same S z) l)
        → cond (s || t) (firsts same (with_one same S x) l) (z ∷ firsts same (with_one same (with_one same S x) z) l)
        ≡ filter (λ y. not (same x y)) (cond s (firsts same S l) (z ∷ firsts same (with_one same S z) l))
    go true t s e skip keep = skip
    go false true s e skip keep =
        firsts_cong same (with_one same S x) (with_one same (with_one same S z) x)
        (λ y. sym (or_absorbs (S y || same x y) (same z y) (λ h. or_right (S y) (same x y) (trans x z y e h))) ∙ or_swap (S y) (same x y) (same z y)) l
        ∙ keep
        ∙ ap (λ b. cond (not b) (z ∷ rest) rest) (sym e)
    go false false s e skip keep =
        ap (λ u. z ∷ u) (firsts_cong same (with_one same (with_one same S x) z) (with_one same (with_one same S z) x) (λ y. or_swap (S y) (same x y) (same z y)) l ∙ keep)
        ∙ ap (λ b. cond (not b) (z ∷ rest) rest) (sym e)

-- what is known or among the first places is known or among all
pub among_firsts : {A : Type 0} (same : A → A → Bool) (S : A → Bool) → IsClosed same S → IsTransitive same → (l : List A) (y : A)
    → (S y || among same (firsts same S l) y) ≡ (S y || among same l y)
among_firsts same S closed trans [] y = refl
among_firsts {A} same S closed trans (x ∷ l) y =
    go (S x) refl (among_firsts same S closed trans l y) (among_firsts same (with_one same S x) (closed_with same trans S closed x) trans l y)
  where
    go : (s : Bool) → S x ≡ s → (S y || among same (firsts same S l) y) ≡ (S y || among same l y)
        → ((S y || same x y) || among same (firsts same (with_one same S x) l) y) ≡ ((S y || same x y) || among same l y)
        → (S y || among same (cond s (firsts same S l) (x ∷ firsts same (with_one same S x) l)) y) ≡ (S y || (same x y || among same l y))
    go true s skip keep =
        skip ∙ ap (λ b. b || among same l y) (sym (or_absorbs (S y) (same x y) (λ e. closed x y s e))) ∙ or_assoc (S y) (same x y) (among same l y)
    go false s skip keep =
        sym (or_assoc (S y) (same x y) (among same (firsts same (with_one same S x) l) y)) ∙ keep ∙ or_assoc (S y) (same x y) (among same l y)

pub among-append : {A : Type 0} (same : A → A → Bool) (l m : List A) (y : A) → among same (l ++ m) y ≡ (among same l y || among same m y)
among-append same l m y = any_append (λ x. same x y) l m

-- a filter by a test that like elements agree on commutes with first places
filter_firsts_by : {A : Type 0} (same : A → A → Bool) (p S T : A → Bool) → ((x y : A) → same x y ≡ true → p x ≡ p y)
    → ((y : A) → p y ≡ true → S y ≡ T y) → (l : List A) → filter p (firsts same S l) ≡ firsts same T (filter p l)
filter_firsts_by same p S T agree on [] = refl
filter_firsts_by {A} same p S T agree on (x ∷ l) =
    go (S x) (p x) refl refl (filter_firsts_by same p S T agree on l)
    (filter_firsts_by same p (with_one same S x) (with_one same T x) agree (λ y e. ap (λ b. b || same x y) (on y e)) l)
    (λ e. filter_firsts_by same p (with_one same S x) T agree (λ y h. apart e y h ∙ on y h) l)
  where
    differ : (a b : Bool) → a ≡ b → a ≡ false → b ≡ true → ⊥
    differ a b e f g = cc

    apart : p x ≡ false → (y : A) → p y ≡ true → (S y || same x y) ≡ S y
    apart e y h = or_absorbs (S y) (same x y) (λ a. absurd (differ (p x) (p y) (agree x y a) e h))

    go : (s t : Bool) → S x ≡ s → p x ≡ t → filter p (firsts same S l) ≡ firsts same T (filter p l)
        → filter p (firsts same (with_one same S x) l) ≡ firsts same (with_one same T x) (filter p l)
        → (p x ≡ false → filter p (firsts same (with_one same S x) l) ≡ firsts same T (filter p l))
        → filter p (cond s (firsts same S l) (x ∷ firsts same (with_one same S x) l)) ≡ firsts same T (cond t (x ∷ filter p l) (filter p l))
    go true true s t skip keep out =
        skip ∙ ap (λ b. cond b (firsts same T (filter p l)) (x ∷ firsts same (with_one same T x) (filter p l))) (sym s ∙ on x t)
    go true false s t skip keep out = skip
    go false true s t skip keep out =
        ap (λ b. cond b (x ∷ filter p (firsts same (with_one same S x) l)) (filter p (firsts same (with_one same S x) l))) t
        ∙ ap (λ z. x ∷ z) keep
        ∙ ap (λ b. cond b (firsts same T (filter p l)) (x ∷ firsts same (with_one same T x) (filter p l))) (sym s ∙ on x t)
    go false false s t skip keep out =
        ap (λ b. cond b (x ∷ filter p (firsts same (with_one same S x) l)) (filter p (firsts same (with_one same S x) l))) t ∙ out t

pub filter_firsts : {A : Type 0} (same : A → A → Bool) (p S : A → Bool) → ((x y : A) → same x y ≡ true → p x ≡ p y)
    → (l : List A) → filter p (firsts same S l) ≡ firsts same S (filter p l)
filter_firsts same p S agree l = filter_firsts_by same p S S agree (λ y e. refl) l

-- ---- what ends only in an element of a kind
none_there : {A : Type 0} (p : A → Bool) (l : List A) (x : A) (m : List A) → p x ≡ true → list_any p (l ++ x ∷ m) ≡ true
none_there p l x m e = any_append p l (x ∷ m) ∙ or_right (list_any p l) (p x || list_any p m) (or_left (p x) (list_any p m) e)

pub any_last : {A : Type 0} (p : A → Bool) (l : List A) → EndsOnlyIn p l → list_any p l ≡ true
any_last p l h = ap (λ z. list_any p z) h.is ∙ none_there p h.front h.last [] h.passes

true_and_false : (b : Bool) → b ≡ true → b ≡ false → ⊥
true_and_false b t f = cc

ends_here : {A : Type 0} (p : A → Bool) (l : List A) (x : A) (r m : List A) (y : A)
    → l ++ x ∷ r ≡ m ++ y ∷ [] → p x ≡ true → list_any p m ≡ false → r ≡ []
ends_here p [] x r [] y e t f = tail_of x y r [] e
ends_here p [] x r (z ∷ m) y e t f =
    absurd (true_and_false (p z || list_any p m) (or_left (p z) (list_any p m) (ap p (sym (head_of x z r (m ++ y ∷ []) e)) ∙ t)) f)
ends_here p (w ∷ []) x r [] y e t f = absurd (never (x ∷ r) (tail_of w y (x ∷ r) [] e) x r refl)
  where
    never : {A : Type 0} (l : List A) → l ≡ [] → (x : A) (r : List A) → l ≡ x ∷ r → ⊥
    never l a x r b = cc
ends_here p (w ∷ v ∷ l) x r [] y e t f = absurd (never (v ∷ l ++ x ∷ r) (tail_of w y (v ∷ l ++ x ∷ r) [] e) v (l ++ x ∷ r) refl)
  where
    never : {A : Type 0} (l : List A) → l ≡ [] → (x : A) (r : List A) → l ≡ x ∷ r → ⊥
    never l a x r b = cc
ends_here p (w ∷ l) x r (z ∷ m) y e t f =
    ends_here p l x r m y (tail_of w z (l ++ x ∷ r) (m ++ y ∷ []) e) t (tail_false (p z) (list_any p m) f)
  where
    tail_false : (a b : Bool) → (a || b) ≡ false → b ≡ false
    tail_false true b e = absurd (true≢false e)
    tail_false false b e = e

-- a list that ends only in one, and is a prefix of another such, is it
ends_begin : {A : Type 0} (p : A → Bool) (l m : List A) → EndsOnlyIn p l → EndsOnlyIn p m → Begins l m → l ≡ m
ends_begin p l m a b h = sym (append-nil l) ∙ ap (λ z. l ++ z) (sym none) ∙ sym h.is
  where
    none : h.rest ≡ []
    none = ends_here p a.front a.last h.rest b.front b.last
        (sym (append_assoc a.front (a.last ∷ []) h.rest) ∙ ap (λ z. z ++ h.rest) (sym a.is) ∙ sym h.is ∙ b.is) a.passes b.others

pub ends_equal : {A : Type 0} (p : A → Bool) (l m : List A) → EndsOnlyIn p l → EndsOnlyIn p m → Comparable l m → l ≡ m
ends_equal p l m a b (inl h) = ends_begin p l m a b h
ends_equal p l m a b (inr h) = sym (ends_begin p m l b a h)

-- a list with none is a prefix of one that ends only in one
pub none_begins : {A : Type 0} (p : A → Bool) (l m : List A) → list_any p l ≡ false → EndsOnlyIn p m → Comparable l m → Begins l m
none_begins p l m f b (inl h) = h
none_begins p l m f b (inr h) =
    absurd (true_and_false (list_any p l) (ap (λ z. list_any p z) h.is ∙ any_append p m h.rest ∙ or_left (list_any p m) (list_any p h.rest) (any_last p m b)) f)

-- ---- apart
pub apart_push : {A : Type 0} (same : A → A → Bool) (l : List A) (x : A) → IsApart same l → among same l x ≡ false → IsApart same (l ++ x ∷ [])
apart_push same [] x h e = (refl, tt)
apart_push same (y ∷ l) x h e = go (same y x) refl e (apart_push same l x h.1)
  where
    go : (t : Bool) → same y x ≡ t → (t || among same l x) ≡ false → (among same l x ≡ false → IsApart same (l ++ x ∷ []))
        → IsApart same (y ∷ (l ++ x ∷ []))
    go true s f ih = absurd (true≢false f)
    go false s f ih =
        (any_append (λ z. same y z) l (x ∷ []) ∙ ap (λ b. b || (same y x || false)) h.0 ∙ ap (λ b. b || false) s, ih f)

any_filter : {A : Type 0} (p t : A → Bool) (l : List A) → list_any t l ≡ false → list_any t (filter p l) ≡ false
any_filter p t [] e = e
any_filter p t (x ∷ l) e = go (p x) (t x) refl e (any_filter p t l)
  where
    go : (b u : Bool) → t x ≡ u → (u || list_any t l) ≡ false → (list_any t l ≡ false → list_any t (filter p l) ≡ false)
        → list_any t (cond b (x ∷ filter p l) (filter p l)) ≡ false
    go b true s f ih = absurd (true≢false f)
    go true false s f ih = ap (λ z. z || list_any t (filter p l)) s ∙ ih f
    go false false s f ih = ih f

pub apart_filter : {A : Type 0} (same : A → A → Bool) (p : A → Bool) (l : List A) → IsApart same l → IsApart same (filter p l)
apart_filter same p [] h = tt
apart_filter same p (x ∷ l) h = go (p x) (apart_filter same p l h.1)
  where
    go : (b : Bool) → IsApart same (filter p l) → IsApart same (cond b (x ∷ filter p l) (filter p l))
    go true ih = (any_filter p (λ y. same x y) l h.0, ih)
    go false ih = ih

any_map : {A B : Type 0} (f : A → B) (t : B → Bool) (l : List A) → list_any t (map f l) ≡ list_any (λ x. t (f x)) l
any_map f t [] = refl
any_map f t (x ∷ l) = ap (λ b. t (f x) || b) (any_map f t l)

any_agree : {A : Type 0} (s t : A → Bool) → ((x : A) → s x ≡ t x) → (l : List A) → list_any s l ≡ list_any t l
any_agree s t h l = ap (λ u. list_any u l) (λ k x. h x k)

pub apart_map : {A B : Type 0} (f : A → B) (same : A → A → Bool) (like : B → B → Bool) → ((x y : A) → like (f x) (f y) ≡ same x y)
    → (l : List A) → IsApart same l → IsApart like (map f l)
apart_map f same like h [] a = tt
apart_map f same like h (x ∷ l) a =
    (any_map f (λ y. like (f x) y) l ∙ any_agree (λ y. like (f x) (f y)) (λ y. same x y) (λ y. h x y) l ∙ a.0, apart_map f same like h l a.1)

-- ---- lists of which one grows with the other. What is before is `before ++ taken`, and of the list `came` all but `taken` waits in `waits`
known_alike : {A : Type 0} (same : A → A → Bool) → IsTransitive same → (before taken came waits : List A)
    → firsts same (among same before) came ≡ taken ++ firsts same (among same (before ++ taken)) waits
    → (y : A) → (among same before y || among same came y) ≡ (among same (before ++ taken) y || among same waits y)
known_alike {A} same trans before taken came waits h y =
    sym (among_firsts same (among same before) (closed_among same trans before) trans came y)
    ∙ ap (λ z. among same before y || among same z y) h
    ∙ ap (λ b. among same before y || b) (among-append same taken rest y)
    ∙ sym (or_assoc (among same before y) (among same taken y) (among same rest y))
    ∙ ap (λ b. b || among same rest y) (sym (among-append same before taken y))
    ∙ among_firsts same (among same (before ++ taken)) (closed_among same trans (before ++ taken)) trans waits y
  where
    rest : List A
    rest = firsts same (among same (before ++ taken)) waits

-- one more comes, and waits
pub push_both : {A : Type 0} (same : A → A → Bool) → IsTransitive same → (before taken came waits : List A) (x : A)
    → firsts same (among same before) came ≡ taken ++ firsts same (among same (before ++ taken)) waits
    → firsts same (among same before) (came ++ x ∷ []) ≡ taken ++ firsts same (among same (before ++ taken)) (waits ++ x ∷ [])
push_both {A} same trans before taken came waits x h =
    firsts-append same trans (among same before) (closed_among same trans before) came (x ∷ [])
    ∙ (λ k. h k ++ last k)
    ∙ append_assoc taken (firsts same (among same (before ++ taken)) waits) (firsts same (λ y. among same (before ++ taken) y || among same waits y) (x ∷ []))
    ∙ ap (λ z. taken ++ z) (sym (firsts-append same trans (among same (before ++ taken)) (closed_among same trans (before ++ taken)) waits (x ∷ [])))
  where
    last : firsts same (λ y. among same before y || among same came y) (x ∷ []) ≡ firsts same (λ y. among same (before ++ taken) y || among same waits y) (x ∷ [])
    last = firsts_cong same (λ y. among same before y || among same came y) (λ y. among same (before ++ taken) y || among same waits y)
        (known_alike same trans before taken came waits h) (x ∷ [])

-- the known after one more message
pub among_push : {A : Type 0} (same : A → A → Bool) (l : List A) (x y : A) → among same (l ++ x ∷ []) y ≡ (among same l y || same x y)
among_push same l x y = among-append same l (x ∷ []) y ∙ ap (λ b. among same l y || b) (or_none (same x y))

-- the first that waits is taken
pub take_one : {A : Type 0} (same : A → A → Bool) (before taken came waits : List A) (x : A)
    → among same (before ++ taken) x ≡ false
    → firsts same (among same before) came ≡ taken ++ firsts same (among same (before ++ taken)) (x ∷ waits)
    → firsts same (among same before) came ≡ (taken ++ x ∷ []) ++ firsts same (among same (before ++ (taken ++ x ∷ []))) waits
take_one {A} same before taken came waits x new h =
    h
    ∙ ap (λ b. taken ++ cond b (firsts same (among same (before ++ taken)) waits) (x ∷ firsts same (λ y. among same (before ++ taken) y || same x y) waits)) new
    ∙ ap (λ z. taken ++ (x ∷ z))
    (firsts_cong same (λ y. among same (before ++ taken) y || same x y) (among same (before ++ (taken ++ x ∷ [])))
    (λ y. sym (among_push same (before ++ taken) x y) ∙ ap (λ z. among same z y) (append_assoc before taken (x ∷ []))) waits)
    ∙ sym (append_assoc taken (x ∷ []) (firsts same (among same (before ++ (taken ++ x ∷ []))) waits))

-- one is known that neither of two lists has to give any more
pub take_other : {A : Type 0} (same : A → A → Bool) → IsTransitive same → (before came waits : List A) (x : A)
    → firsts same (among same before) came ≡ firsts same (among same before) waits
    → firsts same (among same (before ++ x ∷ [])) came ≡ firsts same (among same (before ++ x ∷ [])) waits
take_other {A} same trans before came waits x h =
    known came ∙ firsts_without same trans (among same before) x came
    ∙ ap (λ z. filter (λ y. not (same x y)) z) h
    ∙ sym (firsts_without same trans (among same before) x waits) ∙ sym (known waits)
  where
    known : (l : List A) → firsts same (among same (before ++ x ∷ [])) l ≡ firsts same (λ y. among same before y || same x y) l
    known l = firsts_cong same (among same (before ++ x ∷ [])) (λ y. among same before y || same x y) (among_push same before x) l

pub filter_push_in : {A : Type 0} (p : A → Bool) (l : List A) (x : A) → p x ≡ true → filter p (l ++ x ∷ []) ≡ filter p l ++ x ∷ []
filter_push_in p l x e = filter-append p l (x ∷ []) ∙ ap (λ b. filter p l ++ cond b (x ∷ []) []) e

pub filter_push_out : {A : Type 0} (p : A → Bool) (l : List A) (x : A) → p x ≡ false → filter p (l ++ x ∷ []) ≡ filter p l
filter_push_out p l x e = filter-append p l (x ∷ []) ∙ ap (λ b. filter p l ++ cond b (x ∷ []) []) e ∙ append-nil (filter p l)

pub any_push : {A : Type 0} (p : A → Bool) (l : List A) (x : A) → list_any p (l ++ x ∷ []) ≡ (list_any p l || p x)
any_push p l x = any_append p l (x ∷ []) ∙ ap (λ b. list_any p l || b) (or_none (p x))
