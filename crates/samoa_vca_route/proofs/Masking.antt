-- Words of microprotocols.
use Rattle.std.proofs.Common.{arith, ◌≡◌, ◌≢◌, ◌↔◌, ◌⊎◌, inl, inr, ℕ, zero, suc, ◌+◌, ◌*◌, ◌%◌, ◌/◌, ◌^◌, ◌<◌, ◌≤◌, refl, sym, ap, ◌∙◌, subst, Bool, true, false, ◌&&◌, List, [], ◌∷◌, ◌++◌, length, get_or, ◌==◌, bit_or, max, Some, None, slice_get}
use Rattle.std.specs.Int.{bit_at, w32}
use Rattle.std.specs.List.{All}
use Rattle.std.proofs.lemmas.Bool.{and_parts}
use Rattle.std.proofs.lemmas.Bool.Decides.{eqb_tells}
use Rattle.std.proofs.lemmas.Nat.Bits.{bit_at-zero, bit_at_or, bit_at_set_other, bit_at_set_same}
use Rattle.std.proofs.lemmas.Option.{get_or_from_slice_get, slice_get-get_or, slice_get_cases, slice_get_within}
use Rattle.samoa_model.specs.declared.ids.HandlerId.{HandlerId}
use Rattle.samoa_model.specs.Allowed.{same_handler}
use Rattle.samoa_model.specs.Paths.{IsQuiet, IsSafe, Leads, Here, Then}
use Rattle.samoa_vca_route.specs.Routes.{IsAway, IsEdgeOf, IsGraph, IsVertex, vertex_at}
use Rattle.samoa_vca_route.specs.Marks.{AreElsewhere, is_marked}
use Rattle.samoa_vca_route.specs.Masks.{AreMasksOf, IsMaskOf, handler_at}
use Rattle.samoa_vca_route.proofs.Marking.{same_is}
use Rattle.samoa_vca_route.proofs.Walking.{IsEdgeAt, away_iff, edge_at}

-- of two words together a bit is a zero where it is one in both
pub or_clear : (a b p : ℕ) → (bit_at (bit_or a b) p ≡ 0) ↔ ((bit_at a p ≡ 0) × (bit_at b p ≡ 0))
or_clear a b p =
    let e : bit_at (bit_or a b) p ≡ max (bit_at a p) (bit_at b p) = bit_at_or a b p in
    (λ clear. (omega arith, omega arith), λ both. let x = both.0 in let y = both.1 in omega arith)

-- a word of one bit
pub bit_tells : (m : ℕ) → m < 32 → (p : ℕ) → p < 32 → (bit_at (1 * 2 ^ m % 4294967296) p ≡ 0) ↔ (m ≢ p)
bit_tells m small p within = go (eqb_tells p m) where
  word : ℕ
  word = 1 * 2 ^ m % 4294967296

  alone : bit_at (bit_or 0 word) p ≡ bit_at word p
  alone = let e : bit_at (bit_or 0 word) p ≡ max (bit_at 0 p) (bit_at word p) = bit_at_or 0 word p in
      let z : bit_at 0 p ≡ 0 = bit_at-zero p in omega arith

  go : (((p == m) ≡ true) × (p ≡ m)) ⊎ (((p == m) ≡ false) × (p ≢ m)) → (bit_at word p ≡ 0) ↔ (m ≢ p)
  go (inl same) =
      let is : p ≡ m = same.1 in
      let one : bit_at (bit_or 0 word) m ≡ 1 = bit_at_set_same w32 0 m small in
      let here : bit_at word p ≡ 1 = sym alone ∙ (ap (λ (q : ℕ). bit_at (bit_or 0 word) q) is ∙ one) in
      (λ clear. absurd (omega arith), λ differs. absurd (differs (sym is)))
  go (inr other) = (λ clear is. other.1 (sym is), λ differs. sym alone ∙ (bit_at_set_other w32 0 m small p other.1 ∙ bit_at-zero p))

-- ---- the mask of a handler

-- what edges lead to from a handler that is no vertex is the handler
leads_begin : (vertices : List HandlerId) (edges : List (ℕ × ℕ)) (h : HandlerId) → All (IsEdgeOf vertices) edges → (IsVertex vertices h → ⊥)
    → (u : HandlerId) → Leads vertices edges h u → u ≡ h
leads_begin vertices edges h ends none u Here = refl
leads_begin vertices edges h ends none u (Then mid last led edge) =
    let before : mid ≡ h = leads_begin vertices edges h ends none mid led in
    let here : IsEdgeAt (λ (e : ℕ × ℕ). same_handler (vertex_at vertices e.0) mid && same_handler (vertex_at vertices e.1) last) edges = edge_at _ edges edge in
    let e : ℕ × ℕ = get_or edges here.k (0, 0) in
    let both : (same_handler (vertex_at vertices e.0) mid ≡ true) × (same_handler (vertex_at vertices e.1) last ≡ true) = and_parts _ _ here.passes in
    let inside : IsEdgeOf vertices e = ends here.k (0, 0) here.within in
    absurd (none (record { place = e.0; there = inside.0; is = same_is _ _ both.0 ∙ before }))

pub outside_mask : (vertices : List HandlerId) (edges : List (ℕ × ℕ)) (h : HandlerId) (word : ℕ) → IsGraph vertices edges → (IsVertex vertices h → ⊥)
    → ((p : ℕ) → p < 32 → (bit_at word p ≡ 0) ↔ (h.micro.0 ≢ p)) → IsMaskOf vertices edges h word
outside_mask vertices edges h word graph none own = record {
  bits = λ p within. (
    λ clear u led is. (own p within).0 clear (sym (ap (λ (v : HandlerId). v.micro.0) (leads_begin vertices edges h graph.ends none u led)) ∙ is),
    λ safe. (own p within).1 (safe h Here),
  );
}

-- that of a vertex has the microprotocols of what the walk marks
pub walked_mask : (vertices : List HandlerId) (edges : List (ℕ × ℕ)) (h : HandlerId) (marks : List Bool) (word : ℕ) → IsGraph vertices edges → IsVertex vertices h
    → ((place : ℕ) → place < length vertices → (is_marked marks place ≡ true) ↔ Leads vertices edges h (vertex_at vertices place))
    → ((p : ℕ) → p < 32 → (bit_at word p ≡ 0) ↔ AreElsewhere vertices marks (length vertices) p) → IsMaskOf vertices edges h word
walked_mask vertices edges h marks word graph vertex walked marked = record {
  bits = λ p within. (
    λ clear. (away_iff vertices edges p h graph).0 (away p ((marked p within).0 clear)),
    λ safe. (marked p within).1 (λ place there is. safe (vertex_at vertices place) ((walked place there).0 is)),
  );
}
  where
    away : (p : ℕ) → AreElsewhere vertices marks (length vertices) p → IsAway vertices edges p h
    away p elsewhere = record {
      elsewhere = λ at. elsewhere vertex.place vertex.there
          ((walked vertex.place vertex.there).1 (subst (λ (u : HandlerId). Leads vertices edges h u) (sym vertex.is) Here))
          (ap (λ (u : HandlerId). u.micro.0) vertex.is ∙ at);
      unreached = λ r. elsewhere r.place r.there ((walked r.place r.there).1 r.led) r.is_at;
    }

-- one more vertex is looked at
pub one_marked : (vertices : List HandlerId) (marks : List Bool) (n old word own : ℕ)
    → ((p : ℕ) → p < 32 → (bit_at old p ≡ 0) ↔ AreElsewhere vertices marks n p) → ((p : ℕ) → p < 32 → (bit_at own p ≡ 0) ↔ ((vertex_at vertices n).micro.0 ≢ p))
    → word ≡ bit_or old own → is_marked marks n ≡ true → (p : ℕ) → p < 32 → (bit_at word p ≡ 0) ↔ AreElsewhere vertices marks (n + 1) p
one_marked vertices marks n old word own before here is_or is p within = (
  λ clear. let both : (bit_at old p ≡ 0) × (bit_at own p ≡ 0) = (or_clear old own p).0 (sym (ap (λ (w : ℕ). bit_at w p) is_or) ∙ clear) in
      λ place lt marked. go both place lt marked (eqb_tells place n),
  λ all. ap (λ (w : ℕ). bit_at w p) is_or
      ∙ (or_clear old own p).1 ((before p within).1 (λ place lt marked. all place (omega arith) marked), (here p within).1 (all n (omega arith) is)),
)
  where
    go : (bit_at old p ≡ 0) × (bit_at own p ≡ 0) → (place : ℕ) → place < n + 1 → is_marked marks place ≡ true → (((place == n) ≡ true) × (place ≡ n)) ⊎ (((place == n) ≡ false) × (place ≢ n)) → (vertex_at vertices place).micro.0 ≢ p
    go both place lt marked (inl same) at = (here p within).0 both.1 (ap (λ (k : ℕ). (vertex_at vertices k).micro.0) (sym same.1) ∙ at)
    go both place lt marked (inr other) at = let differs : place ≢ n = other.1 in (before p within).0 both.0 place (omega arith) marked at

-- one that has no mark counts for nothing
pub one_unmarked : (vertices : List HandlerId) (marks : List Bool) (n old word : ℕ) → ((p : ℕ) → p < 32 → (bit_at old p ≡ 0) ↔ AreElsewhere vertices marks n p)
    → word ≡ old → is_marked marks n ≡ false → (p : ℕ) → p < 32 → (bit_at word p ≡ 0) ↔ AreElsewhere vertices marks (n + 1) p
one_unmarked vertices marks n old word before same_word isnt p within = (
  λ clear place lt marked. go (sym (ap (λ (w : ℕ). bit_at w p) same_word) ∙ clear) place lt marked (eqb_tells place n),
  λ all. ap (λ (w : ℕ). bit_at w p) same_word ∙ (before p within).1 (λ place lt marked. all place (omega arith) marked),
)
  where
    go : bit_at old p ≡ 0 → (place : ℕ) → place < n + 1 → is_marked marks place ≡ true → (((place == n) ≡ true) × (place ≡ n)) ⊎ (((place == n) ≡ false) × (place ≢ n)) → (vertex_at vertices place).micro.0 ≢ p
    go clear place lt marked (inl same) = absurd (let e : false ≡ true = sym isnt ∙ (ap (λ (k : ℕ). is_marked marks k) (sym same.1) ∙ marked) in cc)
    go clear place lt marked (inr other) = let differs : place ≢ n = other.1 in (before p within).0 clear place (omega arith) marked

-- ---- the masks

place_is : (h : HandlerId) → h.micro.0 < 24 → handler_at (h.index * 24 + h.micro.0) ≡ h
place_is h small =
    let p : (h.index * 24 + h.micro.0) % 24 ≡ h.micro.0 = omega arith in
    let q : (h.index * 24 + h.micro.0) / 24 ≡ h.index = omega arith in
    λ i. record { micro = record { 0 = p i }; index = q i }

pub listed_mask : (vertices : List HandlerId) (edges : List (ℕ × ℕ)) (masks : List ℕ) (h : HandlerId) (mask : ℕ) → AreMasksOf vertices edges masks → h.micro.0 < 24
    → slice_get masks (h.index * 24 + h.micro.0) ≡ Some mask → IsMaskOf vertices edges h mask
listed_mask vertices edges masks h mask are small got =
    subst (λ (u : HandlerId). IsMaskOf vertices edges u mask) (place_is h small) (are.each (h.index * 24 + h.micro.0) mask got)

last_or_before : {A : Type 0} (xs : List A) (y : A) (k : ℕ) (x : A) → slice_get (xs ++ y ∷ []) k ≡ Some x → (slice_get xs k ≡ Some x) ⊎ ((k ≡ length xs) × (y ≡ x))
last_or_before {A} [] y zero x got = inr (refl, cc)
last_or_before {A} [] y (suc k) x got = absurd (cc got)
last_or_before {A} (z ∷ xs) y zero x got = inl got
last_or_before {A} (z ∷ xs) y (suc k) x got = go (last_or_before xs y k x got) where
  go : (slice_get xs k ≡ Some x) ⊎ ((k ≡ length xs) × (y ≡ x)) → (slice_get xs k ≡ Some x) ⊎ ((suc k ≡ suc (length xs)) × (y ≡ x))
  go (inl before) = inl before
  go (inr here) = inr (ap suc here.0, here.1)

-- one more word
pub one_listed : (vertices : List HandlerId) (edges : List (ℕ × ℕ)) (masks : List ℕ) (mask : ℕ) → AreMasksOf vertices edges masks → IsMaskOf vertices edges (handler_at (length masks)) mask
    → AreMasksOf vertices edges (masks ++ mask ∷ [])
one_listed vertices edges masks mask are is = record { each = λ place word got. go place word (last_or_before masks mask place word got) } where
  go : (place word : ℕ) → (slice_get masks place ≡ Some word) ⊎ ((place ≡ length masks) × (mask ≡ word)) → IsMaskOf vertices edges (handler_at place) word
  go place word (inl before) = are.each place word before
  go place word (inr here) =
      subst (λ (k : ℕ). IsMaskOf vertices edges (handler_at k) word) (sym here.0) (subst (λ (w : ℕ). IsMaskOf vertices edges (handler_at (length masks)) w) here.1 is)

-- ---- what handlers need together

-- it holds of each of the first n
abbrev pub AreFirst : {A : Type 0} → (A → Type 0) → List A → ℕ → Type 0
AreFirst {A} P xs n = (k : ℕ) (x : A) → k < n → slice_get xs k ≡ Some x → P x

pub one_more : (vertices : List HandlerId) (edges : List (ℕ × ℕ)) (handlers : List HandlerId) (n needed mask : ℕ) (h : HandlerId) → slice_get handlers n ≡ Some h
    → ((p : ℕ) → p < 32 → (bit_at needed p ≡ 0) ↔ AreFirst (IsSafe vertices edges p) handlers n) → IsMaskOf vertices edges h mask
    → (p : ℕ) → p < 32 → (bit_at (bit_or needed mask) p ≡ 0) ↔ AreFirst (IsSafe vertices edges p) handlers (n + 1)
one_more vertices edges handlers n needed mask h got before is p within = (
  λ clear k x lt at. go ((or_clear needed mask p).0 clear) k x lt at (eqb_tells k n),
  λ all. (or_clear needed mask p).1 ((before p within).1 (λ k x lt at. all k x (omega arith) at), (is.bits p within).1 (all n h (omega arith) got)),
)
  where
    go : (bit_at needed p ≡ 0) × (bit_at mask p ≡ 0) → (k : ℕ) (x : HandlerId) → k < n + 1 → slice_get handlers k ≡ Some x
        → (((k == n) ≡ true) × (k ≡ n)) ⊎ (((k == n) ≡ false) × (k ≢ n)) → IsSafe vertices edges p x
    go both k x lt at (inl same) =
        let e : Some h ≡ Some x = sym got ∙ (ap (λ (j : ℕ). slice_get handlers j) (sym same.1) ∙ at) in
        let f : h ≡ x = cc in
        subst (λ (u : HandlerId). IsSafe vertices edges p u) f ((is.bits p within).0 both.1)
    go both k x lt at (inr other) = let differs : k ≢ n = other.1 in (before p within).0 both.0 k x (omega arith) at

past : {A : Type 0} (xs : List A) (n : ℕ) → slice_get xs n ≡ None → length xs ≤ n
past {A} xs n none = go (slice_get_cases xs n).1 where
  go : ((x : A) × (n < length xs) × (slice_get xs n ≡ Some x) × (get_or xs n x ≡ x)) ⊎ ((length xs ≤ n) × (slice_get xs n ≡ None)) → length xs ≤ n
  go (inl (x, lt, got, same)) = absurd (let e : None ≡ Some x = sym none ∙ got in cc)
  go (inr (le, same)) = le

pub all_first : {A : Type 0} (P : A → Type 0) (xs : List A) (n : ℕ) → slice_get xs n ≡ None → AreFirst P xs n ↔ All P xs
all_first {A} P xs n none = (
  λ first k d lt. let le : length xs ≤ n = past xs n none in first k (get_or xs k d) (omega arith) (slice_get-get_or xs k d lt),
  λ all k x lt got. subst P (get_or_from_slice_get xs k x x got) (all k x (slice_get_within xs k x got)),
)

-- what all handlers need together
pub need_together : (vertices : List HandlerId) (edges : List (ℕ × ℕ)) (active waiting : List HandlerId) (a w : ℕ)
    → ((p : ℕ) → p < 32 → (bit_at a p ≡ 0) ↔ All (IsSafe vertices edges p) active) → ((p : ℕ) → p < 32 → (bit_at w p ≡ 0) ↔ All (IsSafe vertices edges p) waiting)
    → (p : ℕ) → p < 32 → (bit_at (bit_or a w) p ≡ 0) ↔ IsQuiet vertices edges p active waiting
need_together vertices edges active waiting a w in_active in_waiting p within = (
  λ clear. let both = (or_clear a w p).0 clear in record { active_away = (in_active p within).0 both.0; waiting_away = (in_waiting p within).0 both.1 },
  λ quiet. (or_clear a w p).1 ((in_active p within).1 quiet.active_away, (in_waiting p within).1 quiet.waiting_away),
)
