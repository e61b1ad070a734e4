-- The casts of the generated script.
use Rattle.std.proofs.Common.{◌≡◌, ◌≤◌, ◌<◌, ◌+◌, ◌*◌, ◌%◌, ℕ, List, [], ◌∷◌, ◌++◌, map, length, inl, refl, sym, ap, ◌∙◌, subst, append_assoc, length-append, arith}
use Rattle.std.specs.List.{All, range_with_len}
use Rattle.std.proofs.lemmas.List.Elements.{All-append, All-cons, All-map}
use Rattle.std.proofs.lemmas.List.FromFn.{get_or-range_with_len, length-map-range_with_len, length-range_with_len, map-range_with_len_more}
use Rattle.samoa_model.specs.declared.script.DoDef.{DoDef}
use Rattle.samoa_model.specs.Range.{IsDoInRange}
use Rattle.samoa_serial.specs.Lists.{Each}
use Rattle.samoa_laws.specs.trace.Group.{IsFree}
use Rattle.samoa_generate.specs.Generated.{cast_at, casts_after, casts_before, generated_does, generated_script}

-- one cast more
pub one_more : (f : ℕ → DoDef) (old before after : List DoDef) (cast : DoDef) (j : ℕ) → after ≡ before ++ cast ∷ [] → before ≡ old ++ map f (range_with_len 0 j) → cast ≡ f j
    → after ≡ old ++ map f (range_with_len 0 (j + 1))
one_more f old before after cast j pushed so_far is =
    pushed
    ∙ ap (λ (xs : List DoDef). xs ++ cast ∷ []) so_far
    ∙ append_assoc old (map f (range_with_len 0 j)) (cast ∷ [])
    ∙ ap (λ (x : DoDef). old ++ (map f (range_with_len 0 j) ++ x ∷ [])) is
    ∙ ap (λ (xs : List DoDef). old ++ xs) (sym (map-range_with_len_more f 0 j j (omega arith)))

-- what holds of each number below n holds of the list of these
all_below : (P : ℕ → Type 0) (n : ℕ) → ((j : ℕ) → j < n → P j) → All P (range_with_len 0 n)
all_below P n holds k d there =
    let within : k < n = omega (arith, length-range_with_len 0 n) in
    subst P (sym (get_or-range_with_len 0 n k d within)) (holds (0 + k) (omega arith))

module _ (n : ℕ) (most : n ≤ 600) where
  abbrev InRange : DoDef → Type 0
  InRange item = IsDoInRange (generated_script n) item

  -- a cast in a tick of the script, at a node of it
  cast_in_range : (tick node kind value : ℕ) → 1 ≤ tick → tick ≤ 10 + 9 * n → node < 8 → InRange (cast_at tick node kind value)
  cast_in_range tick node kind value first last there = record { first = first; last = last; node = there; cause = omega arith; args = omega arith }

  pub casts_in_range : All InRange (generated_does n)
  casts_in_range =
      All-append InRange (casts_before n) (cast_at (1 + 8 * n) 0 1 0 ∷ casts_after n)
      (All-map InRange (λ (j : ℕ). cast_at (1 + 8 * j) (j % 8) 0 j) (range_with_len 0 n)
      (all_below (λ (j : ℕ). InRange (cast_at (1 + 8 * j) (j % 8) 0 j)) n (λ j below. cast_in_range (1 + 8 * j) (j % 8) 0 j (omega arith) (omega arith) (omega arith))))
      (All-cons InRange (cast_at (1 + 8 * n) 0 1 0) (casts_after n) (cast_in_range (1 + 8 * n) 0 1 0 (omega arith) (omega arith) (omega arith))
      (All-map InRange (λ (j : ℕ). cast_at (9 + 8 * n + j) (j % 8) 0 (n + j)) (range_with_len 0 n)
      (all_below (λ (j : ℕ). InRange (cast_at (9 + 8 * n + j) (j % 8) 0 (n + j))) n (λ j below. cast_in_range (9 + 8 * n + j) (j % 8) 0 (n + j) (omega arith) (omega arith) (omega arith)))))

  pub few_casts : length (generated_does n) ≤ 8192
  few_casts =
      omega (
        arith,
        length-append (casts_before n) (cast_at (1 + 8 * n) 0 1 0 ∷ casts_after n),
        length-map-range_with_len (λ (j : ℕ). cast_at (1 + 8 * j) (j % 8) 0 j) 0 n,
        length-map-range_with_len (λ (j : ℕ). cast_at (9 + 8 * n + j) (j % 8) 0 (n + j)) 0 n,
      )

-- ---- what comes from outside freely

abbrev Free : DoDef → Type 0
Free item = IsFree item.cause

each_map : (f : ℕ → DoDef) (xs : List ℕ) → ((j : ℕ) → Free (f j)) → Each Free (map f xs)
each_map f [] free = tt
each_map f (x ∷ xs) free = (free x, each_map f xs free)

each_append : (xs ys : List DoDef) → Each Free xs → Each Free ys → Each Free (xs ++ ys)
each_append [] ys free more = more
each_append (x ∷ xs) ys free more = (free.0, each_append xs ys free.1 more)

pub casts_are_free : (n : ℕ) → Each Free (generated_does n)
casts_are_free n =
    each_append (casts_before n) (cast_at (1 + 8 * n) 0 1 0 ∷ casts_after n) (each_map (λ (j : ℕ). cast_at (1 + 8 * j) (j % 8) 0 j) (range_with_len 0 n) (λ j. inl refl))
    (inl refl, each_map (λ (j : ℕ). cast_at (9 + 8 * n + j) (j % 8) 0 (n + j)) (range_with_len 0 n) (λ j. inl refl))
