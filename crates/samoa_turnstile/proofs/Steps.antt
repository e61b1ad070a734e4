-- Each step keeps the rule.
use Rattle.std.proofs.Common.{◌≡◌, ◌≢◌, ◌⊎◌, ℕ, zero, suc, ◌+◌, ◌-◌, ◌<◌, ◌≤◌, List, [], ◌∷◌, ◌++◌, length, map, get_or, set, eqb, Bool, true, false, Option, Some, None, refl, ap, sym, ◌∙◌, subst, inl, inr, ⊎_elim, arith, eq-eqb, ne_eqb, add-zero, IsSome, ◌↔◌}
use mathlib.Core.Logic.{dite}
use mathlib.Core.Option.{some, none, some-injective, some-ne-none}
use mathlib.Core.List.{IsPrefix, map-append}
use native.Mathlib.Decide.{ℕ_discrete}
use lib.ListN.{get_elem?}
use lib.Seq.{map-set}
use prog.Atomic.{either}
use Rattle.atomic_table.specs.Table.{State, Me, step, keeps, takes, gives, stepped, carried_after, rest, Allows, Splits, Joins, Final, Seen}
use Rattle.atomic_table.proofs.Lists.{at_set, at_snoc, at_longer, at_map, set_here, set_else, set_again}
use Rattle.samoa_turnstile.specs.declared.view.View.{View}
use Rattle.samoa_turnstile.specs.Turning.{Fits, IsRunning, Turns, IsDealt, IsGrown, IsHandAfter, fresh, spent, holding, shown, first_view, one_less, one_part, both, missed_again, longer, hand_in, parts_in, total, list_or, taken, put_back, begun, opened, looked}
use Rattle.samoa_turnstile.proofs.Prefixes.{prefix_self, prefix_trans, prefix_longer, longer_both, at_length, at_map_back, map_same, set_one, at_word, total_set, total_more, total_whole}
use Rattle.samoa_turnstile.proofs.Hands.{dealt_more, dealt_put, pick}

module _ {V F I : Type 0} (fixed : V → F) (items : V → List I) (is_open : List I → ℕ → Bool) (seats : ℕ) where
  abbrev View' : Type 0
  View' = View F I

  abbrev St : Type 0
  St = State (Option V) View'

  abbrev M : Type 0
  M = Me (Option V) View'

  abbrev Rule : St → Type 0
  Rule = Turns fixed items is_open seats

  abbrev Run : St → Type 0
  Run = IsRunning fixed items is_open seats

  abbrev word : St → ℕ
  word s = get_or s.words 0 0

  -- a running state, at the word n
  running : (ws : List ℕ) (homes : List (mathlib.Core.Option.Option (Option V))) (views : List View') (n : ℕ) → ws ≡ n ∷ []
      → (present : List I) (holder : ℕ) (kept : F)
      → (n ≡ 0) ⊎ (n ≡ 1)
      → (n ≡ 0 → (v : V) × (get_elem? homes 0 ≡ some (some (Some v))) × (items v ≡ present) × (fixed v ≡ kept))
      → (n ≡ 1 → (v : View') × (get_elem? views holder ≡ some v) × (v.noted ≡ Some present))
      → ((j : ℕ) (v : View') → get_elem? views j ≡ some v → (v ≡ spent) ⊎ Fits seats n holder present kept j v)
      → total (map parts_in views) ≡ seats → IsDealt is_open present (map hand_in views)
      → Run record { words = ws; homes = homes; views = views }
  running ws homes views n e present holder kept bit home held each parts dealt =
      subst (λ (z : List ℕ). Run record { words = z; homes = homes; views = views }) (sym e) record {
        one_word = refl;
        present = present;
        holder = holder;
        kept = kept;
        word = bit;
        home = home;
        held = held;
        each = each;
        parts = parts;
        dealt = dealt;
      }

  one_word : (s : St) → Rule s → length s.words ≡ 1
  one_word s (inl (inl e)) = ap length e.0
  one_word s (inl (inr e)) = ap length e.0
  one_word s (inr r) = r.one_word

  -- a step that changes nothing
  still : (s : St) → Rule s → (id : ℕ) (c : List (ℕ × Option V)) (v : View') → get_elem? s.views id ≡ some v
      → Rule (stepped s 0 (word s) id c v keeps)
  still s r id c v at = let one = one_word s r in subst
      (λ (z : List ℕ × List View'). Rule record { words = z.0; homes = s.homes; views = z.1 })
      (λ i. (sym (set_again s.words 0 (word s) (at_word s.words one)) i, sym (set_again s.views id v at) i)) r

  only_view : (a v : View') (id : ℕ) → get_elem? (a ∷ []) id ≡ some v → a ≡ v
  only_view a v zero e = some-injective a v e
  only_view a v (suc id) e = absurd (some-ne-none v (sym e))

  -- a view with a part is of a running state, and fits it
  runs : (s : St) → Rule s → (id : ℕ) (v : View') → get_elem? s.views id ≡ some v → 0 < v.parts → Run s
  runs s (inl (inl e)) id v at part = let same = only_view (fresh seats) v id (ap (λ l. get_elem? l id) (sym e.2) ∙ at) in
      let n : 0 ≡ v.parts = ap parts_in same in absurd (omega arith)
  runs s (inl (inr e)) id v at part = let same = only_view (holding (fresh seats) []) v id
      (ap (λ l. get_elem? l id) (sym e.1) ∙ at) in let n : 0 ≡ v.parts = ap parts_in same in absurd (omega arith)
  runs s (inr r) id v at part = r

  fits : (s : St) (r : Run s) (id : ℕ) (v : View') → get_elem? s.views id ≡ some v → 0 < v.parts
      → Fits seats (word s) r.holder r.present r.kept id v
  fits s r id v at part = ⊎_elim (λ (e : v ≡ spent). let n : v.parts ≡ 0 = ap parts_in e in absurd (omega arith)) (λ f. f)
      (r.each id v at)

  each_set : (n m h g : ℕ) (old new : List I) (kept : F) (views : List View') (id : ℕ) (x : View')
      → ((j : ℕ) (v : View') → get_elem? views j ≡ some v → (v ≡ spent) ⊎ Fits seats n h old kept j v)
      → (x ≡ spent) ⊎ Fits seats m g new kept id x
      → ((j : ℕ) (v : View') → j ≢ id → Fits seats n h old kept j v → Fits seats m g new kept j v)
      → (j : ℕ) (v : View') → get_elem? (set views id x) j ≡ some v → (v ≡ spent) ⊎ Fits seats m g new kept j v
  each_set n m h g old new kept views id x each mine others j v e = ⊎_elim
      (λ (t : (j ≡ id) × (x ≡ v)). subst (λ (z : ℕ × View'). (z.1 ≡ spent) ⊎ Fits seats m g new kept z.0 z.1)
      (λ i. (sym t.0 i, t.1 i)) mine)
      (λ (t : (j ≢ id) × (get_elem? views j ≡ some v)). ⊎_elim inl (λ f. inr (others j v t.0 f)) (each j v t.1))
      (at_set views id j x v e)

  same_hands : (views : List View') (id : ℕ) (v w : View') → get_elem? views id ≡ some v → w.hand ≡ v.hand
      → map hand_in (set views id w) ≡ map hand_in views
  same_hands views id v w at e = map_same hand_in views id v w (at_map hand_in views id v at) e

  held_set : (views : List View') (id : ℕ) (v x : View') → get_elem? views id ≡ some v → v.noted ≡ None
      → (n holder : ℕ) (present : List I)
      → (n ≡ 1 → (u : View') × (get_elem? views holder ≡ some u) × (u.noted ≡ Some present)) → n ≡ 1 → (u : View')
      × (get_elem? (set views id x) holder ≡ some u) × (u.noted ≡ Some present)
  held_set views id v x at idle n holder present held e = let t = held e in dite (ℕ_discrete holder id)
      (λ same. let u : t.0 ≡ v = some-injective t.0 v (sym t.1 ∙ (ap (λ i. get_elem? views i) same ∙ at)) in
      absurd (cc (t.2, idle, ap (λ (w : View'). w.noted) u)))
      (λ ne. (t.0, set_else views id holder x ne ∙ t.1, t.2))

  -- any view of the same fixed part that holds nothing and has seen no more
  fits_idle : (n holder : ℕ) (present : List I) (kept : F) (j : ℕ) (v : View') → v.fixed ≡ Some kept → v.seats ≡ seats
      → 0 < v.parts → IsPrefix v.seen present → IsPrefix v.one present → IsPrefix v.two present → v.noted ≡ None
      → Fits seats n holder present kept j v
  fits_idle n holder present kept j v a b c d e f idle =
      record { opened = a; all = b; part = c; sees = d; saw_one = e; saw_two = f; holds = λ xs g. absurd (cc (g, idle)) }

  -- a step that finds the value taken
  missing : (s : St) (r : Run s) (id : ℕ) (c : List (ℕ × Option V)) (v : View') → get_elem? s.views id ≡ some v → 0 < v.parts
      → v.noted ≡ None → Rule (stepped s 0 (word s) id c (missed_again v) keeps)
  missing s r id c v at part idle =
      let w = missed_again v in
      let f = fits s r id v at part in
      let n = word s in
      inr (running (set s.words 0 n) s.homes (set s.views id w) n
      (set_one s.words n r.one_word) r.present r.holder r.kept r.word r.home
      (held_set s.views id v w at idle n r.holder r.present r.held)
      (each_set n n r.holder r.holder r.present r.present r.kept s.views id w r.each
      (inr (fits_idle n r.holder r.present r.kept id w f.opened f.all f.part f.sees f.saw_one f.saw_two idle)) (λ j u ne g. g))
      (ap total (map_same parts_in s.views id v w (at_map parts_in s.views id v at) refl) ∙ r.parts)
      (subst (IsDealt is_open r.present) (sym (same_hands s.views id v w at refl)) r.dealt))

  taking : (s : St) (r : Run s) (id : ℕ) (v : View') → get_elem? s.views id ≡ some v → 0 < v.parts → word s ≡ 0
      → (t : (x : V) × (get_elem? s.homes 0 ≡ some (some (Some x))) × (items x ≡ r.present) × (fixed x ≡ r.kept))
      → Rule (stepped s 0 1 id [] (holding v (items t.0)) (takes 0 (Some t.0)))
  taking s r id v at part free t = let w = holding v (items t.0) in let f = fits s r id v at part in
      inr (running (set s.words 0 1) (set s.homes 0 none) (set s.views id w) 1 (set_one s.words 1 r.one_word) r.present id r.kept
      (inr refl)
      (λ z. absurd (omega arith))
      (λ _. (w, set_here s.views id w (at_length s.views id v at), ap Some t.2))
      (each_set (word s) 1 r.holder id r.present r.present r.kept s.views id w r.each
      (inr record {
        opened = f.opened;
        all = f.all;
        part = f.part;
        sees = f.sees;
        saw_one = f.saw_one;
        saw_two = f.saw_two;
        holds = λ xs e. (refl, refl, cc (e, t.2));
      })
      (λ j u ne g. record {
        opened = g.opened;
        all = g.all;
        part = g.part;
        sees = g.sees;
        saw_one = g.saw_one;
        saw_two = g.saw_two;
        holds = λ xs e. let h = (g.holds xs e).0 in absurd (omega arith);
      }))
      (ap total (map_same parts_in s.views id v w (at_map parts_in s.views id v at) refl) ∙ r.parts)
      (subst (IsDealt is_open r.present) (sym (same_hands s.views id v w at refl)) r.dealt))

  takes_at : (slots id : ℕ) (v : View') → v.noted ≡ None → 0 < v.parts
      → Allows Rule slots id (v, []) 0 (λ x. either (eqb x 0) 1 x) (taken fixed items is_open (step slots 0 0 1 none) (v, []))
  takes_at slots id v idle part s rule wide at small = let x : ℕ = word s in dite (ℕ_discrete x 0)
      (λ hit. let r = runs s rule id v at part in let t = r.home hit in let f = fits s r id v at part in (
        holding v (items t.0),
        takes 0 (Some t.0),
        t.1,
        subst (λ b. Rule (stepped s 0 (either b 1 x) id [] (holding v (items t.0)) (takes 0 (Some t.0)))) (sym (eq-eqb x 0 hit))
            (taking s r id v at part hit t),
        (
          (λ _. (
            t.0,
            refl,
            f.opened ∙ ap Some (sym t.3),
            subst (IsPrefix v.seen) (sym t.2) f.sees,
            λ k e. subst (λ (xs : List I). is_open xs k ≡ true) (sym t.2)
                (r.dealt.are_open id k (at_map hand_in s.views id v at ∙ ap some e)),
          )),
          λ ne. absurd (ne hit),
        ),
      ))
      (λ miss. let w = missed_again v in (
        w,
        keeps,
        tt,
        subst (λ b. Rule (stepped s 0 (either b 1 x) id [] w keeps)) (sym (ne_eqb x 0 miss))
            (missing s (runs s rule id v at part) id [] v at part idle),
        ((λ e. absurd (miss e)), λ _. refl),
      ))

  pub takes_allowed : (slots id : ℕ) (m : M) → m.1 ≡ [] → m.0.noted ≡ None → 0 < m.0.parts
      → Allows Rule slots id m 0 (λ x. either (eqb x 0) 1 x) (taken fixed items is_open (step slots 0 0 1 none) m)
  takes_allowed slots id m empty idle part =
      let P : List (ℕ × Option V) → Type 0 = λ c. Allows Rule slots id (m.0, c) 0 (λ x. either (eqb x 0) 1 x)
      (taken fixed items is_open (step slots 0 0 1 none) (m.0, c)) in
      subst P (sym empty) (takes_at slots id m.0 idle part)

  pub looks_allowed : (slots id : ℕ) (m : M) → 0 < m.0.parts
      → Allows Rule slots id m 0 (λ x. x) (looked (step slots 0 0 0 none) m)
  looks_allowed slots id m part s rule wide at small = let r = runs s rule id m.0 at part in let f = fits s r id m.0 at part in
      (m.0, keeps, tt, still s rule id m.1 m.0 at, (refl, (r.present, f.saw_one, f.saw_two)))

  same_value : (x y : V) (c d : List (ℕ × Option V)) → (0, Some x) ∷ c ≡ (0, Some y) ∷ d → x ≡ y
  same_value x y c d e =
      let a : ℕ × Option V = (0, Some x) in
      let b : ℕ × Option V = (0, Some y) in
      let p : a ≡ b = cc e in
      let q : Some x ≡ Some y = ap (λ (t : ℕ × Option V). t.1) p in
      cc q

  module _ (below : (xs : List I) (k : ℕ) → is_open xs k ≡ true → k < length xs)
      (before : (xs ys : List I) (k : ℕ) → k < length xs → is_open (xs ++ ys) k ≡ true → is_open xs k ≡ true) where
    puts_at : (id : ℕ) (v : View') (value : V) (xs : List I) → v.noted ≡ Some xs → 0 < v.parts → v.fixed ≡ Some (fixed value)
        → IsGrown is_open v.hand xs (items value)
        → Allows Rule 1 id (v, (0, Some value) ∷ []) 0 (λ _. 0)
        (λ _ n. (hand : Option ℕ) × (n ≡ (shown v (items value) hand, [])) × IsHandAfter is_open v.hand xs (items value) hand)
    puts_at id v value xs note part is grown s rule wide at small =
        let r = runs s rule id v at part in
        let f = fits s r id v at part in
        let h = f.holds xs note in
        let now = items value in
        let p = pick is_open below v.hand xs now grown in
        let w = shown v now p.0 in
        let old : IsPrefix r.present now = subst (λ (l : List I). IsPrefix l now) h.2 grown.begins in
        let value_kept : fixed value ≡ r.kept = cc (is, f.opened) in (
          w,
          gives,
          tt,
          inr (running (set s.words 0 0) (set s.homes 0 (some (Some value))) (set s.views id w) 0
              (set_one s.words 0 r.one_word) now r.holder r.kept
              (inl refl)
              (λ _. (value, set_here s.homes 0 (some (Some value)) (omega arith), refl, value_kept))
              (λ z. absurd (omega arith))
              (each_set (word s) 0 r.holder r.holder r.present now r.kept s.views id w r.each
              (inr record {
                opened = f.opened;
                all = f.all;
                part = f.part;
                sees = prefix_self now;
                saw_one = prefix_trans v.one r.present now f.saw_one old;
                saw_two = prefix_trans v.two r.present now f.saw_two old;
                holds = λ ys e. absurd (cc e);
              })
              (λ j u ne g. record {
                opened = g.opened;
                all = g.all;
                part = g.part;
                sees = prefix_trans u.seen r.present now g.sees old;
                saw_one = prefix_trans u.one r.present now g.saw_one old;
                saw_two = prefix_trans u.two r.present now g.saw_two old;
                holds = λ ys e. absurd (ne ((g.holds ys e).1 ∙ sym h.1));
              }))
              (ap total (map_same parts_in s.views id v w (at_map parts_in s.views id v at) refl) ∙ r.parts)
              (subst (IsDealt is_open now) (sym (map-set hand_in s.views id w))
              (dealt_put is_open below before xs now (map hand_in s.views) id v.hand p.0 (at_map hand_in s.views id v at)
              (subst (λ (l : List I). IsDealt is_open l (map hand_in s.views)) (sym h.2) r.dealt) grown p.1))),
          (p.0, refl, p.1),
        )

    puts_full : (id : ℕ) (v : View') (value : V) (xs : List I) → v.noted ≡ Some xs → 0 < v.parts → v.fixed ≡ Some (fixed value)
        → IsGrown is_open v.hand xs (items value)
        → Allows Rule 1 id (v, (0, Some value) ∷ []) 0 (λ _. 0)
        (λ _. put_back items is_open (step 1 0 0 0 none) (v, (0, Some value) ∷ []) 0)
    puts_full id v value xs note part is grown s rule wide at small =
        let t = puts_at id v value xs note part is grown s rule wide at small in
        let same : xs ≡ list_or v.noted = sym (ap list_or note) in
        let n : M = (t.0, carried_after ((0, Some value) ∷ []) t.1) in (
          t.0,
          t.1,
          t.2,
          t.3,
          λ other e. let q : value ≡ other = same_value value other [] [] e in
              subst (λ (y : V). (hand : Option ℕ) × (n ≡ (shown v (items y) hand, []))
              × IsHandAfter is_open v.hand (list_or v.noted) (items y) hand) q
              (t.4.0, t.4.1, subst (λ (l : List I). IsHandAfter is_open v.hand l (items value) t.4.0) same t.4.2),
        )

    pub puts_allowed : (slots id : ℕ) (m : M) (v : View') (value : V) → slots ≡ 1 → m ≡ (v, (0, Some value) ∷ []) → 0 < v.parts
        → (xs : List I) → v.noted ≡ Some xs → v.fixed ≡ Some (fixed value)
        → IsGrown is_open v.hand (list_or v.noted) (items value)
        → Allows Rule slots id m 0 (λ _. 0) (λ _. put_back items is_open (step slots 0 0 0 none) m 0)
    puts_allowed slots id m v value one has part xs note is grown =
        let g = subst (λ (l : List I). IsGrown is_open v.hand l (items value)) (ap list_or note) grown in
        let P : ℕ × M → Type 0 = λ z. Allows Rule z.0 id z.1 0 (λ _. 0)
        (λ _. put_back items is_open (step z.0 0 0 0 none) z.1 0) in
        subst P (λ i. (sym one i, sym has i)) (puts_full id v value xs note part is g)

  pub splits_allowed : (id : ℕ) (v : View') → v.noted ≡ None → 2 ≤ v.parts → Splits Rule id v (one_less v) (one_part v)
  splits_allowed id v idle two s rule at =
      let part : 0 < v.parts = omega arith in
      let r = runs s rule id v at part in
      let f = fits s r id v at part in
      let n = word s in
      let vs = set s.views id (one_less v) in
      let e : s.words ≡ n ∷ [] = sym (set_again s.words 0 n (at_word s.words r.one_word)) ∙ set_one s.words n r.one_word in
      inr (running s.words s.homes (vs ++ one_part v ∷ []) n e r.present r.holder r.kept r.word r.home
      (λ h. let t = held_set s.views id v (one_less v) at idle n r.holder r.present r.held h in
      (t.0, at_longer vs (one_part v ∷ []) r.holder t.0 t.1, t.2))
      (λ j u at'. ⊎_elim
      (each_set n n r.holder r.holder r.present r.present r.kept s.views id (one_less v) r.each
      (inr (fits_idle n r.holder r.present r.kept id (one_less v) f.opened f.all (omega arith) f.sees f.saw_one f.saw_two idle))
      (λ i w ne g. g) j u)
      (λ (same : one_part v ≡ u). inr
      (subst (Fits seats n r.holder r.present r.kept j) same
      (fits_idle n r.holder r.present r.kept j (one_part v) f.opened f.all (omega arith) f.sees f.saw_one f.saw_two refl)))
      (at_snoc vs (one_part v) u j at'))
      (let a = total_set (map parts_in s.views) id v.parts (v.parts - 1) (at_map parts_in s.views id v at) in
      let b = total_more (set (map parts_in s.views) id (v.parts - 1)) 1 in
      let c = r.parts in
      ap total (map-append parts_in vs (one_part v ∷ []) ∙ ap (λ l. l ++ 1 ∷ []) (map-set parts_in s.views id (one_less v)))
      ∙ omega arith)
      (subst (IsDealt is_open r.present)
      (sym (map-append hand_in vs (one_part v ∷ []) ∙ ap (λ l. l ++ None ∷ [])
      (same_hands s.views id v (one_less v) at refl))) (dealt_more is_open r.present (map hand_in s.views) r.dealt)))

  pub joins_allowed : (id : ℕ) (v : View') (other : ℕ) (w : View') → v.noted ≡ None → w.noted ≡ None → w.hand ≡ None → 0 < v.parts
      → 0 < w.parts → Joins Rule id v other w (both v w) spent
  joins_allowed id v other w idle idle' empty part part' s rule at apart there =
      let r = runs s rule id v at part in
      let f = fits s r id v at part in
      let at' : get_elem? s.views other ≡ some w = sym (set_else s.views id other (both v w) apart) ∙ there in
      let g = fits s r other w at' part' in
      let n = word s in
      let b = both v w in
      let vs = set s.views id b in
      let e : s.words ≡ n ∷ [] = sym (set_again s.words 0 n (at_word s.words r.one_word)) ∙ set_one s.words n r.one_word in
      inr (running s.words s.homes (set vs other spent) n e r.present r.holder r.kept r.word r.home
      (held_set vs other w spent there idle' n r.holder r.present (held_set s.views id v b at idle n r.holder r.present r.held))
      (each_set n n r.holder r.holder r.present r.present r.kept vs other spent
      (each_set n n r.holder r.holder r.present r.present r.kept s.views id b r.each
      (inr (fits_idle n r.holder r.present r.kept id b f.opened f.all (omega arith)
      (prefix_longer v.seen w.seen r.present f.sees g.sees) f.sees g.sees idle)) (λ i u ne h. h))
      (inl refl) (λ i u ne h. h))
      (let p = total_set (map parts_in s.views) id v.parts (v.parts + w.parts) (at_map parts_in s.views id v at) in
      let q = total_set (map parts_in vs) other w.parts 0 (at_map parts_in vs other w there) in
      let m : total (map parts_in vs) ≡ total (set (map parts_in s.views) id (v.parts + w.parts)) =
      ap total (map-set parts_in s.views id b) in
      let c = r.parts in
      ap total (map-set parts_in vs other spent) ∙ omega arith)
      (subst (IsDealt is_open r.present)
      (sym (same_hands vs other w spent there (sym empty) ∙ same_hands s.views id v b at refl)) r.dealt))

  -- the first take, and the first put
  pub begins_allowed : (slots id : ℕ) (m : M) → 0 < seats → id ≡ 0 → m ≡ (fresh seats, [])
      → Allows Rule slots id m 0 (λ _. 1) (λ _. begun (step slots 0 1 0 none) m 1)
  begins_allowed slots id m some_seats first is = subst
      (λ (x : ℕ × M). Allows Rule slots x.0 x.1 0 (λ _. 1) (λ _. begun (step slots 0 1 0 none) x.1 1))
      (λ i. (sym first i, sym is i)) at_start
    where
      at_start : Allows Rule slots 0 (fresh seats, []) 0 (λ _. 1) (λ _. begun (step slots 0 1 0 none) (fresh seats, []) 1)
      at_start s (inl (inl e)) wide at small = let w : View' = holding (fresh seats) [] in
          (w, takes 0 None, e.1, inl (inr (ap (λ l. set l 0 1) e.0, ap (λ l. set l 0 w) e.2)), refl)
      at_start s (inl (inr e)) wide at small = let same = only_view (holding (fresh seats) []) (fresh seats) 0
          (ap (λ l. get_elem? l 0) (sym e.1) ∙ at) in
          let q : Some [] ≡ None = ap (λ (v : View'). v.noted) same in absurd (cc q)
      at_start s (inr r) wide at small = absurd
          (⊎_elim (λ (e : fresh seats ≡ spent). let q : seats ≡ 0 = ap (λ (v : View'). v.seats) e in omega arith)
          (λ f. let q = f.part in omega arith) (r.each 0 (fresh seats) at))

  pub opens_allowed : (slots id : ℕ) (m : M) (value : V) → slots ≡ 1 → id ≡ 0
      → m ≡ (holding (fresh seats) [], (0, Some value) ∷ []) → 0 < seats → ((k : ℕ) → is_open (items value) k ≡ false)
      → Allows Rule slots id m 0 (λ _. 0) (λ _. opened fixed items (step slots 0 0 0 none) m 0)
  opens_allowed slots id m value one first is some_seats settled =
      subst (λ (x : ℕ × ℕ × M). Allows Rule x.0 x.1 x.2 0 (λ _. 0) (λ _. opened fixed items (step x.0 0 0 0 none) x.2 0))
      (λ i. (sym one i, sym first i, sym is i)) at_first
    where
      at_first : Allows Rule 1 0 (holding (fresh seats) [], (0, Some value) ∷ []) 0 (λ _. 0)
          (λ _. opened fixed items (step 1 0 0 0 none) (holding (fresh seats) [], (0, Some value) ∷ []) 0)
      at_first s (inl (inl e)) wide at small = let same = only_view (fresh seats) (holding (fresh seats) []) 0
          (ap (λ l. get_elem? l 0) (sym e.2) ∙ at) in
          let q : None ≡ Some [] = ap (λ (v : View'). v.noted) same in absurd (cc q)
      at_first s (inl (inr e)) wide at small = let w : View' = first_view seats (fixed value) (items value) in (
        w,
        gives,
        tt,
        inr (running (set s.words 0 0) (set s.homes 0 (some (Some value))) (set s.views 0 w) 0 (ap (λ l. set l 0 0) e.0)
            (items value) 0 (fixed value)
            (inl refl)
            (λ _. (value, set_here s.homes 0 (some (Some value)) (omega arith), refl, refl))
            (λ z. absurd (omega arith))
            (subst (λ (l : List View'). (j : ℕ) (v : View') → get_elem? l j ≡ some v → (v ≡ spent)
            ⊎ Fits seats 0 0 (items value) (fixed value) j v) (sym (ap (λ l. set l 0 w) e.1))
            (λ j v g. inr (subst (Fits seats 0 0 (items value) (fixed value) j) (only_view w v j g)
            record {
              opened = refl;
              all = refl;
              part = some_seats;
              sees = prefix_self (items value);
              saw_one = (items value, refl);
              saw_two = (items value, refl);
              holds = λ xs h. absurd (cc h);
            })))
            (ap (λ l. total (map parts_in (set l 0 w))) e.1 ∙ add-zero seats)
            (subst (λ (l : List View'). IsDealt is_open (items value) (map hand_in l)) (sym (ap (λ l. set l 0 w) e.1)) record {
              are_open = λ j k g. let h = only_hand j k g in absurd h;
              covered = λ k o. let c = settled k in absurd (cc (o, c));
              alone = λ j i k g h. absurd (only_hand j k g);
            })),
        λ other g. let q : value ≡ other = same_value value other [] [] g in
            let after : V → M = λ y. (first_view seats (fixed y) (items y), []) in
            ap after q,
      )
        where
          only_hand : (j k : ℕ) → get_elem? (None ∷ []) j ≡ some (Some k) → ⊥
          only_hand zero k g = let h : None ≡ Some k = some-injective None (Some k) g in cc h
          only_hand (suc j) k g = some-ne-none (Some k) (sym g)
      at_first s (inr r) wide at small = absurd
          (⊎_elim (λ (e : holding (fresh seats) [] ≡ spent). let q : Some [] ≡ None = ap (λ (v : View'). v.noted) e in cc q)
          (λ f. let q = f.part in omega arith) (r.each 0 (holding (fresh seats) []) at))

  -- the seat that has all parts is the only one left
  pub closes : (id : ℕ) (v : View') → v.noted ≡ None → 0 < v.parts → v.parts ≡ v.seats → (ws : List ℕ) (xs : List (Option V))
      → Final (Seen Rule id v) ws xs
      → (value : V) × (get_elem? xs 0 ≡ some (Some value)) × (v.fixed ≡ Some (fixed value)) × IsPrefix v.seen (items value)
      × ((k : ℕ) → is_open (items value) k ≡ true → v.hand ≡ Some k)
      × ((k : ℕ) → v.hand ≡ Some k → is_open (items value) k ≡ true)
  closes id v idle part whole ws xs final =
      let s = final.0 in
      let at = final.1.1 in
      let r = runs s final.1.0 id v at part in
      let f = fits s r id v at part in
      let t = r.home (free s r at) in (
        t.0,
        final.4 0 (Some t.0) t.1,
        f.opened ∙ ap Some (sym t.3),
        subst (IsPrefix v.seen) (sym t.2) f.sees,
        (λ k o. let c = r.dealt.covered k (subst (λ (l : List I). is_open l k ≡ true) t.2 o) in
            let b = at_map_back hand_in s.views c.0 (Some k) c.1 in
            dite (ℕ_discrete c.0 id)
            (λ same. ap hand_in (some-injective v b.0 (sym at ∙ (ap (λ i. get_elem? s.views i) (sym same) ∙ b.1))) ∙ b.2)
            (λ ne. absurd (gone s r at c.0 b.0 ne b.1
            (λ (e : b.0 ≡ spent). let h = b.2 in let g : b.0.hand ≡ None = ap hand_in e in cc (h, g))))),
        (λ k e. subst (λ (l : List I). is_open l k ≡ true) (sym t.2)
            (r.dealt.are_open id k (at_map hand_in s.views id v at ∙ ap some e))),
      )
    where
      gone : (s : St) (r : Run s) → get_elem? s.views id ≡ some v → (j : ℕ) (u : View') → j ≢ id → get_elem? s.views j ≡ some u
          → u ≢ spent → ⊥
      gone s r at j u ne e apart =
          let f = fits s r id v at part in
          let c = r.parts in
          let a = f.all in
          let none_left : u.parts ≡ 0 = total_whole (map parts_in s.views) id v.parts j u.parts (at_map parts_in s.views id v at)
          (omega arith) ne (at_map parts_in s.views j u e) in
          ⊎_elim apart (λ g. let p = g.part in omega arith) (r.each j u e)

      free : (s : St) (r : Run s) → get_elem? s.views id ≡ some v → word s ≡ 0
      free s r at = ⊎_elim (λ z. z) (λ (h : word s ≡ 1). let t = r.held h in dite (ℕ_discrete r.holder id)
          (λ same. let u : t.0 ≡ v = some-injective t.0 v (sym t.1 ∙ (ap (λ i. get_elem? s.views i) same ∙ at)) in
          absurd (cc (t.2, idle, ap (λ (w : View'). w.noted) u)))
          (λ ne. absurd (gone s r at r.holder t.0 ne t.1
          (λ (e : t.0 ≡ spent). let g : t.0.noted ≡ None = ap (λ (w : View'). w.noted) e in let q = t.2 in
          cc (q, g))))) r.word

  module _ (id : ℕ) (v : View') (idle : v.noted ≡ None) (part : 0 < v.parts) (whole : v.parts ≡ v.seats) (ws : List ℕ)
      (xs : List (Option V)) (final : Final (Seen Rule id v) ws xs)
      (taken : Option V) (there : get_elem? xs 0 ≡ some taken) where
    pub closes_some : IsSome taken
    closes_some = let t = closes id v idle part whole ws xs final in
        subst IsSome (some-injective (Some t.0) taken (sym t.1 ∙ there)) refl

    pub closes_with : (out : V) → taken ≡ Some out → (v.fixed ≡ Some (fixed out)) × IsPrefix v.seen (items out)
        × ((k : ℕ) → (is_open (items out) k ≡ true) ↔ (v.hand ≡ Some k))
    closes_with out is =
        let t = closes id v idle part whole ws xs final in
        let e : Some t.0 ≡ Some out = some-injective (Some t.0) taken (sym t.1 ∙ there) ∙ is in
        let same : t.0 ≡ out = cc e in
        subst (λ (y : V). (v.fixed ≡ Some (fixed y)) × IsPrefix v.seen (items y)
        × ((k : ℕ) → (is_open (items y) k ≡ true) ↔ (v.hand ≡ Some k))) same (t.2, t.3, λ k. (t.4 k, t.5 k))

-- what a seat carries after an exchange
pub carries : {S W : Type 0} (m : Me S W) (v : W) (x y : S) (c : List (ℕ × S)) → m ≡ (v, (0, x) ∷ rest c) → c ≡ (0, y) ∷ []
    → m ≡ (v, (0, x) ∷ [])
carries {S} {W} m v x y c e d = let after : List (ℕ × S) → Me S W = λ l. (v, (0, x) ∷ rest l) in e ∙ ap after d

pub carries_first : {V F I : Type 0} (seats : ℕ) (m n k : Me (Option V) (View F I)) (x : V) → m ≡ (fresh seats, [])
    → n ≡ (holding m.0 [], (0, None) ∷ []) → k ≡ (n.0, (0, Some x) ∷ rest n.1) → k ≡ (holding (fresh seats) [], (0, Some x) ∷ [])
carries_first {V} {F} {I} seats m n k x a b c =
    let after : Me (Option V) (View F I) → Me (Option V) (View F I) = λ u. (u.0, (0, Some x) ∷ rest u.1) in
    let first : Me (Option V) (View F I) → Me (Option V) (View F I) = λ u. (holding u.0 [], (0, None) ∷ []) in
    c ∙ ap after (b ∙ ap first a)

pub joined_sees : {V F I : Type 0} (v w : View F I) (m n : Me (Option V) (View F I)) (c : List (ℕ × Option V)) → m ≡ (both v w, c)
    → n ≡ m → ((present : List I) × IsPrefix m.0.one present × IsPrefix m.0.two present)
    → IsPrefix v.seen n.0.seen × IsPrefix w.seen n.0.seen
joined_sees {V} {F} {I} v w m n c is same t =
    let e : m.0 ≡ both v w = ap (λ (x : Me (Option V) (View F I)). x.0) is in
    let p : IsPrefix v.seen t.0 = subst (λ (u : View F I). IsPrefix u.one t.0) e t.1 in
    let q : IsPrefix w.seen t.0 = subst (λ (u : View F I). IsPrefix u.two t.0) e t.2 in
    let l = longer_both v.seen w.seen t.0 p q in
    let f : longer v.seen w.seen ≡ n.0.seen = ap (λ (u : View F I). u.seen)
    (sym (ap (λ (x : Me (Option V) (View F I)). x.0) same ∙ e)) in
    (subst (IsPrefix v.seen) f l.0, subst (IsPrefix w.seen) f l.1)
