-- What holds of a box after every step, and that each part of a row keeps it.
use Rattle.std.proofs.Common.{ℕ, suc, ◌<◌, ◌≤◌, ◌==◌, nat_lt, nat_le, eqb, ltb, Bool, true, false, not, cond, ◌||◌, ◌≡◌, ◌⊎◌, inl, inr, List, [], ◌∷◌, ◌++◌, filter, Some, refl, sym, ap, ◌∙◌, subst, if◌then◌else◌, append_assoc, append-nil, arith, eqb-true, eq-eqb, ne_eqb, lt-ltb, le-ltb, le-leb}
use Rattle.std.specs.List.{list_any}
use Rattle.std.proofs.lemmas.Bool.{cases_order}
use Rattle.std.proofs.lemmas.Bool.Decides.{nat_tests}
use Rattle.std.proofs.lemmas.List.Elements.{filter-append}
use Rattle.samoa_serial.specs.declared.message.Message.{Message}
use Rattle.samoa_serial.specs.declared.keys.Pair.{Pair}
use Rattle.samoa_laws.proofs.lists.Lists.{apart_push, begins_firsts, closed_among, filter_push_in, filter_push_out, firsts_filtered, push_both, take_one, take_other}
use Rattle.samoa_laws.specs.lists.Lists.{Begins, EndsOnlyIn, IsApart, among}
use Rattle.samoa_serial.proofs.ListLaws.{begins-trans}
use Rattle.samoa_serial.specs.Rows.{has_pair, with_pair}
use Rattle.samoa_serial.specs.ReplTable.{pair_of, first_of, without_first}
use Rattle.samoa_laws.specs.replacement.History.{of_epoch, below, same_pair, is_turn, fresh}
use Rattle.samoa_laws.proofs.replacement.Sets.{same_trans, known_more}

-- a box in an epoch, with what it delivered and what came early, of which so many messages began and were marked
pub record Core (count epoch : ℕ) (delivered : List Pair) (early begun marks : List Message) : Type 0 where
  pub known : (x : Message) → has_pair delivered (pair_of x) ≡ among same_pair marks x
  pub apart : IsApart same_pair marks
  pub layers : (e : ℕ) → below (suc e) marks ≡ below e marks ++ of_epoch e marks
  pub above : (e : ℕ) → epoch < e → (below e marks ≡ marks) × (of_epoch e marks ≡ [])
  pub ahead : (e : ℕ) → epoch ≤ e → fresh (below e marks) (of_epoch e begun) ≡ of_epoch e marks ++ fresh marks (of_epoch e early)
  pub left : (e : ℕ) → e < epoch → Begins (of_epoch e marks) (fresh (below e marks) (of_epoch e begun)) × EndsOnlyIn (is_turn count) (of_epoch e marks)

pub record Inv (count epoch : ℕ) (delivered : List Pair) (early begun marks : List Message) : Type 0 where
  pub core : Core count epoch delivered early begun marks
  pub present : list_any (is_turn count) (of_epoch epoch marks) ≡ false

pub opening : (count : ℕ) → Inv count 0 [] [] [] []
opening count = record {
  core = record {
    known = λ x. refl;
    apart = tt;
    layers = λ e. refl;
    above = λ e l. (refl, refl);
    ahead = λ e l. refl;
    left = λ e l. absurd (omega arith);
  };
  present = refl;
}

-- ---- messages of an epoch
of_push_in : (e : ℕ) (l : List Message) (m : Message) → m.epoch ≡ e → of_epoch e (l ++ m ∷ []) ≡ of_epoch e l ++ m ∷ []
of_push_in e l m h = filter_push_in (λ (x : Message). x.epoch == e) l m (eq-eqb m.epoch e h)

of_push_out : (e : ℕ) (l : List Message) (m : Message) → (m.epoch ≡ e → ⊥) → of_epoch e (l ++ m ∷ []) ≡ of_epoch e l
of_push_out e l m h = filter_push_out (λ (x : Message). x.epoch == e) l m (ne_eqb m.epoch e h)

below_push_in : (e : ℕ) (l : List Message) (m : Message) → m.epoch < e → below e (l ++ m ∷ []) ≡ below e l ++ m ∷ []
below_push_in e l m h = filter_push_in (λ (x : Message). nat_lt x.epoch e) l m (lt-ltb m.epoch e h)

below_push_out : (e : ℕ) (l : List Message) (m : Message) → e ≤ m.epoch → below e (l ++ m ∷ []) ≡ below e l
below_push_out e l m h = filter_push_out (λ (x : Message). nat_lt x.epoch e) l m (le-ltb m.epoch e h)

pub below_zero : (ms : List Message) → below 0 ms ≡ []
below_zero [] = refl
below_zero (m ∷ ms) = ap (λ b. cond b (m ∷ below 0 ms) (below 0 ms)) (le-ltb m.epoch 0 (omega arith)) ∙ below_zero ms

-- all that is marked, from the present epoch on
pub all_of : (count epoch : ℕ) (delivered : List Pair) (early begun marks : List Message) → Core count epoch delivered early begun marks
    → (e : ℕ) → epoch ≤ e → below e marks ++ of_epoch e marks ≡ marks
all_of count epoch delivered early begun marks c e l = sym (c.layers e) ∙ (c.above (suc e) (omega arith)).0

-- ---- a message begins
pub begins : (count epoch : ℕ) (delivered : List Pair) (early begun marks : List Message) (m : Message)
    → Core count epoch delivered early begun marks
    → Core count epoch delivered (if nat_le epoch m.epoch then early ++ m ∷ [] else early) (begun ++ m ∷ []) marks
begins count epoch delivered early begun marks m c = record {
  known = c.known;
  apart = c.apart;
  layers = c.layers;
  above = c.above;
  ahead = λ e l. at e l (cases_order m.epoch e);
  left = λ e l. (
    begins-trans (of_epoch e marks) (fresh (below e marks) (of_epoch e begun)) (fresh (below e marks) (of_epoch e (begun ++ m ∷ [])))
        (c.left e l).0 (longer e),
    (c.left e l).1,
  );
}
  where
    longer : (e : ℕ) → Begins (fresh (below e marks) (of_epoch e begun)) (fresh (below e marks) (of_epoch e (begun ++ m ∷ [])))
    longer e = begins_firsts same_pair same_trans (among same_pair (below e marks)) (closed_among same_pair same_trans (below e marks))
        (of_epoch e begun) (of_epoch e (begun ++ m ∷ []))
        (record { rest = of_epoch e (m ∷ []); is = filter-append (λ (x : Message). x.epoch == e) begun (m ∷ []) })

    new : List Message
    new = if nat_le epoch m.epoch then early ++ m ∷ [] else early

    other : (e : ℕ) (b : Bool) → (m.epoch ≡ e → ⊥) → of_epoch e (if b then early ++ m ∷ [] else early) ≡ of_epoch e early
    other e true ne = of_push_out e early m ne
    other e false ne = refl

    same : (e : ℕ) → epoch ≤ e → (m.epoch ≡ e → ⊥) → fresh (below e marks) (of_epoch e (begun ++ m ∷ [])) ≡ of_epoch e marks ++ fresh marks (of_epoch e new)
    same e l ne =
        ap (λ z. fresh (below e marks) z) (of_push_out e begun m ne) ∙ c.ahead e l
        ∙ ap (λ z. of_epoch e marks ++ fresh marks z) (sym (other e (nat_le epoch m.epoch) ne))

    grown : (e : ℕ) → epoch ≤ e → m.epoch ≡ e → of_epoch e new ≡ of_epoch e early ++ m ∷ []
    grown e l h =
        ap (λ b. of_epoch e (if b then early ++ m ∷ [] else early)) (le-leb epoch m.epoch (omega arith)) ∙ of_push_in e early m h

    both : (e : ℕ) → epoch ≤ e → m.epoch ≡ e → fresh (below e marks) (of_epoch e (begun ++ m ∷ [])) ≡ of_epoch e marks ++ fresh marks (of_epoch e new)
    both e l h =
        let all : below e marks ++ of_epoch e marks ≡ marks = all_of count epoch delivered early begun marks c e l in
        ap (λ z. fresh (below e marks) z) (of_push_in e begun m h)
        ∙ push_both same_pair same_trans (below e marks) (of_epoch e marks) (of_epoch e begun) (of_epoch e early) m
        (c.ahead e l ∙ ap (λ z. of_epoch e marks ++ fresh z (of_epoch e early)) (sym all))
        ∙ ap (λ z. of_epoch e marks ++ fresh z (of_epoch e early ++ m ∷ [])) all
        ∙ ap (λ z. of_epoch e marks ++ fresh marks z) (sym (grown e l h))

    at : (e : ℕ) → epoch ≤ e → (m.epoch ≡ e) ⊎ ((m.epoch < e) ⊎ (e < m.epoch))
        → fresh (below e marks) (of_epoch e (begun ++ m ∷ [])) ≡ of_epoch e marks ++ fresh marks (of_epoch e new)
    at e l (inl h) = both e l h
    at e l (inr (inl h)) = same e l (λ q. omega arith)
    at e l (inr (inr h)) = same e l (λ q. omega arith)

-- ---- what is old or delivered is removed
pub cleans : (count epoch : ℕ) (delivered : List Pair) (early begun marks : List Message)
    → Core count epoch delivered early begun marks
    → Core count epoch delivered (filter (λ (m : Message). not (nat_lt m.epoch epoch || has_pair delivered (pair_of m))) early) begun marks
cleans count epoch delivered early begun marks c = record {
  known = c.known;
  apart = c.apart;
  layers = c.layers;
  above = c.above;
  ahead = λ e l. c.ahead e l ∙ ap (λ z. of_epoch e marks ++ z) (sym (less e l));
  left = c.left;
}
  where
    gone : (e x : ℕ) (b a : Bool) → epoch ≤ e → eqb x e ≡ true → not (ltb x epoch || b) ≡ false → b ≡ a → a ≡ true
    gone e x b a l p q h = grind (arith, nat_tests)

    less : (e : ℕ) → epoch ≤ e
        → fresh marks (of_epoch e (filter (λ (m : Message). not (nat_lt m.epoch epoch || has_pair delivered (pair_of m))) early)) ≡ fresh marks (of_epoch e early)
    less e l = firsts_filtered same_pair (among same_pair marks) (λ (m : Message). m.epoch == e)
        (λ (m : Message). not (nat_lt m.epoch epoch || has_pair delivered (pair_of m)))
        (λ y p q. gone e y.epoch (has_pair delivered (pair_of y)) (among same_pair marks y) l p q (c.known y)) early

-- ---- the first message of the epoch
pub first_epoch : (epoch : ℕ) (early : List Message) (x : Message) → first_of epoch early ≡ Some x → x.epoch ≡ epoch
first_epoch epoch [] x e = absurd (cc)
first_epoch epoch (m ∷ ms) x e = go (eqb m.epoch epoch) refl e (first_epoch epoch ms x)
  where
    same : (a b : Message) → Some a ≡ Some b → a ≡ b
    same a b h = cc

    go : (b : Bool) → eqb m.epoch epoch ≡ b → cond b (Some m) (first_of epoch ms) ≡ Some x → (first_of epoch ms ≡ Some x → x.epoch ≡ epoch) → x.epoch ≡ epoch
    go true t h ih = ap (λ (y : Message). y.epoch) (sym (same m x h)) ∙ eqb-true m.epoch epoch t
    go false t h ih = ih h

first_there : (epoch : ℕ) (early : List Message) (x : Message) → first_of epoch early ≡ Some x
    → of_epoch epoch early ≡ x ∷ of_epoch epoch (without_first epoch early)
first_there epoch [] x e = absurd (cc)
first_there epoch (m ∷ ms) x e = go (eqb m.epoch epoch) refl e (first_there epoch ms x)
  where
    same : (a b : Message) → Some a ≡ Some b → a ≡ b
    same a b h = cc

    go : (b : Bool) → eqb m.epoch epoch ≡ b → cond b (Some m) (first_of epoch ms) ≡ Some x
        → (first_of epoch ms ≡ Some x → of_epoch epoch ms ≡ x ∷ of_epoch epoch (without_first epoch ms))
        → cond b (m ∷ of_epoch epoch ms) (of_epoch epoch ms) ≡ x ∷ of_epoch epoch (cond b ms (m ∷ without_first epoch ms))
    go true t h ih = ap (λ y. y ∷ of_epoch epoch ms) (same m x h)
    go false t h ih =
        ih h ∙ ap (λ b. x ∷ cond b (m ∷ of_epoch epoch (without_first epoch ms)) (of_epoch epoch (without_first epoch ms))) (sym t)

others_there : (epoch e : ℕ) → (epoch ≡ e → ⊥) → (early : List Message) → of_epoch e (without_first epoch early) ≡ of_epoch e early
others_there epoch e ne [] = refl
others_there epoch e ne (m ∷ ms) = go (eqb m.epoch epoch) refl (others_there epoch e ne ms)
  where
    go : (b : Bool) → eqb m.epoch epoch ≡ b → of_epoch e (without_first epoch ms) ≡ of_epoch e ms
        → of_epoch e (cond b ms (m ∷ without_first epoch ms)) ≡ of_epoch e (m ∷ ms)
    go true t ih = ap (λ b. cond b (m ∷ of_epoch e ms) (of_epoch e ms)) (sym (ne_eqb m.epoch e (λ h. ne (sym (eqb-true m.epoch epoch t) ∙ h))))
    go false t ih = ap (λ z. cond (eqb m.epoch e) (m ∷ z) z) ih

-- ---- the first message of the epoch is marked
pub takes : (count epoch : ℕ) (delivered : List Pair) (early begun marks : List Message) (x : Message)
    → first_of epoch early ≡ Some x → among same_pair marks x ≡ false
    → Core count epoch delivered early begun marks
    → Core count epoch (with_pair delivered (pair_of x)) (without_first epoch early) begun (marks ++ x ∷ [])
takes count epoch delivered early begun marks x first new c = record {
  known = known_more delivered marks x c.known;
  apart = apart_push same_pair marks x c.apart new;
  layers = λ e. layer e (cases_order epoch e);
  above = λ e l. (below_push_in e marks x (omega (arith, here)) ∙ ap (λ z. z ++ x ∷ []) (c.above e l).0, of_push_out e marks x (λ h. omega (arith, here)) ∙ (c.above e l).1);
  ahead = λ e l. at e l (cases_order epoch e);
  left = λ e l. old e l;
}
  where
    here : x.epoch ≡ epoch
    here = first_epoch epoch early x first

    more : List Message
    more = marks ++ x ∷ []

    layer : (e : ℕ) → (epoch ≡ e) ⊎ ((epoch < e) ⊎ (e < epoch)) → below (suc e) more ≡ below e more ++ of_epoch e more
    layer e (inl h) =
        below_push_in (suc e) marks x (omega (arith, here)) ∙ ap (λ z. z ++ x ∷ []) (c.layers e)
        ∙ append_assoc (below e marks) (of_epoch e marks) (x ∷ [])
        ∙ (λ k. sym (below_push_out e marks x (omega (arith, here))) k ++ sym (of_push_in e marks x (here ∙ h)) k)
    layer e (inr (inl h)) =
        let none : of_epoch e marks ≡ [] = (c.above e h).1 in
        below_push_in (suc e) marks x (omega (arith, here)) ∙ ap (λ z. z ++ x ∷ []) (c.layers e)
        ∙ ap (λ z. (below e marks ++ z) ++ x ∷ []) none
        ∙ ap (λ z. z ++ x ∷ []) (append-nil (below e marks))
        ∙ sym (append-nil (below e marks ++ x ∷ []))
        ∙ (λ k. sym (below_push_in e marks x (omega (arith, here))) k ++ sym (of_push_out e marks x (λ q. omega (arith, here)) ∙ none) k)
    layer e (inr (inr h)) =
        below_push_out (suc e) marks x (omega (arith, here)) ∙ c.layers e
        ∙ (λ k. sym (below_push_out e marks x (omega (arith, here))) k ++ sym (of_push_out e marks x (λ q. omega (arith, here))) k)

    old : (e : ℕ) → e < epoch → Begins (of_epoch e more) (fresh (below e more) (of_epoch e begun)) × EndsOnlyIn (is_turn count) (of_epoch e more)
    old e l =
        let of : of_epoch e more ≡ of_epoch e marks = of_push_out e marks x (λ q. omega (arith, here)) in
        let under : below e more ≡ below e marks = below_push_out e marks x (omega (arith, here)) in (
          (let P : List Message → Type 0 = λ z. Begins z (fresh (below e more) (of_epoch e begun)) in
              subst P (sym of) (let Q : List Message → Type 0 = λ z. Begins (of_epoch e marks) (fresh z (of_epoch e begun)) in subst Q (sym under) (c.left e l).0)),
          (let P : List Message → Type 0 = λ z. EndsOnlyIn (is_turn count) z in subst P (sym of) (c.left e l).1),
        )

    now : (e : ℕ) → epoch ≡ e → fresh (below e more) (of_epoch e begun) ≡ of_epoch e more ++ fresh more (of_epoch e (without_first epoch early))
    now e h =
        let all : below e marks ++ of_epoch e marks ≡ marks = all_of count epoch delivered early begun marks c e (omega arith) in
        ap (λ z. fresh z (of_epoch e begun)) (below_push_out e marks x (omega (arith, here)))
        ∙ take_one same_pair (below e marks) (of_epoch e marks) (of_epoch e begun) (of_epoch e (without_first epoch early)) x
        (ap (λ z. among same_pair z x) all ∙ new)
        (c.ahead e (omega arith) ∙ (λ k. of_epoch e marks ++ fresh (sym all k) (waits k)))
        ∙ (λ k. sym (of_push_in e marks x (here ∙ h)) k ++ fresh (joined all k) (of_epoch e (without_first epoch early)))
      where
        waits : of_epoch e early ≡ x ∷ of_epoch e (without_first epoch early)
        waits = ap (λ (n : ℕ). of_epoch n early) (sym h) ∙ first_there epoch early x first ∙ ap (λ (n : ℕ). x ∷ of_epoch n (without_first epoch early)) h

        joined : below e marks ++ of_epoch e marks ≡ marks → below e marks ++ (of_epoch e marks ++ x ∷ []) ≡ more
        joined all = sym (append_assoc (below e marks) (of_epoch e marks) (x ∷ [])) ∙ ap (λ z. z ++ x ∷ []) all

    later : (e : ℕ) → epoch < e → fresh (below e more) (of_epoch e begun) ≡ of_epoch e more ++ fresh more (of_epoch e (without_first epoch early))
    later e h =
        let all : below e marks ≡ marks = (c.above e h).0 in
        let none : of_epoch e marks ≡ [] = (c.above e h).1 in
        ap (λ z. fresh z (of_epoch e begun)) (below_push_in e marks x (omega (arith, here)) ∙ ap (λ z. z ++ x ∷ []) all)
        ∙ take_other same_pair same_trans marks (of_epoch e begun) (of_epoch e early) x
        (ap (λ z. fresh z (of_epoch e begun)) (sym all) ∙ c.ahead e (omega arith) ∙ ap (λ z. z ++ fresh marks (of_epoch e early)) none)
        ∙ (λ k. sym (of_push_out e marks x (λ q. omega (arith, here)) ∙ none) k ++ fresh more (sym (others_there epoch e (λ q. omega arith) early) k))

    at : (e : ℕ) → epoch ≤ e → (epoch ≡ e) ⊎ ((epoch < e) ⊎ (e < epoch))
        → fresh (below e more) (of_epoch e begun) ≡ of_epoch e more ++ fresh more (of_epoch e (without_first epoch early))
    at e l (inl h) = now e h
    at e l (inr (inl h)) = later e h
    at e l (inr (inr h)) = absurd (omega arith)

-- ---- the epoch ends
pub ends : (count epoch : ℕ) (delivered : List Pair) (early begun marks : List Message)
    → EndsOnlyIn (is_turn count) (of_epoch epoch marks)
    → Core count epoch delivered early begun marks
    → Inv count (suc epoch) delivered early begun marks
ends count epoch delivered early begun marks last c = record {
  core = record {
    known = c.known;
    apart = c.apart;
    layers = c.layers;
    above = λ e l. c.above e (omega arith);
    ahead = λ e l. c.ahead e (omega arith);
    left = λ e l. at e l (cases_order e epoch);
  };
  present = ap (λ z. list_any (is_turn count) z) (c.above (suc epoch) (omega arith)).1;
}
  where
    here : Begins (of_epoch epoch marks) (fresh (below epoch marks) (of_epoch epoch begun)) × EndsOnlyIn (is_turn count) (of_epoch epoch marks)
    here = (record { rest = fresh marks (of_epoch epoch early); is = c.ahead epoch (omega arith) }, last)

    at : (e : ℕ) → e < suc epoch → (e ≡ epoch) ⊎ ((e < epoch) ⊎ (epoch < e))
        → Begins (of_epoch e marks) (fresh (below e marks) (of_epoch e begun)) × EndsOnlyIn (is_turn count) (of_epoch e marks)
    at e l (inl h) =
        let P : ℕ → Type 0 = λ n. Begins (of_epoch n marks) (fresh (below n marks) (of_epoch n begun)) × EndsOnlyIn (is_turn count) (of_epoch n marks) in
        subst P (sym h) here
    at e l (inr (inl h)) = c.left e h
    at e l (inr (inr h)) = absurd (omega arith)
