-- The marks of any two nodes of a group, and their streams.
use Rattle.std.proofs.Common.{ℕ, zero, suc, ◌+◌, ◌^◌, ◌<◌, ◌≤◌, ◌==◌, eqb, Bool, true, false, cond, ◌≡◌, ◌⊎◌, inl, inr, List, [], ◌∷◌, ◌++◌, length, filter, None, refl, sym, ap, ◌∙◌, subst, subst₂, arith, eqb-true, eq-eqb}
use Rattle.std.specs.List.{list_any}
use Rattle.std.proofs.lemmas.Bool.{cases_order}
use Rattle.samoa_model.specs.declared.setup.Setup.{Setup}
use Rattle.samoa_serial.specs.declared.message.Message.{Message}
use Rattle.samoa_laws.proofs.lists.Messages.{same_message_equal}
use Rattle.samoa_laws.proofs.lists.Lists.{begins_after, comparable_after, comparable_filter, comparable_map, ends_equal, filter_firsts, none_begins}
use Rattle.samoa_laws.specs.lists.Lists.{Begins, Comparable, EndsOnlyIn, unknown}
use Rattle.samoa_laws.specs.lists.Messages.{first_places, same_message}
use Rattle.samoa_serial.proofs.ListLaws.{begins-refl, begins-trans}
use Rattle.samoa_serial.specs.Lists.{In}
use Rattle.samoa_laws.specs.replacement.History.{Step, left_by, given, GoesOn, begun, marks, stream, of_epoch, below, is_turn, not_turn, said, said_of}
use Rattle.samoa_laws.specs.replacement.Trace.{Item, box_of, awaited, IsTrace}
use Rattle.samoa_laws.specs.replacement.Group.{Up, messages_of, called_by, IsGroup, IsOrdered}
use Rattle.samoa_laws.proofs.replacement.Inv.{all_of, below_zero}
use Rattle.samoa_laws.proofs.replacement.Rows.{Holds}
use Rattle.samoa_laws.proofs.replacement.Traces.{trace_history, trace_goes_on, trace_rests}
use Rattle.samoa_laws.proofs.replacement.Histories.{stands, last_is_turn, none_is_turn, epochs_alike, stream_marked}

-- what is called up of an epoch, where one protocol calls it all up
of_one : (e p : ℕ) (ups : List Up) → ((c : Up) → In c ups → c.message.epoch ≡ e → c.by ≡ p)
    → of_epoch e (messages_of ups) ≡ of_epoch e (called_by p ups)
of_one e p [] one = refl
of_one e p (c ∷ ups) one = go (eqb c.message.epoch e) (eqb c.by p) refl refl (of_one e p ups (λ d h q. one d (inr h) q))
  where
    mine : of_epoch e (messages_of ups) ≡ of_epoch e (called_by p ups)
        → of_epoch e (c.message ∷ messages_of ups) ≡ of_epoch e (c.message ∷ called_by p ups)
    mine ih = ap (λ z. cond (eqb c.message.epoch e) (c.message ∷ z) z) ih

    go : (a b : Bool) → eqb c.message.epoch e ≡ a → eqb c.by p ≡ b
        → of_epoch e (messages_of ups) ≡ of_epoch e (called_by p ups)
        → of_epoch e (c.message ∷ messages_of ups) ≡ of_epoch e (messages_of (cond b (c ∷ filter (λ (d : Up). d.by == p) ups) (filter (λ (d : Up). d.by == p) ups)))
    go a true f g ih = mine ih
    go true false f g ih = absurd (apart (eq-eqb c.by p (one c (inl refl) (eqb-true c.message.epoch e f))))
      where
        apart : eqb c.by p ≡ true → ⊥
        apart t = cc
    go false false f g ih = ap (λ t. cond t (c.message ∷ of_epoch e (messages_of ups)) (of_epoch e (messages_of ups))) f ∙ ih

same_epochs : (e : ℕ) (x y : Message) → same_message x y ≡ true → eqb x.epoch e ≡ eqb y.epoch e
same_epochs e x y t = ap (λ (m : Message). eqb m.epoch e) (same_message_equal x y t)

module _ (count : ℕ) (setup : ℕ → Setup) (steps : ℕ → List Step) (ups : ℕ → List Up) (protocol : ℕ → List Message → ℕ)
    (group : IsGroup count setup steps) (ordered : IsOrdered steps ups protocol) where
  abbrev epoch_of : ℕ → ℕ
  epoch_of v = (left_by (steps v)).epoch

  abbrev marks_of : ℕ → List Message
  marks_of v = marks (steps v)

  holds : (v : ℕ) → Holds (setup v) (left_by (steps v)) (begun (steps v)) (marks (steps v))
  holds v = (stands (setup v) (steps v) (group.history v) (group.short v)).holds

  -- all that have reached an epoch have the same marks below it
  abbrev Agree : ℕ → Type 0
  Agree e = (v u : ℕ) → e ≤ epoch_of v → e ≤ epoch_of u → below e (marks_of v) ≡ below e (marks_of u)

  -- all that began of the epoch at a node that reached it came from one protocol
  begun_by : (e : ℕ) → Agree e → (v : ℕ) → e ≤ epoch_of v
      → of_epoch e (begun (steps v)) ≡ of_epoch e (called_by (protocol e (below e (marks_of v))) (ups v))
  begun_by e agree v reached =
      ap (λ z. of_epoch e z) (sym (ordered.begun v)) ∙ of_one e (protocol e (below e (marks_of v))) (ups v) (λ c h q. by c q (ordered.called v c h (reaches e c.message.epoch (epoch_of v) (sym q) reached)))
    where
      reaches : (a b n : ℕ) → a ≡ b → a ≤ n → b ≤ n
      reaches a b n p l = omega arith

      by : (c : Up) → c.message.epoch ≡ e
          → (w : ℕ) × (c.message.epoch ≤ epoch_of w) × (c.by ≡ protocol c.message.epoch (below c.message.epoch (marks_of w)))
          → c.by ≡ protocol e (below e (marks_of v))
      by c q r =
          r.2 ∙ ap (λ n. protocol n (below n (marks_of r.0))) q
          ∙ ap (λ z. protocol e z) (agree r.0 v (reaches c.message.epoch e (epoch_of r.0) q r.1) reached)

  alike_at : (e : ℕ) → Agree e → (v u : ℕ) → e ≤ epoch_of v → e ≤ epoch_of u → Comparable (of_epoch e (marks_of v)) (of_epoch e (marks_of u))
  alike_at e agree v u a b =
      epochs_alike (setup v) (setup u) (steps v) (steps u) (group.history v) (group.history u) (group.short v) (group.short u) e a b (agree v u a b)
      (subst₂ P (first v (protocol e (below e (marks_of v))) (begun_by e agree v a))
      (first u (protocol e (below e (marks_of v))) (begun_by e agree u b ∙ ap (λ z. of_epoch e (called_by (protocol e z) (ups u))) (sym (agree v u a b))))
      (comparable_filter (λ (m : Message). m.epoch == e) (first_places (called_by (protocol e (below e (marks_of v))) (ups v)))
      (first_places (called_by (protocol e (below e (marks_of v))) (ups u))) (ordered.order (protocol e (below e (marks_of v))) v u)))
    where
      P : List Message → List Message → Type 0
      P l m = Comparable l m

      first : (w p : ℕ) → of_epoch e (begun (steps w)) ≡ of_epoch e (called_by p (ups w))
          → of_epoch e (first_places (called_by p (ups w))) ≡ first_places (of_epoch e (begun (steps w)))
      first w p h =
          filter_firsts same_message (λ (m : Message). m.epoch == e) unknown (λ x y t. same_epochs e x y t) (called_by p (ups w))
          ∙ ap (λ z. first_places z) (sym h)

  ends_at : (e v : ℕ) → e < epoch_of v → EndsOnlyIn (is_turn count) (of_epoch e (marks_of v))
  ends_at e v l =
      let P : ℕ → Type 0 = λ n. EndsOnlyIn (is_turn n) (of_epoch e (marks_of v)) in
      subst P (group.changes v) (last_is_turn (setup v) (steps v) (group.history v) (group.short v) e l)

  pub agree : (e : ℕ) → Agree e
  agree zero v u a b = below_zero (marks_of v) ∙ sym (below_zero (marks_of u))
  agree (suc e) v u a b =
      (holds v).core.layers e
      ∙ (λ k. agree e v u (omega arith) (omega arith) k
      ++ ends_equal (is_turn count) (of_epoch e (marks_of v)) (of_epoch e (marks_of u)) (ends_at e v (omega arith)) (ends_at e u (omega arith))
      (alike_at e (agree e) v u (omega arith) (omega arith)) k)
      ∙ sym ((holds u).core.layers e)

  -- the marks below an epoch begin all marks
  below_more : (v e j : ℕ) → Begins (below e (marks_of v)) (below (e + j) (marks_of v))
  below_more v e zero = let P : ℕ → Type 0 = λ n. Begins (below e (marks_of v)) (below n (marks_of v)) in subst P (plus_none e) (begins-refl (below e (marks_of v)))
    where
      plus_none : (n : ℕ) → n ≡ n + 0
      plus_none n = omega arith
  below_more v e (suc j) =
      let P : ℕ → Type 0 = λ n. Begins (below e (marks_of v)) (below n (marks_of v)) in
      subst P (plus_more e j)
      (begins-trans (below e (marks_of v)) (below (e + j) (marks_of v)) (below (suc (e + j)) (marks_of v)) (below_more v e j)
      (record { rest = of_epoch (e + j) (marks_of v); is = (holds v).core.layers (e + j) }))
    where
      plus_more : (n k : ℕ) → suc (n + k) ≡ n + suc k
      plus_more n k = omega arith

  below_all : (v e : ℕ) → Begins (below e (marks_of v)) (marks_of v)
  below_all v e =
      let P : List Message → Type 0 = λ z. Begins (below e (marks_of v)) z in
      subst P ((holds v).core.above (e + suc (epoch_of v)) (beyond e (epoch_of v))).0 (below_more v e (suc (epoch_of v)))
    where
      beyond : (n k : ℕ) → k < n + suc k
      beyond n k = omega arith

  all_marks : (v : ℕ) → below (epoch_of v) (marks_of v) ++ of_epoch (epoch_of v) (marks_of v) ≡ marks_of v
  all_marks v =
      all_of (length (setup v).changes) (epoch_of v) (left_by (steps v)).delivered (left_by (steps v)).early (begun (steps v)) (marks_of v)
      (holds v).core (epoch_of v) (omega arith)

  -- of two nodes in one epoch
  in_one : (v u : ℕ) → epoch_of v ≡ epoch_of u → Comparable (marks_of v) (marks_of u)
  in_one v u same =
      subst₂ P (all_marks v)
      ((λ k. agree e v u (omega arith) (omega arith) k ++ of_epoch e (marks_of u)) ∙ ap (λ n. below n (marks_of u) ++ of_epoch n (marks_of u)) same ∙ all_marks u)
      (comparable_after (below e (marks_of v)) (of_epoch e (marks_of v)) (of_epoch e (marks_of u)) (alike_at e (agree e) v u (omega arith) (omega arith)))
    where
      e : ℕ
      e = epoch_of v

      P : List Message → List Message → Type 0
      P l m = Comparable l m

  -- of one in an earlier epoch
  earlier : (v u : ℕ) → epoch_of v < epoch_of u → Begins (marks_of v) (marks_of u)
  earlier v u less =
      begins-trans (marks_of v) (below (suc e) (marks_of u)) (marks_of u)
      (subst₂ P (all_marks v)
      ((λ k. agree e v u (omega arith) (omega arith) k ++ of_epoch e (marks_of u)) ∙ sym ((holds u).core.layers e))
      (begins_after (below e (marks_of v)) (of_epoch e (marks_of v)) (of_epoch e (marks_of u))
      (none_begins (is_turn count) (of_epoch e (marks_of v)) (of_epoch e (marks_of u)) none (ends_at e u less)
      (alike_at e (agree e) v u (omega arith) (omega arith)))))
      (below_all u (suc e))
    where
      e : ℕ
      e = epoch_of v

      P : List Message → List Message → Type 0
      P l m = Begins l m

      none : list_any (is_turn count) (of_epoch e (marks_of v)) ≡ false
      none =
          let Q : ℕ → Type 0 = λ n. list_any (is_turn n) (of_epoch e (marks_of v)) ≡ false in
          subst Q (group.changes v) (none_is_turn (setup v) (steps v) (group.history v) (group.short v))

  pub marks_comparable : (v u : ℕ) → Comparable (marks_of v) (marks_of u)
  marks_comparable v u = go (cases_order (epoch_of v) (epoch_of u))
    where
      go : (epoch_of v ≡ epoch_of u) ⊎ ((epoch_of v < epoch_of u) ⊎ (epoch_of u < epoch_of v)) → Comparable (marks_of v) (marks_of u)
      go (inl same) = in_one v u same
      go (inr (inl less)) = inl (earlier v u less)
      go (inr (inr more)) = inr (earlier u v more)

  pub streams_comparable : (v u : ℕ) → GoesOn (steps v) → GoesOn (steps u) → given (steps v) ≡ None → given (steps u) ≡ None
      → Comparable (stream (steps v)) (stream (steps u))
  streams_comparable v u on also a b =
      subst₂ P (sym (is v on a)) (sym (is u also b))
      (comparable_map said (filter (not_turn count) (marks_of v)) (filter (not_turn count) (marks_of u))
      (comparable_filter (not_turn count) (marks_of v) (marks_of u) (marks_comparable v u)))
    where
      P : List (List ℕ) → List (List ℕ) → Type 0
      P l m = Comparable l m

      is : (w : ℕ) → GoesOn (steps w) → given (steps w) ≡ None → stream (steps w) ≡ said_of count (marks_of w)
      is w go none = stream_marked (setup w) (steps w) (group.history w) go none ∙ ap (λ n. said_of n (marks_of w)) (group.changes w)

-- of the boxes of a group within a trace, by a view of it for each node
pub streams_of_traces : (count : ℕ) (setup : ℕ → Setup) (items : ℕ → List Item) (ups : ℕ → List Up) (protocol : ℕ → List Message → ℕ)
    → ((v : ℕ) → length (setup v).changes ≡ count) → ((v : ℕ) → IsTrace (setup v) (items v)) → ((v : ℕ) → length (box_of (items v)) < 2 ^ 64)
    → IsOrdered (λ v. box_of (items v)) ups protocol
    → (v u : ℕ) → awaited (items v) ≡ None → awaited (items u) ≡ None → Comparable (stream (box_of (items v))) (stream (box_of (items u)))
streams_of_traces count setup items ups protocol changes trace short ordered v u a b =
    streams_comparable count setup (λ w. box_of (items w)) ups protocol
    (record { changes = changes; history = λ w. trace_history (setup w) (items w) (trace w); short = short }) ordered v u
    (trace_goes_on (setup v) (items v) (trace v)) (trace_goes_on (setup u) (items u) (trace u))
    (trace_rests (setup v) (items v) (trace v) a) (trace_rests (setup u) (items u) (trace u) b)
