-- The handler steps that are out, as steps are made.
use Rattle.std.proofs.Common.{arith, ◌≡◌, ◌≢◌, ◌⊎◌, inl, inr, ℕ, zero, suc, ◌-◌, ◌<◌, ◌≤◌, List, [], ◌∷◌, ◌++◌, length, get_or, Option, Some, None, refl, ap, sym, ◌∙◌, subst}
use Rattle.std.specs.Prelude.{slice_index_or}
use Rattle.std.specs.List.{All, AllPairs, remove}
use Rattle.std.proofs.lemmas.Bool.{false≢true}
use Rattle.std.proofs.lemmas.List.{get_or_append_left}
use Rattle.std.proofs.lemmas.List.Elements.{All-append, All-cons, All-head, All-nil, All-tail}
use Rattle.std.proofs.lemmas.List.Quantifiers.{all_pairs_push, all_pairs_remove}
use Rattle.samoa_model.specs.declared.handler.Moment.{Moment}
use Rattle.samoa_model.specs.declared.record.Ext.{Ext}
use Rattle.samoa_model.specs.declared.record.Step.{Step}
use Rattle.samoa_serial.specs.State.{State}
use Rattle.samoa_serial.specs.declared.call.Call.{Call}
use Rattle.samoa_serial.specs.Alone.{next_step}
use Rattle.samoa_invariant.specs.Play.{Play}
use Rattle.samoa_invariant.specs.Inv.{Invariant}
use Rattle.samoa_invariant.specs.Slots.{put_at}
use Rattle.samoa_invariant.specs.State as model
use Rattle.samoa_invariant.specs.State.{AllEnded, CanLeave, Core, HasTurn, IsOut}
use Rattle.samoa_invariant.specs.Picking.{BringsBack, IsEnterOf, IsOutTo, StaysOut}
use Rattle.samoa_invariant.specs.Runs.{CanMake, IsDue, IsRun, Trace, after_step, no_ext, play, state, with_ext, with_step}
use Rattle.samoa_invariant.proofs.preservation.Slots.{put_at-else, put_at-here, slot_or_not, turn_declares, turn_owns}
use Rattle.samoa_invariant.proofs.progress.Progress.{ended_stays}
use Rattle.samoa_invariant.proofs.representation.Standing.{stays_out}
use Rattle.samoa_invariant.proofs.representation.Traces.{invariant, state-ext, state-step}
use Rattle.samoa_control.specs.Places.{seen_in}
use Rattle.samoa_control.specs.Steps.{IsNoAdmit}
use Rattle.samoa_control.specs.Turns.{Going, IsAway}
use Rattle.samoa_control.proofs.Facts.{ended-home}
use Rattle.samoa_replay.specs.Following.{AreOut}

-- ---- where all have ended, only an admission may come
pub none_goes_on : (P : Play) (core : Core) → Invariant P core → AllEnded core → (step : Step) → IsNoAdmit step → CanMake P core step → ⊥
none_goes_on P core i all (Step.Admit comp) plain can = plain
none_goes_on P core i all (Step.Enter comp micro) plain can = ended_stays P core (comp - 1) micro i (all (comp - 1) can.enabled.turn.admitted) can.enabled
none_goes_on P core i all (Step.Leave comp) plain can =
    ended-home P core (comp - 1) (P.node (comp - 1)) can.enabled.slot i can.enabled.out.out (all (comp - 1) can.enabled.out.admitted)
none_goes_on P core i all (Step.Abandon comp) plain can =
    ended-home P core (comp - 1) (P.node (comp - 1)) can.enabled.slot i can.enabled.out.out (all (comp - 1) can.enabled.out.admitted)
none_goes_on P core i all (Step.Release comp micro) plain can =
    let turn : HasTurn P core (comp - 1) micro = can.enabled.turn in
    let owns = turn_owns P core (comp - 1) micro i turn in
    let past = (i.ended (comp - 1) turn.admitted (all (comp - 1) turn.admitted)).past micro (turn_declares P core (comp - 1) micro i turn) in
    absurd (omega (arith, owns.below, past))
none_goes_on P core i all (Step.End comp) plain can = false≢true (sym can.enabled.not_ended ∙ all (comp - 1) can.enabled.admitted)

-- ---- what is out after a step was out before it, or was entered by it
out_next : (P : Play) (core : Core) (j : ℕ) (next : Call × Moment) (slot : ℕ) → Invariant P core → core.out (P.node j) slot ≡ Some j → next_step (core.comp j) ≡ Some next
    → next.0.handler.micro.0 ≡ slot
out_next P core j next slot i out is =
    let r = i.out (P.node j) slot j out in
    let pair : Some (r.next.call, r.next.moment) ≡ Some next = sym r.next.next ∙ (ap next_step (sym (i.calls.comp j r.admitted)) ∙ is) in
    let call : r.next.call ≡ next.0 = cc in
    ap (λ (c : Call). c.handler.micro.0) (sym call) ∙ r.next.is_at

some-none : (x : Call × Moment) → Some x ≡ None → ⊥
some-none x e = cc

out_has-next : (P : Play) (core : Core) (j slot : ℕ) → Invariant P core → core.out (P.node j) slot ≡ Some j → next_step (core.comp j) ≡ None → ⊥
out_has-next P core j slot i out is =
    let r = i.out (P.node j) slot j out in
    some-none (r.next.call, r.next.moment) (sym r.next.next ∙ (ap next_step (sym (i.calls.comp j r.admitted)) ∙ is))

-- the same slot, where it was put back
module _ (P : Play) (core : Core) (i : Invariant P core) (j k slot : ℕ) where
  put_back : (next : Call × Moment) → next_step (core.comp k) ≡ Some next
      → put_at core.out (P.node k) next.0.handler.micro.0 None (P.node j) slot ≡ Some j
      → (core.out (P.node j) slot ≡ Some j) × (k ≡ j → ⊥)
  put_back next is out = go (slot_or_not (P.node j) (P.node k) slot next.0.handler.micro.0)
    where
      apart : k ≡ j → core.out (P.node j) slot ≡ Some j → (P.node j ≢ P.node k) ⊎ (slot ≢ next.0.handler.micro.0) → ⊥
      apart same was (inl ne) = ne (ap (λ (x : ℕ). P.node x) (sym same))
      apart same was (inr ne) = ne (sym (out_next P core j next slot i was (ap (λ (x : ℕ). next_step (core.comp x)) (sym same) ∙ is)))

      go : ((P.node j ≡ P.node k) × (slot ≡ next.0.handler.micro.0)) ⊎ ((P.node j ≢ P.node k) ⊎ (slot ≢ next.0.handler.micro.0))
          → (core.out (P.node j) slot ≡ Some j) × (k ≡ j → ⊥)
      go (inl e) =
          let plain : None ≡ Some j = sym (put_at-here {A = Option ℕ} core.out (P.node k) next.0.handler.micro.0 (P.node j) slot None e.0 e.1) ∙ out in
          absurd (cc plain)
      go (inr ne) =
          let was : core.out (P.node j) slot ≡ Some j = sym (put_at-else {A = Option ℕ} core.out (P.node k) next.0.handler.micro.0 (P.node j) slot None ne) ∙ out in
          (was, λ same. apart same was ne)

data Was (P : Play) (core : Core) (step : Step) (j : ℕ) : Type 0 where
  Before : CanLeave P core j → (BringsBack (suc j) step → ⊥) → Was P core step j
  Entered : IsEnterOf (suc j) step → Was P core step j

number_of : (comp j : ℕ) → 0 < comp → comp - 1 ≡ j → comp ≡ suc j
number_of comp j first e = omega (arith, first, e)

was_out : (P : Play) (core : Core) → Invariant P core → (step : Step) → CanMake P core step → (j : ℕ) → CanLeave P (after_step P core step) j → Was P core step j
was_out P core i (Step.Admit comp) can j out =
    let was : core.out (P.node j) out.slot ≡ Some j = out.out.out in
    Was.Before (record { slot = out.slot; out = record { admitted = (i.out (P.node j) out.slot j was).admitted; out = was } }) (λ b. b)
was_out P core i (Step.Enter comp micro) can j out = go (slot_or_not (P.node j) (P.node (comp - 1)) out.slot micro)
  where
    go : ((P.node j ≡ P.node (comp - 1)) × (out.slot ≡ micro)) ⊎ ((P.node j ≢ P.node (comp - 1)) ⊎ (out.slot ≢ micro)) → Was P core (Step.Enter comp micro) j
    go (inl e) =
        let its : Some (comp - 1) ≡ Some j = sym (put_at-here {A = Option ℕ} core.out (P.node (comp - 1)) micro (P.node j) out.slot (Some (comp - 1)) e.0 e.1) ∙ out.out.out in
        Was.Entered (number_of comp j can.number (cc its))
    go (inr ne) =
        let was : core.out (P.node j) out.slot ≡ Some j = sym (put_at-else {A = Option ℕ} core.out (P.node (comp - 1)) micro (P.node j) out.slot (Some (comp - 1)) ne) ∙ out.out.out in
        Was.Before (record { slot = out.slot; out = record { admitted = out.out.admitted; out = was } }) (λ b. b)
was_out P core i (Step.Leave comp) can j out = go (next_step (core.comp (comp - 1))) refl out
  where
    go : (o : Option (Call × Moment)) → next_step (core.comp (comp - 1)) ≡ o → CanLeave P (model.leave_next P core (comp - 1) o) j → Was P core (Step.Leave comp) j
    go None is here = absurd (out_has-next P core (comp - 1) can.enabled.slot i can.enabled.out.out is)
    go (Some next) is here =
        let back = put_back P core i j (comp - 1) here.slot next is here.out.out in
        Was.Before (record { slot = here.slot; out = record { admitted = here.out.admitted; out = back.0 } }) (λ same. back.1 (omega (arith, same)))
was_out P core i (Step.Abandon comp) can j out = go (next_step (core.comp (comp - 1))) refl out
  where
    go : (o : Option (Call × Moment)) → next_step (core.comp (comp - 1)) ≡ o → CanLeave P (model.abandon_next P core (comp - 1) o) j → Was P core (Step.Abandon comp) j
    go None is here = absurd (out_has-next P core (comp - 1) can.enabled.slot i can.enabled.out.out is)
    go (Some next) is here =
        let back = put_back P core i j (comp - 1) here.slot next is here.out.out in
        Was.Before (record { slot = here.slot; out = record { admitted = here.out.admitted; out = back.0 } }) (λ same. back.1 (omega (arith, same)))
was_out P core i (Step.Release comp micro) can j out =
    Was.Before (record { slot = out.slot; out = record { admitted = out.out.admitted; out = out.out.out } }) (λ b. b)
was_out P core i (Step.End comp) can j out =
    Was.Before (record { slot = out.slot; out = record { admitted = out.out.admitted; out = out.out.out } }) (λ b. b)

-- ---- what is out stays so until it is brought back
away-step : (t : Trace) (step : Step) (g : Going) → IsRun (with_step t step) → IsAway t g → (BringsBack g.comp step → ⊥) → IsAway (with_step t step) g
away-step t step g run away not_back =
    let out : IsOutTo t g.comp g.micro = record { number = away.first; out = away.out } in
    let s : StaysOut t (with_step t step) g.comp g.micro =
    stays_out t (step ∷ []) g.comp g.micro run out (All-cons (λ (x : Step). BringsBack g.comp x → ⊥) step [] not_back (All-nil (λ (x : Step). BringsBack g.comp x → ⊥))) in record {
      first = away.first;
      next = record {
        call = away.next.call;
        next = ap next_step s.calls ∙ away.next.next;
        is_at = away.next.is_at;
        before = away.next.before ∙ ap (λ (b : State). seen_in t.script ((play t).node (g.comp - 1)) g.micro b) (sym s.box);
      };
      out = s.out;
    }

all_mapped : (P Q : Going → Type 0) → ((g : Going) → P g → Q g) → (gs : List Going) → All P gs → All Q gs
all_mapped P Q f [] all = All-nil Q
all_mapped P Q f (g ∷ gs) all = All-cons Q g gs (f g (All-head P g gs all)) (all_mapped P Q f gs (All-tail P g gs all))

all_both : (P Q R : Going → Type 0) → ((g : Going) → P g → Q g → R g) → (gs : List Going) → All P gs → All Q gs → All R gs
all_both P Q R f [] all also = All-nil R
all_both P Q R f (g ∷ gs) all also = All-cons R g gs (f g (All-head P g gs all) (All-head Q g gs also)) (all_both P Q R f gs (All-tail P g gs all) (All-tail Q g gs also))

-- the same of a Leave
left_of : (t : Trace) (step : Step) (comp : ℕ) → IsRun t → IsDue t step → IsDue (with_step t step) (Step.Leave comp) → Was (play t) (state t) step (comp - 1)
left_of t step comp run due out =
    was_out (play t) (state t) (invariant t run) step due (comp - 1)
    (subst (λ (c : Core). CanLeave (play t) c (comp - 1)) (state-step t step run) out.enabled)

leave_due : (t : Trace) (comp : ℕ) → 0 < comp → CanLeave (play t) (state t) (comp - 1) → IsDue t (Step.Leave comp)
leave_due t comp first can = record { number = first; enabled = can }

-- a step by which nothing goes out or comes back
abbrev StaysHome : Step → Type 0
StaysHome step = (comp : ℕ) → (BringsBack comp step → ⊥) × (IsEnterOf comp step → ⊥)

pub out-other : (t : Trace) (step : Step) (turns : List Going) → IsRun t → IsRun (with_step t step) → IsDue t step → StaysHome step → AreOut t turns → AreOut (with_step t step) turns
out-other t step turns run later due home o = record {
  away = all_mapped (IsAway t) (IsAway (with_step t step)) (λ g away. away-step t step g later away (home g.comp).0) turns o.away;
  apart = o.apart;
  whole = λ comp out none. go comp out none (left_of t step comp run due out);
}
  where
    go : (comp : ℕ) → IsDue (with_step t step) (Step.Leave comp) → All (λ (g : Going). g.comp ≢ comp) turns → Was (play t) (state t) step (comp - 1) → ⊥
    go comp out none (Was.Before can not_back) = o.whole comp (leave_due t comp out.number can) none
    go comp out none (Was.Entered its) = (home (suc (comp - 1))).1 its

-- ---- one goes out
not_of : (t : Trace) (comp micro : ℕ) (g : Going) → IsDue t (Step.Enter comp micro) → IsAway t g → g.comp ≢ comp
not_of t comp micro g due away same =
    let first : 0 < g.comp = away.first in
    due.enabled.not_out ((play t).node (g.comp - 1)) g.micro (away.out ∙ ap (λ (k : ℕ). Some (k - 1)) same)

pub out-entered : (t : Trace) (turns : List Going) (g : Going) (comp micro : ℕ) → IsRun t → IsRun (with_step t (Step.Enter comp micro)) → IsDue t (Step.Enter comp micro) → g.comp ≡ comp
    → IsAway (with_step t (Step.Enter comp micro)) g → AreOut t turns → AreOut (with_step t (Step.Enter comp micro)) (turns ++ g ∷ [])
out-entered t turns g comp micro run later due its away o = record {
  away = All-append (IsAway u) turns (g ∷ []) (all_mapped (IsAway t) (IsAway u) (λ h is. away-step t step h later is (λ b. b)) turns o.away) (All-cons (IsAway u) g [] away (All-nil (IsAway u)));
  apart = all_pairs_push (λ (a b : Going). a.comp ≢ b.comp) turns g o.apart (λ k d less same. not_of t comp micro (get_or turns k d) due (o.away k d less) (same ∙ its));
  whole = λ c out none. go c out (first_part turns none) (last_part turns none) (left_of t step c run due out);
}
  where
    step : Step
    step = Step.Enter comp micro

    u : Trace
    u = with_step t step

    first_part : {c : ℕ} (xs : List Going) → All (λ (h : Going). h.comp ≢ c) (xs ++ g ∷ []) → All (λ (h : Going). h.comp ≢ c) xs
    first_part {c} [] all = All-nil (λ (h : Going). h.comp ≢ c)
    first_part {c} (x ∷ xs) all =
        All-cons (λ (h : Going). h.comp ≢ c) x xs (All-head (λ (h : Going). h.comp ≢ c) x (xs ++ g ∷ []) all) (first_part xs (All-tail (λ (h : Going). h.comp ≢ c) x (xs ++ g ∷ []) all))

    last_part : {c : ℕ} (xs : List Going) → All (λ (h : Going). h.comp ≢ c) (xs ++ g ∷ []) → g.comp ≢ c
    last_part {c} [] all = All-head (λ (h : Going). h.comp ≢ c) g [] all
    last_part {c} (x ∷ xs) all = last_part xs (All-tail (λ (h : Going). h.comp ≢ c) x (xs ++ g ∷ []) all)

    go : (c : ℕ) → IsDue u (Step.Leave c) → All (λ (h : Going). h.comp ≢ c) turns → g.comp ≢ c → Was (play t) (state t) step (c - 1) → ⊥
    go c out none other (Was.Before can not_back) = o.whole c (leave_due t c out.number can) none
    go c out none other (Was.Entered entered) = let first : 0 < c = out.number in other (its ∙ (entered ∙ omega (arith, first)))

-- ---- one comes back
pairs_head : (x : Going) (xs : List Going) → AllPairs (λ (a b : Going). a.comp ≢ b.comp) (x ∷ xs) → All (λ (b : Going). x.comp ≢ b.comp) xs
pairs_head x xs apart k d less = apart 0 (suc k) d (omega arith) (omega (arith, less))

pairs_tail : (x : Going) (xs : List Going) → AllPairs (λ (a b : Going). a.comp ≢ b.comp) (x ∷ xs) → AllPairs (λ (a b : Going). a.comp ≢ b.comp) xs
pairs_tail x xs apart i j d less within = apart (suc i) (suc j) d (omega (arith, less)) (omega (arith, within))

-- the others are of other computations
others : (xs : List Going) (n comp : ℕ) (d : Going) → n < length xs → AllPairs (λ (a b : Going). a.comp ≢ b.comp) xs → (slice_index_or xs n d).comp ≡ comp
    → All (λ (g : Going). g.comp ≢ comp) (remove xs n)
others [] n comp d less apart is = absurd (omega (arith, less))
others (x ∷ xs) zero comp d less apart is =
    all_mapped (λ (b : Going). x.comp ≢ b.comp) (λ (g : Going). g.comp ≢ comp) (λ g ne same. ne (is ∙ sym same)) xs (pairs_head x xs apart)
others (x ∷ xs) (suc n) comp d less apart is =
    All-cons (λ (g : Going). g.comp ≢ comp) x (remove xs n) (λ same. pairs_head x xs apart n d (omega (arith, less)) (same ∙ sym is))
    (others xs n comp d (omega (arith, less)) (pairs_tail x xs apart) is)

all_removed : (P : Going → Type 0) (xs : List Going) (n : ℕ) → n < length xs → All P xs → All P (remove xs n)
all_removed P [] n less all = absurd (omega (arith, less))
all_removed P (x ∷ xs) zero less all = All-tail P x xs all
all_removed P (x ∷ xs) (suc n) less all = All-cons P x (remove xs n) (All-head P x xs all) (all_removed P xs n (omega (arith, less)) (All-tail P x xs all))

with_removed : (P : Going → Type 0) (xs : List Going) (n : ℕ) (d : Going) → n < length xs → P (slice_index_or xs n d) → All P (remove xs n) → All P xs
with_removed P [] n d less is all = absurd (omega (arith, less))
with_removed P (x ∷ xs) zero d less is all = All-cons P x xs is all
with_removed P (x ∷ xs) (suc n) d less is all =
    All-cons P x xs (All-head P x (remove xs n) all) (with_removed P xs n d (omega (arith, less)) is (All-tail P x (remove xs n) all))

-- a step by which computation comp comes back
data IsBackOf (comp : ℕ) : Step → Type 0 where
  Leaves : IsBackOf comp (Step.Leave comp)
  Abandons : IsBackOf comp (Step.Abandon comp)

module _ (t : Trace) (turns : List Going) (n comp : ℕ) (d : Going) (run : IsRun t) (less : n < length turns) (is : (slice_index_or turns n d).comp ≡ comp) (o : AreOut t turns) where
  pub was_away : IsAway t (slice_index_or turns n d)
  was_away = o.away n d less

  back : (step : Step) → IsRun (with_step t step) → IsDue t step → ((other : ℕ) → (other ≢ comp → BringsBack other step → ⊥) × (IsEnterOf other step → ⊥)) → BringsBack comp step
      → AreOut (with_step t step) (remove turns n)
  back step later due only its = record {
    away = all_both (IsAway t) (λ (g : Going). g.comp ≢ comp) (IsAway (with_step t step)) (λ g away ne. away-step t step g later away ((only g.comp).0 ne)) (remove turns n)
        (all_removed (IsAway t) turns n less o.away) (others turns n comp d less o.apart is);
    apart = all_pairs_remove (λ (a b : Going). a.comp ≢ b.comp) turns n less o.apart;
    whole = λ c out none. go c out none (left_of t step c run due out);
  }
    where
      go : (c : ℕ) → IsDue (with_step t step) (Step.Leave c) → All (λ (g : Going). g.comp ≢ c) (remove turns n) → Was (play t) (state t) step (c - 1) → ⊥
      go c out none (Was.Before can not_back) =
          let first : 0 < c = out.number in
          let number : suc (c - 1) ≡ c = omega (arith, first) in
          let other : comp ≢ c = λ same. not_back (subst (λ (k : ℕ). BringsBack k step) (same ∙ sym number) its) in
          o.whole c (leave_due t c out.number can) (with_removed (λ (g : Going). g.comp ≢ c) turns n d less (λ same. other (sym is ∙ same)) none)
      go c out none (Was.Entered entered) = (only (suc (c - 1))).1 entered

  pub out-left : IsRun (with_step t (Step.Leave comp)) → IsDue t (Step.Leave comp) → AreOut (with_step t (Step.Leave comp)) (remove turns n)
  out-left later due = back (Step.Leave comp) later due (λ other. ((λ ne same. ne (sym same)), λ e. e)) refl

  pub out-abandoned : IsRun (with_step t (Step.Abandon comp)) → IsDue t (Step.Abandon comp) → AreOut (with_step t (Step.Abandon comp)) (remove turns n)
  out-abandoned later due = back (Step.Abandon comp) later due (λ other. ((λ ne same. ne (sym same)), λ e. e)) refl

-- a handler step that is out may come back
pub away-due : (t : Trace) (g : Going) → IsRun t → IsAway t g → IsDue t (Step.Leave g.comp) × IsDue t (Step.Abandon g.comp)
away-due t g run away =
    let admitted = ((invariant t run).out ((play t).node (g.comp - 1)) g.micro (g.comp - 1) away.out).admitted in
    let can : CanLeave (play t) (state t) (g.comp - 1) = record { slot = g.micro; out = record { admitted = admitted; out = away.out } } in
    (record { number = away.first; enabled = can }, record { number = away.first; enabled = can })

-- ---- what is admitted next changes nothing of it
same_node : (t : Trace) (ext : Ext) (k : ℕ) → k < length t.exts → (play (with_ext t ext)).node k ≡ (play t).node k
same_node t ext k less = ap (λ (x : Ext). x.node.0) (get_or_append_left {A = Ext} t.exts (ext ∷ []) no_ext k less)

pub away-ext : (t : Trace) (ext : Ext) (g : Going) → IsRun t → (state t).count ≤ length t.exts → IsAway t g → IsAway (with_ext t ext) g
away-ext t ext g run most away =
    let k : ℕ = g.comp - 1 in
    let admitted = ((invariant t run).out ((play t).node k) g.micro k away.out).admitted in
    let node = same_node t ext k (omega (arith, admitted, most)) in
    let same = state-ext t ext run in record {
      first = away.first;
      next = record {
        call = away.next.call;
        next = ap (λ (c : Core). next_step (c.comp k)) same ∙ away.next.next;
        is_at = away.next.is_at;
        before = away.next.before ∙ (ap (λ (v : ℕ). seen_in t.script v g.micro ((state t).boxes v g.micro)) (sym node)
            ∙ ap (λ (c : Core). seen_in t.script ((play (with_ext t ext)).node k) g.micro (c.boxes ((play (with_ext t ext)).node k) g.micro)) (sym same));
      };
      out = ap (λ (c : Core). c.out ((play (with_ext t ext)).node k) g.micro) same ∙ (ap (λ (v : ℕ). (state t).out v g.micro) node ∙ away.out);
    }

pub out-ext : (t : Trace) (ext : Ext) (turns : List Going) → IsRun t → (state t).count ≤ length t.exts → AreOut t turns → AreOut (with_ext t ext) turns
out-ext t ext turns run most o = record {
  away = all_mapped (IsAway t) (IsAway (with_ext t ext)) (λ g away. away-ext t ext g run most away) turns o.away;
  apart = o.apart;
  whole = λ comp out none.
      let here : CanLeave (play (with_ext t ext)) (state t) (comp - 1) = subst (λ (c : Core). CanLeave (play (with_ext t ext)) c (comp - 1)) (state-ext t ext run) out.enabled in
      let node = same_node t ext (comp - 1) (omega (arith, here.out.admitted, most)) in
      o.whole comp
      (leave_due t comp out.number
      (record { slot = here.slot; out = record { admitted = here.out.admitted; out = ap (λ (v : ℕ). (state t).out v here.slot) (sym node) ∙ here.out.out } }))
      none;
}

-- ---- nothing is out where all have ended, and a clear changes nothing of it
pub out-none : (t : Trace) (turns : List Going) → IsRun t → AllEnded (state t) → AreOut t turns → turns ≡ []
out-none t [] run all o = refl
out-none t (g ∷ turns) run all o =
    let away : IsAway t g = All-head (IsAway t) g turns o.away in
    absurd (none_goes_on (play t) (state t) (invariant t run) all (Step.Leave g.comp) tt (away-due t g run away).0)

pub out-empty : (t : Trace) (turns : List Going) → IsRun t → AllEnded (state t) → turns ≡ [] → AreOut t turns
out-empty t turns run all none = subst (λ (gs : List Going). AreOut t gs) (sym none) (record {
  away = All-nil (IsAway t);
  apart = λ i j d less within. absurd (omega (arith, within));
  whole = λ comp out none. none_goes_on (play t) (state t) (invariant t run) all (Step.Leave comp) tt out;
})
