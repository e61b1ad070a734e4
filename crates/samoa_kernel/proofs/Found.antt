-- What a call finds in the turnstile, and what it may put back.
use Rattle.std.proofs.Common.{◌≡◌, ℕ, ◌-◌, List, [], ◌∷◌, ◌++◌, length, true, false, Option, Some, None, refl, ap, sym, ◌∙◌, subst, append_assoc, append-nil}
use Rattle.std.proofs.lemmas.Bool.{not-true}
use Rattle.std.proofs.lemmas.List.Elements.{All-append, All-weaker}
use mathlib.Core.List.{IsPrefix}
use Rattle.samoa_model.specs.declared.record.Step.{Step}
use Rattle.samoa_serial.specs.State.{State}
use Rattle.samoa_serial.specs.Alone.{next_step}
use Rattle.samoa_invariant.specs.Picking.{IsOutTo, StaysOut}
use Rattle.samoa_invariant.specs.Settling.{IsEnd, IsRelease, Settles, with_steps}
use Rattle.samoa_invariant.specs.Runs.{IsRun, Trace, play, with_step}
use Rattle.samoa_invariant.proofs.representation.Due.{with-both, with-more}
use Rattle.samoa_invariant.proofs.representation.Standing.{stays_out}
use Rattle.samoa_control.specs.Places.{seen_in}
use Rattle.samoa_control.specs.Turns.{Going, IsAway}
use Rattle.samoa_turnstile.proofs.Prefixes.{prefix_trans}
use Rattle.samoa_turnstile.specs.declared.view.View.{View}
use Rattle.samoa_turnstile.specs.Seats.{fixed_of, hand_of, list_at_take, misses_of, seen_by, view}
use Rattle.samoa_turnstile.specs.Turning.{HandIsOpen, IsGrown, IsHandAfter, list_or}
use Rattle.samoa_kernel.specs.declared.basis.Basis.{Basis}
use Rattle.samoa_kernel.specs.declared.board.Entered.{Entered}
use Rattle.samoa_kernel.specs.Opens.{is_closed, is_open}
use Rattle.samoa_kernel.specs.Bases.{basis_of}
use Rattle.samoa_kernel.specs.Boards.{BoardSeat, Finds, IsInHand, Shows, begun}
use Rattle.samoa_kernel.specs.Answers.{after, hand_after}
use Rattle.samoa_kernel.proofs.Opening.{CloseOne, IsPlain, OpenAt, closed_not, grown_closed, grown_entered, grown_same, hand_closed, hand_entered, hand_same, leave_closes, open_here}
use Rattle.samoa_kernel.proofs.Standing.{one_open}

-- what a take shows: the core that was found, and the seat that holds it
pub record IsTaken (old mid : BoardSeat) (t : Trace) : Type 0 where
  pub fixed : fixed_of old ≡ Some (basis_of t)
  pub grown : IsPrefix (seen_by old) t.journal
  pub hand : HandIsOpen is_open (hand_of old) t.journal
  pub kept : view mid ≡ record (view old) { noted = Some t.journal; missed = misses_of mid }
  pub run : IsRun t

-- the same of the core that comes out of what was taken
pub taken_out : (old mid : BoardSeat) (t u : Trace) → u ≡ t → fixed_of old ≡ Some (basis_of t) → IsPrefix (seen_by old) t.journal
    → HandIsOpen is_open (hand_of old) t.journal → view mid ≡ record (view old) { noted = Some t.journal; missed = misses_of mid } → IsRun u → IsTaken old mid u
taken_out old mid t u is fixed grown hand kept run =
    subst (IsTaken old mid) (sym is) (record { fixed = fixed; grown = grown; hand = hand; kept = kept; run = subst IsRun is run })

pub finds : (old mid : BoardSeat) (t : Trace) → IsTaken old mid t → Finds old t
finds old mid t at = record { basis = at.fixed; grown = at.grown; run = at.run }

-- what a put leaves with the seat: the core that was put back
pub record IsPut (mid new : BoardSeat) (u : Trace) : Type 0 where
  pub fixed : fixed_of new ≡ fixed_of mid
  pub seen : seen_by new ≡ u.journal
  pub hand : IsHandAfter is_open (hand_of mid) (list_at_take mid) u.journal (hand_of new)

pub put_back : (mid new : BoardSeat) (u : Trace) → view new ≡ record (view mid) { seen = u.journal; noted = None; hand = hand_of new } → seen_by new ≡ u.journal
    → IsHandAfter is_open (hand_of mid) (list_at_take mid) u.journal (hand_of new) → IsPut mid new u
put_back mid new u kept seen hand = record { fixed = ap (λ (v : View Basis Step). v.fixed) kept; seen = seen; hand = hand }

hand_kept : (old mid : BoardSeat) (t : Trace) → IsTaken old mid t → hand_of mid ≡ hand_of old
hand_kept old mid t at = ap (λ (v : View Basis Step). v.hand) at.kept

list_kept : (old mid : BoardSeat) (t : Trace) → IsTaken old mid t → list_at_take mid ≡ t.journal
list_kept old mid t at = ap (λ (v : View Basis Step). list_or v.noted) at.kept

fixed_kept : (old mid : BoardSeat) (t : Trace) → IsTaken old mid t → fixed_of mid ≡ fixed_of old
fixed_kept old mid t at = ap (λ (v : View Basis Step). v.fixed) at.kept

-- a core is what is fixed of it and its journal
abbrev with_basis : Basis → List Step → Trace
with_basis b steps = record { script = b.script; cells = b.cells; exts = b.exts; clears = b.clears; journal = steps }

-- what the hand holds, in the core that is found: the turn is out, and its Enter is the open place in the hand
pub record IsHeld (t : Trace) (turn : Going) (place : ℕ) : Type 0 where
  pub away : IsAway t turn
  pub at : OpenAt t.journal place
  pub comp : at.comp ≡ turn.comp

held_now : (before : Trace) (turn : Going) (ys : List Step) → IsRun (with_steps (begun before turn) ys) → IsAway (begun before turn) turn
    → is_open (with_steps (begun before turn) ys).journal (length before.journal) ≡ true → IsHeld (with_steps (begun before turn) ys) turn (length before.journal)
held_now before turn ys run away opened =
    let x : Step = Step.Enter turn.comp turn.micro in
    let split : before.journal ++ x ∷ ys ≡ (before.journal ++ x ∷ []) ++ ys = sym (append_assoc before.journal (x ∷ []) ys) in
    let there : is_open (before.journal ++ x ∷ ys) (length before.journal) ≡ true = subst (λ (l : List Step). is_open l (length before.journal) ≡ true) (sym split) opened in
    let unclosed : is_closed turn.comp ys ≡ false = not-true (is_closed turn.comp ys) (sym (open_here before.journal x ys) ∙ there) in
    let out : IsOutTo (begun before turn) turn.comp turn.micro = record { number = away.first; out = away.out } in
    let s : StaysOut (begun before turn) (with_steps (begun before turn) ys) turn.comp turn.micro =
    stays_out (begun before turn) ys turn.comp turn.micro run out (closed_not turn.comp ys unclosed) in record {
      away = record {
        first = away.first;
        next = record {
          call = away.next.call;
          next = ap next_step s.calls ∙ away.next.next;
          is_at = away.next.is_at;
          before = away.next.before ∙ ap (λ (b : State). seen_in before.script ((play before).node (turn.comp - 1)) turn.micro b) (sym s.box);
        };
        out = s.out;
      };
      at = record { before = before.journal; comp = turn.comp; micro = turn.micro; later = ys; is = split; place = refl; unclosed = unclosed };
      comp = refl;
    }

-- the turn in a seat's hand is the one that is out in the core that is found
pub in_hand : (old mid : BoardSeat) (t : Trace) (turn : Going) → IsTaken old mid t → IsInHand old turn → (place : ℕ) × (hand_of old ≡ Some place) × IsHeld t turn place
in_hand old mid t turn at h = (length h.before.journal, h.hand, subst (λ (u : Trace). IsHeld u turn (length h.before.journal)) same held)
  where
    steps : (begun h.before turn).journal ++ (h.seen.0 ++ at.grown.0) ≡ t.journal
    steps = sym (append_assoc (begun h.before turn).journal h.seen.0 at.grown.0) ∙ (ap (λ (l : List Step). l ++ at.grown.0) h.seen.1 ∙ at.grown.1)

    basis : basis_of h.before ≡ basis_of t
    basis = let both : Some (basis_of h.before) ≡ Some (basis_of t) = sym h.basis ∙ at.fixed in cc both

    same : with_steps (begun h.before turn) (h.seen.0 ++ at.grown.0) ≡ t
    same = λ i. with_basis (basis i) (steps i)

    held : IsHeld (with_steps (begun h.before turn) (h.seen.0 ++ at.grown.0)) turn (length h.before.journal)
    held =
        held_now h.before turn (h.seen.0 ++ at.grown.0) (subst IsRun (sym same) at.run) h.away
        (subst (λ (l : List Step). is_open l (length h.before.journal) ≡ true) (sym steps) (at.hand (length h.before.journal) h.hand))

basis_after : {B : Type 0} (t : Trace) (answer : Entered B) → basis_of (after t answer) ≡ basis_of t
basis_after t (Entered.Work turn) = refl
basis_after t (Entered.Busy out) = refl
basis_after t Entered.AllEnded = refl
basis_after t Entered.Stopped = refl

-- what may be put back, from plain lists to the views of a seat
module _ (old mid : BoardSeat) (t u : Trace) (at : IsTaken old mid t) where
  grown_at : (hand : Option ℕ) → hand_of old ≡ hand → IsGrown is_open hand t.journal u.journal → IsGrown is_open (hand_of mid) (list_at_take mid) u.journal
  grown_at hand is g =
      subst (λ (z : Option ℕ × List Step). IsGrown is_open z.0 z.1 u.journal) (λ i. ((sym is ∙ sym (hand_kept old mid t at)) i, sym (list_kept old mid t at) i)) g

  hand_at : (hand after : Option ℕ) → hand_of old ≡ hand → IsHandAfter is_open (hand_of mid) (list_at_take mid) u.journal after → IsHandAfter is_open hand t.journal u.journal after
  hand_at hand after is h =
      subst (λ (z : Option ℕ × List Step). IsHandAfter is_open z.0 z.1 u.journal after) (λ i. ((hand_kept old mid t at ∙ is) i, list_kept old mid t at i)) h

  -- a Leave or an Abandon
  module _ (turn : Going) (ys : List Step) (h : IsInHand old turn) (is : u ≡ with_steps t ys) (close : CloseOne turn.comp ys) where
    held : (place : ℕ) × (hand_of old ≡ Some place) × IsHeld t turn place
    held = in_hand old mid t turn at h

    closes_held : CloseOne held.2.at.comp ys
    closes_held = subst (λ (c : ℕ). CloseOne c ys) (sym held.2.comp) close

    journal_is : u.journal ≡ t.journal ++ ys
    journal_is = ap (λ (x : Trace). x.journal) is

    pub closed_fixed : fixed_of mid ≡ Some (basis_of u)
    closed_fixed = fixed_kept old mid t at ∙ (at.fixed ∙ ap (λ (x : Trace). Some (basis_of x)) (sym is))

    pub closed_grown : IsGrown is_open (hand_of mid) (list_at_take mid) u.journal
    closed_grown =
        grown_at (Some held.0) held.1
        (subst (IsGrown is_open (Some held.0) t.journal) (sym journal_is)
        (grown_closed t.journal held.0 ys held.2.at closes_held (λ l other e. one_open t at.run l held.0 other held.2.at e)))

    closed_hand : (after : Option ℕ) → IsHandAfter is_open (hand_of mid) (list_at_take mid) u.journal after → after ≡ None
    closed_hand after h2 =
        hand_closed t.journal held.0 ys held.2.at closes_held after
        (subst (λ (l : List Step). IsHandAfter is_open (Some held.0) t.journal l after) journal_is (hand_at (Some held.0) after held.1 h2))

    pub closed_shows : (new : BoardSeat) → IsPut mid new u → IsRun u → Shows new u None
    closed_shows new put run = record { basis = put.fixed ∙ closed_fixed; seen = put.seen; hand = closed_hand (hand_of new) put.hand; run = run }

  -- an answer of `enter`
  module _ {B : Type 0} (empty : hand_of old ≡ None) where
    pub entered_grown : (answer : Entered B) → u ≡ after t answer → IsGrown is_open (hand_of mid) (list_at_take mid) u.journal
    entered_grown (Entered.Work turn) is =
        grown_at None empty (subst (λ (x : Trace). IsGrown is_open None t.journal x.journal) (sym is) (grown_entered t.journal turn.comp turn.micro))
    entered_grown (Entered.Busy out) is = grown_at None empty (subst (λ (x : Trace). IsGrown is_open None t.journal x.journal) (sym is) (grown_same t.journal))
    entered_grown Entered.AllEnded is = grown_at None empty (subst (λ (x : Trace). IsGrown is_open None t.journal x.journal) (sym is) (grown_same t.journal))
    entered_grown Entered.Stopped is = grown_at None empty (subst (λ (x : Trace). IsGrown is_open None t.journal x.journal) (sym is) (grown_same t.journal))

    entered_hand : (answer : Entered B) → u ≡ after t answer → (hand : Option ℕ) → IsHandAfter is_open (hand_of mid) (list_at_take mid) u.journal hand → hand ≡ hand_after t answer
    entered_hand (Entered.Work turn) is hand h =
        hand_entered t.journal turn.comp turn.micro hand (subst (λ (x : Trace). IsHandAfter is_open None t.journal x.journal hand) is (hand_at None hand empty h))
    entered_hand (Entered.Busy out) is hand h = hand_same t.journal hand (subst (λ (x : Trace). IsHandAfter is_open None t.journal x.journal hand) is (hand_at None hand empty h))
    entered_hand Entered.AllEnded is hand h = hand_same t.journal hand (subst (λ (x : Trace). IsHandAfter is_open None t.journal x.journal hand) is (hand_at None hand empty h))
    entered_hand Entered.Stopped is hand h = hand_same t.journal hand (subst (λ (x : Trace). IsHandAfter is_open None t.journal x.journal hand) is (hand_at None hand empty h))

    pub entered_shows : (answer : Entered B) → u ≡ after t answer → (new : BoardSeat) → IsPut mid new u → IsRun u → Shows new (after t answer) (hand_after t answer)
    entered_shows answer is new put run = record {
      basis = put.fixed ∙ (fixed_kept old mid t at ∙ (at.fixed ∙ ap Some (sym (basis_after t answer))));
      seen = put.seen ∙ ap (λ (x : Trace). x.journal) is;
      hand = entered_hand answer is (hand_of new) put.hand;
      run = subst IsRun is run;
    }

-- an answer only adds to the journal
pub more_after : {B : Type 0} (t : Trace) (answer : Entered B) → IsPrefix t.journal (after t answer).journal
more_after t (Entered.Work turn) = (Step.Enter turn.comp turn.micro ∷ [], refl)
more_after t (Entered.Busy out) = ([], append-nil t.journal)
more_after t Entered.AllEnded = ([], append-nil t.journal)
more_after t Entered.Stopped = ([], append-nil t.journal)

-- what the seat had seen stands first
pub seen_since : (old new : BoardSeat) (t u : Trace) (hand : Option ℕ) → Finds old t → Shows new u hand → IsPrefix t.journal u.journal → IsPrefix (seen_by old) (seen_by new)
seen_since old new t u hand f s more = subst (IsPrefix (seen_by old)) (sym s.seen) (prefix_trans (seen_by old) t.journal u.journal f.grown more)

release_plain : (x : Step) → IsRelease x → IsPlain x
release_plain (Step.Release comp micro) is = tt
release_plain x is = absurd is

end_plain : (x : Step) → IsEnd x → IsPlain x
end_plain (Step.End comp) is = tt
end_plain x is = absurd is

-- a Leave, and what is released and ends then
pub record IsLeft (t u : Trace) (c : ℕ) : Type 0 where
  pub steps : List Step
  pub made : u ≡ with_steps t steps
  pub close : CloseOne c steps

pub left_steps : (t u : Trace) (c : ℕ) → Settles (with_step t (Step.Leave c)) u → IsLeft t u c
left_steps t u c s =
    let left : Trace = with_step t (Step.Leave c) in
    let rest : List Step = s.releases.steps ++ s.ends.steps in record {
      steps = Step.Leave c ∷ rest;
      made =
          s.ends.made
          ∙ (ap (λ (x : Trace). with_steps x s.ends.steps) s.releases.made
          ∙ (sym (with-both left s.releases.steps s.ends.steps) ∙ sym (with-more t (Step.Leave c) rest)));
      close = leave_closes c rest (All-append IsPlain s.releases.steps s.ends.steps
          (All-weaker IsRelease IsPlain release_plain s.releases.steps s.releases.releases) (All-weaker IsEnd IsPlain end_plain s.ends.steps s.ends.ends));
    }
