-- Releases and ends, as steps that are due: which of them stay due, which become due, and what they leave as it was.
use Rattle.std.proofs.Common.{arith, ◌≡◌, ◌≢◌, ℕ, suc, ◌-◌, ◌≤◌, ◌<◌, ◌⊎◌, inl, inr, refl, sym, ap, subst, ◌∙◌, List, [], ◌∷◌, Bool, true, false, Option, Some, None}
use Rattle.std.specs.List.{All}
use Rattle.std.proofs.lemmas.List.Elements.{All-head, All-tail}
use Rattle.samoa_model.specs.declared.record.Step.{Step}
use Rattle.samoa_model.specs.declared.handler.Moment.{Moment}
use Rattle.samoa_serial.specs.declared.call.Call.{Call}
use Rattle.samoa_serial.specs.Alone.{next_step}
use Rattle.samoa_invariant.specs.Play.{Play, version}
use Rattle.samoa_invariant.specs.Inv.{Invariant, IsDone, Owns}
use Rattle.samoa_invariant.specs.State.{CanEnd, CanRelease, Core, HasTurn, IsSettled, abandon, abandon_next, enter, finish, release}
use Rattle.samoa_invariant.specs.Runs.{GoesOn, IsDue, IsRun, Trace, after_step, play, state, with_step}
use Rattle.samoa_invariant.specs.Settling.{AreDue, EndsAll, EndsFirst, IsEnd, IsRelease, IsUnmoved, LeavesTheRest, ReleasesAll, ReleasesFirst, Settles, with_steps}
use Rattle.samoa_invariant.proofs.representation.Due.{after-due, due-after, run-with_steps, same-steps, with-more, with-none}
use Rattle.samoa_invariant.proofs.preservation.Slots.{put-else, put-here, put_at-else, put_at-here, slot_or_not, turn_declares, turn_owns}
use Rattle.samoa_invariant.proofs.representation.Traces.{fewer, invariant, is_run-with_step, state-step}
use Rattle.std.proofs.lemmas.Bool.{cases_eq}
use Rattle.samoa_invariant.proofs.preservation.Versions.{in_order, owns_single, place_of, version-mono}

-- of one slot one computation has its turn
pub turns_same : (P : Play) (core : Core) (j q k p : ℕ) → Invariant P core → P.node j ≡ P.node k → q ≡ p → HasTurn P core j q → HasTurn P core k p → j ≡ k
turns_same P core j q k p i e g a b =
    let owns : Owns P (core.local (P.node j) q) j (P.node j) q = turn_owns P core j q i a in
    let here : Owns P (core.local (P.node k) p) j (P.node k) p =
    subst (λ (r : ℕ). Owns P (core.local (P.node k) r) j (P.node k) r) g (subst (λ (v : ℕ). Owns P (core.local v q) j v q) e owns) in
    owns_single P (core.local (P.node k) p) j k (P.node k) p here (turn_owns P core k p i b)

-- a release changes the turn of no other slot
turn_elsewhere : (P : Play) (core : Core) (k p j q : ℕ) → (P.node j ≢ P.node k) ⊎ (q ≢ p) → HasTurn P core j q → HasTurn P (release P core k p) j q
turn_elsewhere P core k p j q apart turn =
    let local : (release P core k p).local (P.node j) q ≡ core.local (P.node j) q = put_at-else core.local (P.node k) p (P.node j) q (core.private k (P.node k) p) apart in
    let from = turn.from in
    let below = turn.below in
    record { admitted = turn.admitted; turn = record { from = omega arith; below = omega arith } }

-- a release stays enabled while another is made
pub release_stays : (P : Play) (core : Core) (k p j q : ℕ) → Invariant P core → CanRelease P core k p → CanRelease P core j q → (j ≢ k) ⊎ (q ≢ p) → CanRelease P (release P core k p) j q
release_stays P core k p j q i can other apart = go (slot_or_not (P.node j) (P.node k) q p)
  where
    both : P.node j ≡ P.node k → q ≡ p → (j ≢ k) ⊎ (q ≢ p) → ⊥
    both e g (inl ne) = ne (turns_same P core j q k p i e g other.turn can.turn)
    both e g (inr ne) = ne g

    go : ((P.node j ≡ P.node k) × (q ≡ p)) ⊎ ((P.node j ≢ P.node k) ⊎ (q ≢ p)) → CanRelease P (release P core k p) j q
    go (inl (e, g)) = absurd (both e g apart)
    go (inr elsewhere) = record { turn = turn_elsewhere P core k p j q elsewhere other.turn; quiet = other.quiet }

-- a release enables another only of a later computation, at the same slot
pub release_opens : (P : Play) (core : Core) (k p j q : ℕ) → Invariant P core → CanRelease P core k p → CanRelease P (release P core k p) j q
    → ((k < j) × (P.node j ≡ P.node k) × (q ≡ p)) ⊎ CanRelease P core j q
release_opens P core k p j q i can new = go (slot_or_not (P.node j) (P.node k) q p)
  where
    later : P.node j ≡ P.node k → q ≡ p → (k < j) ⊎ ((k ≡ j) ⊎ (j < k)) → k < j
    later e g (inl lt) = lt
    later e g (inr le) =
        let most : j ≤ k = not_more le in
        let here : (release P core k p).local (P.node j) q ≡ core.private k (P.node k) p = put_at-here core.local (P.node k) p (P.node j) q (core.private k (P.node k) p) e g in
        let below = new.turn.below in
        let mine = i.booked.private k (P.node k) p can.turn.admitted in
        let theirs = i.booked.private j (P.node j) q new.turn.admitted in
        let moved : version P (suc j) (P.node j) q ≡ version P (suc j) (P.node k) p = ap (λ (v : ℕ). version P (suc j) v q) e ∙ ap (λ (r : ℕ). version P (suc j) (P.node k) r) g in
        let order = version-mono P (suc j) (suc k) (P.node k) p (omega arith) in
        absurd (omega arith)
      where
        not_more : (k ≡ j) ⊎ (j < k) → j ≤ k
        not_more (inl same) = omega arith
        not_more (inr lt) = omega arith

    go : ((P.node j ≡ P.node k) × (q ≡ p)) ⊎ ((P.node j ≢ P.node k) ⊎ (q ≢ p)) → ((k < j) × (P.node j ≡ P.node k) × (q ≡ p)) ⊎ CanRelease P core j q
    go (inl (e, g)) = inl (later e g (in_order k j), e, g)
    go (inr apart) =
        let local : (release P core k p).local (P.node j) q ≡ core.local (P.node j) q = put_at-else core.local (P.node k) p (P.node j) q (core.private k (P.node k) p) apart in
        let from = new.turn.from in
        let below = new.turn.below in
        inr (record { turn = record { admitted = new.turn.admitted; turn = record { from = omega arith; below = omega arith } }; quiet = new.quiet })

-- an end enables no release and no other end
pub end_releases : (P : Play) (core : Core) (k j q : ℕ) → CanRelease P (finish core k) j q → CanRelease P core j q
end_releases P core k j q can = record {
  turn = record { admitted = can.turn.admitted; turn = can.turn.turn };
  quiet = can.quiet;
}

pub end_ends : (P : Play) (core : Core) (k j : ℕ) → CanEnd P (finish core k) j → CanEnd P core j × (j ≢ k)
end_ends P core k j can = go (cases_eq j k)
  where
    go : (j ≡ k) ⊎ (j ≢ k) → CanEnd P core j × (j ≢ k)
    go (inl e) = absurd (let no_more : true ≡ false = sym (put-here {A = Bool} core.ended k j true e) ∙ can.not_ended in cc)
    go (inr ne) = (record { admitted = can.admitted; not_ended = sym (put-else {A = Bool} core.ended k j true ne) ∙ can.not_ended; idle = can.idle; past = can.past }, ne)

-- and an end stays enabled while another is made
pub end_stays : (P : Play) (core : Core) (k j : ℕ) → CanEnd P core j → j ≢ k → CanEnd P (finish core k) j
end_stays P core k j can ne = record {
  admitted = can.admitted;
  not_ended = put-else core.ended k j true ne ∙ can.not_ended;
  idle = can.idle;
  past = can.past;
}

-- what has ended has no release and no end
pub ended_releases : (P : Play) (core : Core) (k p : ℕ) → Invariant P core → core.ended k ≡ true → CanRelease P core k p → ⊥
ended_releases P core k p i ended can =
    let turn : HasTurn P core k p = can.turn in
    let done : IsDone P core k = i.ended k turn.admitted ended in
    let past = done.past p (turn_declares P core k p i turn) in
    let mine = i.booked.private k (P.node k) p turn.admitted in
    let below = turn.below in
    omega arith

-- The same of traces. Computations are numbered from 1 there.
places : (c d p q : ℕ) → 0 < c → 0 < d → ((d < c) ⊎ ((d ≡ c) × (q < p))) → (d - 1 ≢ c - 1) ⊎ (q ≢ p)
places c d p q first second (inl lt) = inl (λ (e : d - 1 ≡ c - 1). omega arith)
places c d p q first second (inr (e, lt)) = inr (λ (g : q ≡ p). omega arith)

pub release-stays : (t : Trace) (x y : Step) → IsRun t → IsDue t x → IsDue t y → ReleasesFirst x y → IsDue (with_step t y) x
release-stays t (Step.Release d q) (Step.Release c p) run due other first =
    after-due t (Step.Release c p) (Step.Release d q) run
    (record { number = due.number; enabled = release_stays (play t) (state t) (c - 1) p (d - 1) q (invariant t run) other.enabled due.enabled (places c d p q other.number due.number first) })
release-stays t x y run due other first = absurd first

pub end-stays : (t : Trace) (x y : Step) → IsRun t → IsDue t x → IsDue t y → EndsFirst x y → IsDue (with_step t y) x
end-stays t (Step.End d) (Step.End c) run due other first =
    let a : 0 < d = due.number in
    let b : 0 < c = other.number in
    after-due t (Step.End c) (Step.End d) run
    (record { number = due.number; enabled = end_stays (play t) (state t) (c - 1) (d - 1) due.enabled (λ (e : d - 1 ≡ c - 1). let lt : d < c = first in omega arith) })
end-stays t x y run due other first = absurd first

releases-follow : (x y z : Step) → ReleasesFirst x y → ReleasesFirst y z → ReleasesFirst x z
releases-follow (Step.Release a p) (Step.Release b q) (Step.Release c r) first second = go first second
  where
    go : (a < b) ⊎ ((a ≡ b) × (p < q)) → (b < c) ⊎ ((b ≡ c) × (q < r)) → (a < c) ⊎ ((a ≡ c) × (p < r))
    go (inl lt) (inl less) = inl (omega arith)
    go (inl lt) (inr (e, less)) = inl (omega arith)
    go (inr (e, lt)) (inl less) = inl (omega arith)
    go (inr (e, lt)) (inr (g, less)) = inr (e ∙ g, omega arith)
releases-follow (Step.Release a p) (Step.Release b q) z first second = absurd second
releases-follow x y z first second = absurd first

ends-follow : (x y z : Step) → EndsFirst x y → EndsFirst y z → EndsFirst x z
ends-follow (Step.End a) (Step.End b) (Step.End c) first second = let lt : a < b = first in let less : b < c = second in omega arith
ends-follow (Step.End a) (Step.End b) z first second = absurd second
ends-follow x y z first second = absurd first

releases-order : (x y : Step) → IsRelease x → IsRelease y → ReleasesFirst x y ⊎ ((x ≡ y) ⊎ ReleasesFirst y x)
releases-order (Step.Release a p) (Step.Release b q) first second = go (in_order a b) (in_order p q)
  where
    go : (a < b) ⊎ ((a ≡ b) ⊎ (b < a)) → (p < q) ⊎ ((p ≡ q) ⊎ (q < p))
        → ((a < b) ⊎ ((a ≡ b) × (p < q))) ⊎ ((Step.Release a p ≡ Step.Release b q) ⊎ ((b < a) ⊎ ((b ≡ a) × (q < p))))
    go (inl lt) o = inl (inl lt)
    go (inr (inr lt)) o = inr (inr (inl lt))
    go (inr (inl e)) (inl lt) = inl (inr (e, lt))
    go (inr (inl e)) (inr (inr lt)) = inr (inr (inr (sym e, lt)))
    go (inr (inl e)) (inr (inl g)) = inr (inl (ap (λ (c : ℕ). Step.Release c p) e ∙ ap (λ (r : ℕ). Step.Release b r) g))
releases-order (Step.Release a p) y first second = absurd second
releases-order x y first second = absurd first

ends-order : (x y : Step) → IsEnd x → IsEnd y → EndsFirst x y ⊎ ((x ≡ y) ⊎ EndsFirst y x)
ends-order (Step.End a) (Step.End b) first second = go (in_order a b)
  where
    go : (a < b) ⊎ ((a ≡ b) ⊎ (b < a)) → (a < b) ⊎ ((Step.End a ≡ Step.End b) ⊎ (b < a))
    go (inl lt) = inl lt
    go (inr (inl e)) = inr (inl (ap (λ (c : ℕ). Step.End c) e))
    go (inr (inr lt)) = inr (inr lt)
ends-order (Step.End a) y first second = absurd second
ends-order x y first second = absurd first

no_release : (u : Trace) → ((comp micro : ℕ) → IsDue u (Step.Release comp micro) → ⊥) → (x : Step) → IsRelease x → IsDue u x → ⊥
no_release u none (Step.Release comp micro) kind due = none comp micro due
no_release u none x kind due = absurd kind

no_end : (u : Trace) → ((comp : ℕ) → IsDue u (Step.End comp) → ⊥) → (x : Step) → IsEnd x → IsDue u x → ⊥
no_end u none (Step.End comp) kind due = none comp due
no_end u none x kind due = absurd kind

-- what is released, and what is ended, is determined
pub releases-same : (t u v : Trace) → IsRun t → ReleasesAll t u → ReleasesAll t v → u ≡ v
releases-same t u v run a b =
    a.made
    ∙ (ap (λ (xs : List Step). with_steps t xs)
    (same-steps IsRelease ReleasesFirst release-stays releases-follow releases-order t a.steps b.steps run a.due b.due a.releases b.releases a.rising b.rising
    (no_release (with_steps t a.steps) (λ c p due. a.none c p (subst (λ (w : Trace). IsDue w (Step.Release c p)) (sym a.made) due)))
    (no_release (with_steps t b.steps) (λ c p due. b.none c p (subst (λ (w : Trace). IsDue w (Step.Release c p)) (sym b.made) due))))
    ∙ sym b.made)

pub ends-same : (t u v : Trace) → IsRun t → EndsAll t u → EndsAll t v → u ≡ v
ends-same t u v run a b =
    a.made
    ∙ (ap (λ (xs : List Step). with_steps t xs)
    (same-steps IsEnd EndsFirst end-stays ends-follow ends-order t a.steps b.steps run a.due b.due a.ends b.ends a.rising b.rising
    (no_end (with_steps t a.steps) (λ c due. a.none c (subst (λ (w : Trace). IsDue w (Step.End c)) (sym a.made) due)))
    (no_end (with_steps t b.steps) (λ c due. b.none c (subst (λ (w : Trace). IsDue w (Step.End c)) (sym b.made) due))))
    ∙ sym b.made)

-- a run with all its releases made is a run
released-run : (t u : Trace) → IsRun t → ReleasesAll t u → IsRun u
released-run t u run a = subst (λ (w : Trace). IsRun w) (sym a.made) (run-with_steps t a.steps run a.due)

pub settles-same : (t u v : Trace) → IsRun t → Settles t u → Settles t v → u ≡ v
settles-same t u v run a b =
    let between : b.between ≡ a.between = releases-same t b.between a.between run b.releases a.releases in
    ends-same a.between u v (released-run t a.between run a.releases) a.ends (subst (λ (w : Trace). EndsAll w v) between b.ends)

-- ends let no release become due
ends-open_none : (t : Trace) (xs : List Step) (c p : ℕ) → IsRun t → AreDue t xs → All IsEnd xs → IsDue (with_steps t xs) (Step.Release c p) → IsDue t (Step.Release c p)
ends-open_none t [] c p run due ends new = subst (λ (u : Trace). IsDue u (Step.Release c p)) (with-none t) new
ends-open_none t (x ∷ xs) c p run due ends new =
    one x due.0 (All-head IsEnd x xs ends)
    (ends-open_none (with_step t x) xs c p (is_run-with_step t x run due.0) due.1 (All-tail IsEnd x xs ends) (subst (λ (u : Trace). IsDue u (Step.Release c p)) (with-more t x xs) new))
  where
    one : (y : Step) → IsDue t y → IsEnd y → IsDue (with_step t y) (Step.Release c p) → IsDue t (Step.Release c p)
    one (Step.End d) can end later =
        let there = due-after t (Step.End d) (Step.Release c p) run later in
        record { number = there.number; enabled = end_releases (play t) (state t) (d - 1) (c - 1) p there.enabled }
    one y can end later = absurd end

pub settles-settled : (t u : Trace) → IsRun t → Settles t u → IsSettled (play u) (state u)
settles-settled t u run s = record {
  released = λ k p can. released (suc k) p (record { number = omega arith; enabled = subst (λ (j : ℕ). CanRelease (play u) (state u) j p) (place_of k) can });
  ended = λ k can. s.ends.none (suc k) (record { number = omega arith; enabled = subst (λ (j : ℕ). CanEnd (play u) (state u) j) (place_of k) can });
}
  where
    released : (c p : ℕ) → IsDue u (Step.Release c p) → ⊥
    released c p due =
        s.releases.none c p
        (ends-open_none s.between s.ends.steps c p (released-run t s.between run s.releases) s.ends.due s.ends.ends
        (subst (λ (w : Trace). IsDue w (Step.Release c p)) s.ends.made due))

unmoved_here : (core : Core) → IsUnmoved core core
unmoved_here core = record {
  count = refl;
  present = refl;
  global = refl;
  boxes = refl;
  out = refl;
  cells = refl;
  stopped = refl;
  table = refl;
  from = refl;
  private = refl;
  comp = refl;
  made = refl;
}

-- what they leave as it was, and that no more is left to do
leaves-none : (t : Trace) → IsRun t → LeavesTheRest t t
leaves-none t run = record {
  run = run;
  unmoved = unmoved_here (state t);
  not_more = omega arith;
}

pub leaves-then : (t u v : Trace) → LeavesTheRest t u → LeavesTheRest u v → LeavesTheRest t v
leaves-then t u v a b = record {
  run = b.run;
  unmoved = record {
    count = b.unmoved.count ∙ a.unmoved.count;
    present = b.unmoved.present ∙ a.unmoved.present;
    global = b.unmoved.global ∙ a.unmoved.global;
    boxes = b.unmoved.boxes ∙ a.unmoved.boxes;
    out = b.unmoved.out ∙ a.unmoved.out;
    cells = b.unmoved.cells ∙ a.unmoved.cells;
    stopped = b.unmoved.stopped ∙ a.unmoved.stopped;
    table = b.unmoved.table ∙ a.unmoved.table;
    from = b.unmoved.from ∙ a.unmoved.from;
    private = b.unmoved.private ∙ a.unmoved.private;
    comp = b.unmoved.comp ∙ a.unmoved.comp;
    made = b.unmoved.made ∙ a.unmoved.made;
  };
  not_more = let x = a.not_more in let y = b.not_more in omega arith;
}

leaves-step : (t : Trace) (x : Step) → IsRun t → GoesOn x → IsDue t x → IsUnmoved (state t) (after_step (play t) (state t) x) → LeavesTheRest t (with_step t x)
leaves-step t x run goes due m = record {
  run = is_run-with_step t x run due;
  unmoved = subst (λ (c : Core). IsUnmoved (state t) c) (sym (state-step t x run)) m;
  not_more = let lt = fewer t x run goes due in omega arith;
}

pub release-leaves : (t : Trace) (x : Step) → IsRun t → IsRelease x → IsDue t x → LeavesTheRest t (with_step t x)
release-leaves t (Step.Release c p) run kind due =
    leaves-step t (Step.Release c p) run tt due (record {
      count = refl;
      present = refl;
      global = refl;
      boxes = refl;
      out = refl;
      cells = refl;
      stopped = refl;
      table = refl;
      from = refl;
      private = refl;
      comp = refl;
      made = refl;
    })
release-leaves t x run kind due = absurd kind

pub end-leaves : (t : Trace) (x : Step) → IsRun t → IsEnd x → IsDue t x → LeavesTheRest t (with_step t x)
end-leaves t (Step.End c) run kind due =
    leaves-step t (Step.End c) run tt due (record {
      count = refl;
      present = refl;
      global = refl;
      boxes = refl;
      out = refl;
      cells = refl;
      stopped = refl;
      table = refl;
      from = refl;
      private = refl;
      comp = refl;
      made = refl;
    })
end-leaves t x run kind due = absurd kind

steps-leave : (Kind : Step → Type 0) → ((t : Trace) (x : Step) → IsRun t → Kind x → IsDue t x → LeavesTheRest t (with_step t x))
    → (t : Trace) (xs : List Step) → IsRun t → AreDue t xs → All Kind xs → LeavesTheRest t (with_steps t xs)
steps-leave Kind one t [] run due kinds = subst (λ (u : Trace). LeavesTheRest t u) (sym (with-none t)) (leaves-none t run)
steps-leave Kind one t (x ∷ xs) run due kinds =
    subst (λ (u : Trace). LeavesTheRest t u) (sym (with-more t x xs))
    (leaves-then t (with_step t x) (with_steps (with_step t x) xs) (one t x run (All-head Kind x xs kinds) due.0)
    (steps-leave Kind one (with_step t x) xs (is_run-with_step t x run due.0) due.1 (All-tail Kind x xs kinds)))

pub releases-leave : (t u : Trace) → IsRun t → ReleasesAll t u → LeavesTheRest t u
releases-leave t u run a = subst (λ (w : Trace). LeavesTheRest t w) (sym a.made) (steps-leave IsRelease release-leaves t a.steps run a.due a.releases)

pub ends-leave : (t u : Trace) → IsRun t → EndsAll t u → LeavesTheRest t u
ends-leave t u run a = subst (λ (w : Trace). LeavesTheRest t w) (sym a.made) (steps-leave IsEnd end-leaves t a.steps run a.due a.ends)

pub settles-leave : (t u : Trace) → IsRun t → Settles t u → LeavesTheRest t u
settles-leave t u run s =
    let first : LeavesTheRest t s.between = releases-leave t s.between run s.releases in
    leaves-then t s.between u first (ends-leave s.between u first.run s.ends)

-- an Enter and an Abandon keep a settled core settled
enter_settled : (P : Play) (core : Core) (k p : ℕ) → IsSettled P core → IsSettled P (enter P core k p)
enter_settled P core k p s = record {
  released = λ j q can. s.released j q (record {
    turn = record { admitted = can.turn.admitted; turn = can.turn.turn };
    quiet = can.quiet;
  });
  ended = λ j can. s.ended j (record { admitted = can.admitted; not_ended = can.not_ended; idle = can.idle; past = can.past });
}

abandon_settled : (P : Play) (core : Core) (k p : ℕ) → IsSettled P core → IsSettled P (abandon P core k p)
abandon_settled P core k p s = record {
  released = λ j q can. s.released j q (record {
    turn = record { admitted = can.turn.admitted; turn = can.turn.turn };
    quiet = can.quiet;
  });
  ended = λ j can. s.ended j (record { admitted = can.admitted; not_ended = can.not_ended; idle = can.idle; past = can.past });
}

abandon_next_settled : (P : Play) (core : Core) (k : ℕ) (o : Option (Call × Moment)) → IsSettled P core → IsSettled P (abandon_next P core k o)
abandon_next_settled P core k None s = record {
  released = λ j q can. s.released j q (record {
    turn = record { admitted = can.turn.admitted; turn = can.turn.turn };
    quiet = can.quiet;
  });
  ended = λ j can. s.ended j (record { admitted = can.admitted; not_ended = can.not_ended; idle = can.idle; past = can.past });
}
abandon_next_settled P core k (Some next) s = abandon_settled P core k next.0.handler.micro.0 s

pub enter-settled : (t : Trace) (c p : ℕ) → IsRun t → IsSettled (play t) (state t) → IsSettled (play t) (state (with_step t (Step.Enter c p)))
enter-settled t c p run s =
    subst (λ (core : Core). IsSettled (play t) core) (sym (state-step t (Step.Enter c p) run)) (enter_settled (play t) (state t) (c - 1) p s)

pub abandon-settled : (t : Trace) (c : ℕ) → IsRun t → IsSettled (play t) (state t) → IsSettled (play t) (state (with_step t (Step.Abandon c)))
abandon-settled t c run s =
    subst (λ (core : Core). IsSettled (play t) core) (sym (state-step t (Step.Abandon c) run))
    (abandon_next_settled (play t) (state t) (c - 1) (next_step ((state t).comp (c - 1))) s)
