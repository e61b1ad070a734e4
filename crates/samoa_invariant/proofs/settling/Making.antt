-- How the lists of due releases and of due ends are made, by a scan of all computations or by an index that takes the
-- least each time: a computation at a time, and of a computation a microprotocol at a time.
use Rattle.std.proofs.Common.{arith, ◌≡◌, ◌≢◌, ℕ, suc, ◌-◌, ◌≤◌, ◌<◌, ◌⊎◌, inl, inr, refl, sym, ap, subst, ◌∙◌, List, [], ◌∷◌, ◌++◌, true, get_or}
use Rattle.std.specs.List.{All}
use Rattle.std.proofs.lemmas.List.Elements.{All-append, All-get_or, All-head, All-nil, All-push, All-tail, All-weaker}
use Rattle.std.proofs.lemmas.Bool.{cases_eq, cases_lt}
use Rattle.std.proofs.lemmas.List.Quantifiers.{all_pairs_push}
use Rattle.samoa_model.specs.declared.record.Step.{Step}
use Rattle.samoa_invariant.specs.Play.{Play}
use Rattle.samoa_invariant.specs.State.{CanRelease, Core, release}
use Rattle.samoa_invariant.specs.Runs.{IsDue, IsRun, Trace, play, state, with_step}
use Rattle.samoa_invariant.specs.Settling.{AreDue, EndsAll, EndsBefore, EndsFirst, IsEnd, IsEndBefore, IsRelease, IsReleaseBefore, IsReleaseOf, ReleasesAll, ReleasesBefore, ReleasesFirst, ReleasesOf, with_steps}
use Rattle.samoa_invariant.proofs.representation.Due.{due-after, due-append, pairs-append, run-with_steps, with-both, with-more, with-none}
use Rattle.samoa_invariant.proofs.settling.Releasing.{end_ends, ended_releases, release_opens}
use Rattle.samoa_invariant.proofs.preservation.Slots.{put_at-here}
use Rattle.samoa_invariant.proofs.representation.Traces.{invariant, is_run-with_step}

-- a release lets only a later computation's become due, at the same microprotocol of the same node
pub release-opens : (t : Trace) (c p d q : ℕ) → IsRun t → IsDue t (Step.Release c p) → IsDue (with_step t (Step.Release c p)) (Step.Release d q)
    → ((c < d) × ((play t).node (d - 1) ≡ (play t).node (c - 1)) × (q ≡ p)) ⊎ IsDue t (Step.Release d q)
release-opens t c p d q run due new =
    let there = due-after t (Step.Release c p) (Step.Release d q) run new in
    go there.number (release_opens (play t) (state t) (c - 1) p (d - 1) q (invariant t run) due.enabled there.enabled)
  where
    go : 0 < d → ((c - 1 < d - 1) × ((play t).node (d - 1) ≡ (play t).node (c - 1)) × (q ≡ p)) ⊎ CanRelease (play t) (state t) (d - 1) q
        → ((c < d) × ((play t).node (d - 1) ≡ (play t).node (c - 1)) × (q ≡ p)) ⊎ IsDue t (Step.Release d q)
    go first (inl opened) = let lt : c - 1 < d - 1 = opened.0 in inl (omega arith, opened.1, opened.2)
    go first (inr can) = inr (record { number = first; enabled = can })

-- and isn't due a second time
pub release-spent : (t : Trace) (c p : ℕ) → IsRun t → IsDue t (Step.Release c p) → IsDue (with_step t (Step.Release c p)) (Step.Release c p) → ⊥
release-spent t c p run due new =
    let there = due-after t (Step.Release c p) (Step.Release c p) run new in
    let P : Play = play t in
    let core : Core = state t in
    let here : (release P core (c - 1) p).local (P.node (c - 1)) p ≡ core.private (c - 1) (P.node (c - 1)) p =
    put_at-here core.local (P.node (c - 1)) p (P.node (c - 1)) p (core.private (c - 1) (P.node (c - 1)) p) refl refl in
    let below = there.enabled.turn.below in
    omega arith

-- an end lets no other become due, and isn't due a second time
pub end-opens : (t : Trace) (c d : ℕ) → IsRun t → IsDue t (Step.End c) → IsDue (with_step t (Step.End c)) (Step.End d) → IsDue t (Step.End d) × (d ≢ c)
end-opens t c d run due new =
    let there = due-after t (Step.End c) (Step.End d) run new in
    let both = end_ends (play t) (state t) (c - 1) (d - 1) there.enabled in
    (record { number = there.number; enabled = both.0 }, (λ (e : d ≡ c). both.1 (ap (λ (x : ℕ). x - 1) e)))

-- what isn't admitted, or has ended, has no release due
pub due-admitted : (t : Trace) (c p : ℕ) → IsDue t (Step.Release c p) → (0 < c) × (c ≤ (state t).count)
due-admitted t c p due = let number : 0 < c = due.number in let lt = due.enabled.turn.admitted in (number, omega arith)

pub end-admitted : (t : Trace) (c : ℕ) → IsDue t (Step.End c) → (0 < c) × (c ≤ (state t).count)
end-admitted t c due = let number : 0 < c = due.number in let lt = due.enabled.admitted in (number, omega arith)

pub due-open : (t : Trace) (c p : ℕ) → IsRun t → IsDue t (Step.Release c p) → (state t).ended (c - 1) ≢ true
due-open t c p run due ended = ended_releases (play t) (state t) (c - 1) p (invariant t run) ended due.enabled

-- one more step at the end of a list
made-last : (t u : Trace) (xs : List Step) (x : Step) → u ≡ with_steps t xs → with_step u x ≡ with_steps t (xs ++ x ∷ [])
made-last t u xs x e = ap (λ (w : Trace). with_step w x) e ∙ sym (with-both t xs (x ∷ []))

due-last : (t u : Trace) (xs : List Step) (x : Step) → u ≡ with_steps t xs → AreDue t xs → IsDue u x → AreDue t (xs ++ x ∷ [])
due-last t u xs x e due can = due-append t xs (x ∷ []) due (subst (λ (w : Trace). IsDue w x) e can, tt)

run-after : (t u : Trace) (xs : List Step) → u ≡ with_steps t xs → IsRun t → AreDue t xs → IsRun u
run-after t u xs e run due = subst (λ (w : Trace). IsRun w) (sym e) (run-with_steps t xs run due)

-- the releases of one computation, by rising microprotocol
pub releases_of-none : (t : Trace) (c : ℕ) → ReleasesOf t t c 0
releases_of-none t c = record {
  steps = [];
  made = sym (with-none t);
  due = tt;
  releases = All-nil (IsReleaseOf c 0);
  rising = λ i j d less lt. absurd (omega arith);
  none = λ p lt. absurd (omega arith);
}

pub releases_of-run : (t u : Trace) (c m : ℕ) → IsRun t → ReleasesOf t u c m → IsRun u
releases_of-run t u c m run r = run-after t u r.steps r.made run r.due

of-more : (c m n : ℕ) → m ≤ n → (x : Step) → IsReleaseOf c m x → IsReleaseOf c n x
of-more c m n le (Step.Release d p) is = let lt : p < m = is.1 in (is.0, omega arith)
of-more c m n le x is = absurd is

of-first : (c m : ℕ) (x : Step) → IsReleaseOf c m x → ReleasesFirst x (Step.Release c m)
of-first c m (Step.Release d p) is = inr is
of-first c m x is = absurd is

pub releases_of-skip : (t u : Trace) (c m n : ℕ) → ReleasesOf t u c m → m ≤ n → ((p : ℕ) → m ≤ p → p < n → IsDue u (Step.Release c p) → ⊥) → ReleasesOf t u c n
releases_of-skip t u c m n r le not_due = record {
  steps = r.steps;
  made = r.made;
  due = r.due;
  releases = All-weaker (IsReleaseOf c m) (IsReleaseOf c n) (of-more c m n le) r.steps r.releases;
  rising = r.rising;
  none = λ p lt. go p lt;
}
  where
    at : (p : ℕ) → p < n → (p < m) ⊎ (m ≤ p) → IsDue u (Step.Release c p) → ⊥
    at p lt (inl before) = r.none p before
    at p lt (inr from) = not_due p from lt

    go : (p : ℕ) → p < n → IsDue u (Step.Release c p) → ⊥
    go p lt = at p lt (cases_lt p m)

pub releases_of-make : (t u : Trace) (c m : ℕ) → IsRun t → ReleasesOf t u c m → IsDue u (Step.Release c m) → ReleasesOf t (with_step u (Step.Release c m)) c (suc m)
releases_of-make t u c m run r due = record {
  steps = r.steps ++ Step.Release c m ∷ [];
  made = made-last t u r.steps (Step.Release c m) r.made;
  due = due-last t u r.steps (Step.Release c m) r.made r.due due;
  releases = All-push (IsReleaseOf c (suc m)) r.steps (Step.Release c m) (All-weaker (IsReleaseOf c m) (IsReleaseOf c (suc m)) (of-more c m (suc m) (omega arith)) r.steps r.releases) (refl, omega arith);
  rising = all_pairs_push ReleasesFirst r.steps (Step.Release c m) r.rising
      (λ k d lt. of-first c m (get_or r.steps k d) (All-get_or (IsReleaseOf c m) r.steps k d lt r.releases));
  none = λ p lt new. go p lt new (cases_eq p m);
}
  where
    now : IsRun u
    now = releases_of-run t u c m run r

    opened : (p : ℕ) → p < m → ((c < c) × ((play u).node (c - 1) ≡ (play u).node (c - 1)) × (p ≡ m)) ⊎ IsDue u (Step.Release c p) → ⊥
    opened p lt (inl later) = let less : c < c = later.0 in omega arith
    opened p lt (inr still) = r.none p lt still

    go : (p : ℕ) → p < suc m → IsDue (with_step u (Step.Release c m)) (Step.Release c p) → (p ≡ m) ⊎ (p ≢ m) → ⊥
    go p lt new (inl same) = release-spent u c m now due (subst (λ (q : ℕ). IsDue (with_step u (Step.Release c m)) (Step.Release c q)) same new)
    go p lt new (inr ne) = opened p (omega arith) (release-opens u c m c p now due new)

-- they let none of an earlier computation become due
pub releases_of-open_later : (t : Trace) (xs : List Step) (c m d q : ℕ) → IsRun t → AreDue t xs → All (IsReleaseOf c m) xs → d < c → IsDue (with_steps t xs) (Step.Release d q) → IsDue t (Step.Release d q)
releases_of-open_later t [] c m d q run due each lt new = subst (λ (u : Trace). IsDue u (Step.Release d q)) (with-none t) new
releases_of-open_later t (x ∷ xs) c m d q run due each lt new =
    one x due.0 (All-head (IsReleaseOf c m) x xs each)
    (releases_of-open_later (with_step t x) xs c m d q (is_run-with_step t x run due.0) due.1 (All-tail (IsReleaseOf c m) x xs each) lt
    (subst (λ (u : Trace). IsDue u (Step.Release d q)) (with-more t x xs) new))
  where
    earlier : (b p : ℕ) → b ≡ c → ((b < d) × ((play t).node (d - 1) ≡ (play t).node (b - 1)) × (q ≡ p)) ⊎ IsDue t (Step.Release d q) → IsDue t (Step.Release d q)
    earlier b p e (inl later) = let less : b < d = later.0 in absurd (omega arith)
    earlier b p e (inr still) = still

    one : (y : Step) → IsDue t y → IsReleaseOf c m y → IsDue (with_step t y) (Step.Release d q) → IsDue t (Step.Release d q)
    one (Step.Release b p) can is later = earlier b p is.0 (release-opens t b p d q run can later)
    one y can is later = absurd is

-- so where none of an earlier computation was due, none is after all those of this one
pub releases_of-settle : (t u : Trace) (c m : ℕ) → IsRun t → ReleasesOf t u c m → ((p : ℕ) → m ≤ p → IsDue u (Step.Release c p) → ⊥)
    → ((j p : ℕ) → j < c → IsDue t (Step.Release j p) → ⊥) → (j p : ℕ) → j ≤ c → IsDue u (Step.Release j p) → ⊥
releases_of-settle t u c m run r not_due none j p le due = go (cases_eq j c)
  where
    own : (q : ℕ) → IsDue u (Step.Release c q) → (q < m) ⊎ (m ≤ q) → ⊥
    own q now (inl lt) = r.none q lt now
    own q now (inr from) = not_due q from now

    go : (j ≡ c) ⊎ (j ≢ c) → ⊥
    go (inl e) = own p (subst (λ (k : ℕ). IsDue u (Step.Release k p)) e due) (cases_lt p m)
    go (inr ne) =
        none j p (omega arith)
        (releases_of-open_later t r.steps c m j p run r.due r.releases (omega arith) (subst (λ (w : Trace). IsDue w (Step.Release j p)) r.made due))

-- where none of a computation is due, none of it is made
pub releases_of-nothing : (t u : Trace) (c m : ℕ) → ReleasesOf t u c m → ((p : ℕ) → IsDue t (Step.Release c p) → ⊥) → u ≡ t
releases_of-nothing t u c m r none = r.made ∙ go r.steps r.due r.releases
  where
    one : (x : Step) → IsDue t x → IsReleaseOf c m x → ⊥
    one (Step.Release d p) due is = none p (subst (λ (k : ℕ). IsDue t (Step.Release k p)) is.0 due)
    one x due is = is

    go : (xs : List Step) → AreDue t xs → All (IsReleaseOf c m) xs → with_steps t xs ≡ t
    go [] due is = with-none t
    go (x ∷ xs) due is = absurd (one x due.0 (All-head (IsReleaseOf c m) x xs is))

-- the releases of the computations before one
pub releases_before-none : (t : Trace) (c : ℕ) → ((j p : ℕ) → j < c → IsDue t (Step.Release j p) → ⊥) → ReleasesBefore t t c
releases_before-none t c not_due = record {
  steps = [];
  made = sym (with-none t);
  due = tt;
  releases = All-nil (IsReleaseBefore c);
  rising = λ i j d less lt. absurd (omega arith);
  none = not_due;
}

pub releases_before-run : (t u : Trace) (c : ℕ) → IsRun t → ReleasesBefore t u c → IsRun u
releases_before-run t u c run r = run-after t u r.steps r.made run r.due

before-more : (c d : ℕ) → c ≤ d → (x : Step) → IsReleaseBefore c x → IsReleaseBefore d x
before-more c d le (Step.Release j p) is = let lt : j < c = is in omega arith
before-more c d le x is = absurd is

before-of : (c m : ℕ) (x : Step) → IsReleaseOf c m x → IsReleaseBefore (suc c) x
before-of c m (Step.Release j p) is = let e : j ≡ c = is.0 in omega arith
before-of c m x is = absurd is

first-of : (c m : ℕ) (x y : Step) → IsReleaseBefore c x → IsReleaseOf c m y → ReleasesFirst x y
first-of c m (Step.Release j p) (Step.Release k q) before is = let lt : j < c = before in let e : k ≡ c = is.0 in inl (omega arith)
first-of c m (Step.Release j p) y before is = absurd is
first-of c m x y before is = absurd before

-- the releases of the next computation are made until none of it is due
pub releases_before-make : (t u v : Trace) (c m : ℕ) → IsRun t → ReleasesBefore t u c → ReleasesOf u v c m → ((p : ℕ) → m ≤ p → IsDue v (Step.Release c p) → ⊥) → ReleasesBefore t v (suc c)
releases_before-make t u v c m run a b not_due = record {
  steps = a.steps ++ b.steps;
  made = b.made ∙ (ap (λ (w : Trace). with_steps w b.steps) a.made ∙ sym (with-both t a.steps b.steps));
  due = due-append t a.steps b.steps a.due (subst (λ (w : Trace). AreDue w b.steps) a.made b.due);
  releases = All-append (IsReleaseBefore (suc c)) a.steps b.steps (All-weaker (IsReleaseBefore c) (IsReleaseBefore (suc c)) (before-more c (suc c) (omega arith)) a.steps a.releases)
      (All-weaker (IsReleaseOf c m) (IsReleaseBefore (suc c)) (before-of c m) b.steps b.releases);
  rising = pairs-append ReleasesFirst a.steps b.steps a.rising b.rising
      (All-weaker (IsReleaseBefore c) (λ x. All (ReleasesFirst x) b.steps) (λ x before. All-weaker (IsReleaseOf c m) (ReleasesFirst x) (λ y is. first-of c m x y before is) b.steps b.releases) a.steps a.releases);
  none = λ j p lt due. go j p lt due (cases_eq j c);
}
  where
    now : IsRun u
    now = releases_before-run t u c run a

    own : (p : ℕ) → IsDue v (Step.Release c p) → (p < m) ⊎ (m ≤ p) → ⊥
    own p due (inl lt) = b.none p lt due
    own p due (inr le) = not_due p le due

    go : (j p : ℕ) → j < suc c → IsDue v (Step.Release j p) → (j ≡ c) ⊎ (j ≢ c) → ⊥
    go j p lt due (inl e) = own p (subst (λ (k : ℕ). IsDue v (Step.Release k p)) e due) (cases_lt p m)
    go j p lt due (inr ne) =
        a.none j p (omega arith)
        (releases_of-open_later u b.steps c m j p now b.due b.releases (omega arith) (subst (λ (w : Trace). IsDue w (Step.Release j p)) b.made due))

-- computations of which no release is due are passed over
pub releases_before-skip : (t u : Trace) (c d : ℕ) → ReleasesBefore t u c → c ≤ d → ((j p : ℕ) → c ≤ j → j < d → IsDue u (Step.Release j p) → ⊥) → ReleasesBefore t u d
releases_before-skip t u c d r le not_due = record {
  steps = r.steps;
  made = r.made;
  due = r.due;
  releases = All-weaker (IsReleaseBefore c) (IsReleaseBefore d) (before-more c d le) r.steps r.releases;
  rising = r.rising;
  none = λ j p lt. at j p lt (cases_lt j c);
}
  where
    at : (j p : ℕ) → j < d → (j < c) ⊎ (c ≤ j) → IsDue u (Step.Release j p) → ⊥
    at j p lt (inl before) = r.none j p before
    at j p lt (inr from) = not_due j p from lt

release-kind : (c : ℕ) (x : Step) → IsReleaseBefore c x → IsRelease x
release-kind c (Step.Release j p) is = tt
release-kind c x is = absurd is

-- until none is due at all
pub releases_before-all : (t u : Trace) (c : ℕ) → ReleasesBefore t u c → ((j p : ℕ) → c ≤ j → IsDue u (Step.Release j p) → ⊥) → ReleasesAll t u
releases_before-all t u c r not_due = record {
  steps = r.steps;
  made = r.made;
  due = r.due;
  releases = All-weaker (IsReleaseBefore c) IsRelease (release-kind c) r.steps r.releases;
  rising = r.rising;
  none = λ j p. at j p (cases_lt j c);
}
  where
    at : (j p : ℕ) → (j < c) ⊎ (c ≤ j) → IsDue u (Step.Release j p) → ⊥
    at j p (inl before) = r.none j p before
    at j p (inr from) = not_due j p from

-- the ends, by rising computation
pub ends_before-none : (t : Trace) (c : ℕ) → ((j : ℕ) → j < c → IsDue t (Step.End j) → ⊥) → EndsBefore t t c
ends_before-none t c not_due = record {
  steps = [];
  made = sym (with-none t);
  due = tt;
  ends = All-nil (IsEndBefore c);
  rising = λ i j d less lt. absurd (omega arith);
  none = not_due;
}

pub ends_before-run : (t u : Trace) (c : ℕ) → IsRun t → EndsBefore t u c → IsRun u
ends_before-run t u c run r = run-after t u r.steps r.made run r.due

end-more : (c d : ℕ) → c ≤ d → (x : Step) → IsEndBefore c x → IsEndBefore d x
end-more c d le (Step.End j) is = let lt : j < c = is in omega arith
end-more c d le x is = absurd is

pub ends_before-skip : (t u : Trace) (c d : ℕ) → EndsBefore t u c → c ≤ d → ((j : ℕ) → c ≤ j → j < d → IsDue u (Step.End j) → ⊥) → EndsBefore t u d
ends_before-skip t u c d r le not_due = record {
  steps = r.steps;
  made = r.made;
  due = r.due;
  ends = All-weaker (IsEndBefore c) (IsEndBefore d) (end-more c d le) r.steps r.ends;
  rising = r.rising;
  none = λ j lt. at j lt (cases_lt j c);
}
  where
    at : (j : ℕ) → j < d → (j < c) ⊎ (c ≤ j) → IsDue u (Step.End j) → ⊥
    at j lt (inl before) = r.none j before
    at j lt (inr from) = not_due j from lt

end-first : (c : ℕ) (x : Step) → IsEndBefore c x → EndsFirst x (Step.End c)
end-first c (Step.End j) is = is
end-first c x is = absurd is

pub ends_before-make : (t u : Trace) (c : ℕ) → IsRun t → EndsBefore t u c → IsDue u (Step.End c) → EndsBefore t (with_step u (Step.End c)) (suc c)
ends_before-make t u c run r due = record {
  steps = r.steps ++ Step.End c ∷ [];
  made = made-last t u r.steps (Step.End c) r.made;
  due = due-last t u r.steps (Step.End c) r.made r.due due;
  ends = All-push (IsEndBefore (suc c)) r.steps (Step.End c) (All-weaker (IsEndBefore c) (IsEndBefore (suc c)) (end-more c (suc c) (omega arith)) r.steps r.ends) (omega arith);
  rising = all_pairs_push EndsFirst r.steps (Step.End c) r.rising (λ k d lt. end-first c (get_or r.steps k d) (All-get_or (IsEndBefore c) r.steps k d lt r.ends));
  none = λ j lt new.
      let old = end-opens u c j (ends_before-run t u c run r) due new in
      let ne : j ≢ c = old.1 in
      r.none j (omega arith) old.0;
}

end-kind : (c : ℕ) (x : Step) → IsEndBefore c x → IsEnd x
end-kind c (Step.End j) is = tt
end-kind c x is = absurd is

pub ends_before-all : (t u : Trace) (c : ℕ) → EndsBefore t u c → ((j : ℕ) → c ≤ j → IsDue u (Step.End j) → ⊥) → EndsAll t u
ends_before-all t u c r not_due = record {
  steps = r.steps;
  made = r.made;
  due = r.due;
  ends = All-weaker (IsEndBefore c) IsEnd (end-kind c) r.steps r.ends;
  rising = r.rising;
  none = λ j. at j (cases_lt j c);
}
  where
    at : (j : ℕ) → (j < c) ⊎ (c ≤ j) → IsDue u (Step.End j) → ⊥
    at j (inl before) = r.none j before
    at j (inr from) = not_due j from
