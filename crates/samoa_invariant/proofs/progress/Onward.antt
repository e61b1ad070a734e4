-- Who is picked, and what goes on.
use Rattle.std.proofs.Common.{arith, ◌≡◌, ℕ, suc, ◌-◌, ◌<◌, ◌⊎◌, inl, inr, refl, ap, sym, ◌∙◌, subst, [], false, Option, Some, None}
use Rattle.samoa_model.specs.declared.record.Step.{Step}
use Rattle.samoa_invariant.specs.State as model
use Rattle.samoa_invariant.specs.State.{AllEnded, CanEnd, CanEnter, CanRelease, Core, IsLeastOpen, IsNextAt, IsSettled, NothingOut}
use Rattle.samoa_invariant.specs.Runs.{IsDue, IsRun, Trace, has_abandon, play, state}
use Rattle.samoa_invariant.specs.Picking.{GoesOnItself, IsFirstToEnter, IsLeastUnended, IsPick, NoEnterIsDue}
use Rattle.samoa_invariant.proofs.progress.Progress.{active_enters, ended-none_enters, ended_stays, head_next, idle_goes_on, least_enters, none_enters-ended, open_or_ended}
use Rattle.samoa_invariant.proofs.representation.Standing.{stopped_is}
use Rattle.samoa_invariant.proofs.representation.Traces.{invariant}
use Rattle.samoa_invariant.proofs.preservation.Versions.{in_order, place_of}

-- what is picked is determined
pub pick-same : (t : Trace) (a b : Option ℕ) → IsPick t a → IsPick t b → a ≡ b
pick-same t None None first second = refl
pick-same t None (Some k) first second = absurd (first k second.micro second.due)
pick-same t (Some j) None first second = absurd (second j first.micro first.due)
pick-same t (Some j) (Some k) first second = go (in_order j k)
  where
    go : (j < k) ⊎ ((j ≡ k) ⊎ (k < j)) → Some j ≡ Some k
    go (inl lt) = absurd (second.least j first.micro lt first.due)
    go (inr (inl e)) = ap Some e
    go (inr (inr lt)) = absurd (first.least k second.micro lt second.due)

running : (t : Trace) → has_abandon t.journal ≡ false → (state t).stopped ≡ false
running t not_abandoned = stopped_is t ∙ not_abandoned

-- none is picked exactly where all have ended
pub none-ended : (t : Trace) → IsRun t → has_abandon t.journal ≡ false → IsSettled (play t) (state t) → NothingOut (state t) → NoEnterIsDue t → AllEnded (state t)
none-ended t run not_abandoned settled home none =
    ended-none_enters (play t) (state t) (invariant t run) (running t not_abandoned) settled home
    (λ k p can. none (suc k) p (record { number = omega arith; enabled = subst (λ (j : ℕ). CanEnter (play t) (state t) j p) (place_of k) can }))

pub ended-none : (t : Trace) → IsRun t → AllEnded (state t) → NoEnterIsDue t
ended-none t run all comp micro due = none_enters-ended (play t) (state t) (invariant t run) all (comp - 1) micro due.enabled

-- and else the least that hasn't ended
pub least-first : (t : Trace) (comp : ℕ) → IsRun t → has_abandon t.journal ≡ false → IsSettled (play t) (state t) → NothingOut (state t) → IsLeastUnended t comp
    → IsFirstToEnter t comp
least-first t comp run not_abandoned settled home least =
    let can = least_enters (play t) (state t) (comp - 1) (invariant t run) (running t not_abandoned) settled home least.least in
    record {
      micro = can.0;
      due = record { number = least.number; enabled = can.1 };
      least = λ earlier p lt due.
          let number : 0 < earlier = due.number in
          ended_stays (play t) (state t) (earlier - 1) p (invariant t run) (least.least.before (earlier - 1) (omega arith)) due.enabled;
    }

-- what is out may come back
pub leave-due : (t : Trace) (node micro k : ℕ) → IsRun t → (state t).out node micro ≡ Some k → IsDue t (Step.Leave (suc k))
leave-due t node micro k run out =
    let rightly = (invariant t run).out node micro k out in
    let there : (state t).out ((play t).node k) micro ≡ Some k = ap (λ (v : ℕ). (state t).out v micro) (sym rightly.node) ∙ out in
    record {
      number = omega arith;
      enabled = subst (λ (j : ℕ). model.CanLeave (play t) (state t) j) (place_of k) (record { slot = micro; out = record { admitted = rightly.admitted; out = there } });
    }

-- where nothing is out, the least that hasn't ended goes on
pub least-goes_on : (t : Trace) (comp : ℕ) → IsRun t → NothingOut (state t) → has_abandon t.journal ≡ false → IsLeastUnended t comp → GoesOnItself t comp
least-goes_on t comp run home not_abandoned least = go (head_next (play t) (state t) (comp - 1) (invariant t run) least.least.admitted)
  where
    rest : ((p : ℕ) × CanRelease (play t) (state t) (comp - 1) p) ⊎ CanEnd (play t) (state t) (comp - 1) → GoesOnItself t comp
    rest (inl r) = inl (r.0, record { number = least.number; enabled = r.1 })
    rest (inr e) = inr (inl (record { number = least.number; enabled = e }))

    go : (((state t).comp (comp - 1)).active ≡ []) ⊎ ((p : ℕ) × IsNextAt ((state t).comp (comp - 1)) p) → GoesOnItself t comp
    go (inl idle) = rest (idle_goes_on (play t) (state t) (comp - 1) (invariant t run) least.least idle)
    go (inr next) = inr (inr (
      next.0,
      record {
        number = least.number;
        enabled = active_enters (play t) (state t) (comp - 1) (invariant t run) least.least (running t not_abandoned) next (home ((play t).node (comp - 1)) next.0);
      },
    ))

pub unended : (t : Trace) → AllEnded (state t) ⊎ ((comp : ℕ) × IsLeastUnended t comp)
unended t = go (open_or_ended (state t))
  where
    go : ((k : ℕ) × IsLeastOpen (state t) k) ⊎ AllEnded (state t) → AllEnded (state t) ⊎ ((comp : ℕ) × IsLeastUnended t comp)
    go (inl found) = inr (suc found.0, record { number = omega arith; least = subst (λ (j : ℕ). IsLeastOpen (state t) j) (place_of found.0) found.1 })
    go (inr all) = inl all
