-- Each fault of a journal excludes the others.
use Rattle.std.proofs.Common.{arith, ◌≡◌, ◌≢◌, ◌⊎◌, inl, inr, ℕ, ◌+◌, ◌-◌, ◌<◌, ◌≤◌, List, length, take, refl, ap, sym, ◌∙◌, subst}
use Rattle.std.specs.Prelude.{slice_index_or}
use Rattle.std.proofs.lemmas.Bool.{cases_order, false≢true}
use Rattle.samoa_model.specs.declared.record.Step.{Step}
use Rattle.samoa_model.specs.declared.script.Script.{Script}
use Rattle.samoa_invariant.specs.Inv.{Invariant}
use Rattle.samoa_invariant.specs.Play.{Play}
use Rattle.samoa_invariant.specs.State.{Core}
use Rattle.samoa_invariant.specs.Runs.{CanMake, state}
use Rattle.samoa_invariant.proofs.representation.Traces.{invariant}
use Rattle.samoa_journal.specs.Finished.{IsComplete, IsFinished, replayed}
use Rattle.samoa_replay.specs.Begun.{IsBegun}
use Rattle.samoa_replay.specs.Faults.{IsFaultOf, IsLeastUnended, IsNotEnabled, IsTrailing, IsUnfinished}
use Rattle.samoa_replay.specs.Steady.{IsSteady, steady, whole_play}
use Rattle.samoa_replay.specs.declared.fault.ReplayFault.{ReplayFault}
use Rattle.samoa_replay.specs.declared.fault.ReplayFault.TheVariants.{Memory, NotEnabled, Trailing, Unfinished}
use Rattle.samoa_replay.proofs.Making.{whole-is}
use Rattle.samoa_replay.proofs.Out.{none_goes_on}
use Rattle.samoa_replay.proofs.Replaying.{take_next}
use Rattle.samoa_replay.proofs.Steady.{IsWhole, begun-of, begun-state, is_steady-can, is_steady-take, length-taken, of-finished, steady-of, take_taken}

kept : (script : Script) (steps : List Step) → IsWhole script steps → Invariant (whole_play script) (steady script steps)
kept script steps w =
    subst (λ (c : Core). Invariant (whole_play script) c) (begun-state script steps w.begun)
    (subst (λ (Q : Play). Invariant Q (state (replayed script w.begun.clears steps))) (sym (whole-is script)) (invariant (replayed script w.begun.clears steps) w.begun.run))

-- nothing follows a finished journal
none_follows : (script : Script) (steps : List Step) → IsWhole script steps → (step : Step) → CanMake (whole_play script) (steady script steps) step → ⊥
none_follows script steps w (Step.Admit comp) can =
    let room = (subst (λ (Q : Play). CanMake Q (steady script steps) (Step.Admit comp)) (whole-is script) can).enabled.room in
    absurd (omega (arith, room, w.count))
none_follows script steps w (Step.Enter comp micro) can = none_goes_on (whole_play script) (steady script steps) (kept script steps w) w.ended (Step.Enter comp micro) tt can
none_follows script steps w (Step.Leave comp) can = none_goes_on (whole_play script) (steady script steps) (kept script steps w) w.ended (Step.Leave comp) tt can
none_follows script steps w (Step.Abandon comp) can = none_goes_on (whole_play script) (steady script steps) (kept script steps w) w.ended (Step.Abandon comp) tt can
none_follows script steps w (Step.Release comp micro) can = none_goes_on (whole_play script) (steady script steps) (kept script steps w) w.ended (Step.Release comp micro) tt can
none_follows script steps w (Step.End comp) can = none_goes_on (whole_play script) (steady script steps) (kept script steps w) w.ended (Step.End comp) tt can

no_more : (script : Script) (steps : List Step) (n : ℕ) → IsBegun script steps → IsFinished script (take n steps) → n < length steps → ⊥
no_more script steps n begun finished less =
    let step : Step = slice_index_or steps n (Step.Admit 0) in
    none_follows script (take n steps) (of-finished script (take n steps) finished) step
    (is_steady-can script (take n steps) step
    (subst (λ (xs : List Step). IsSteady script xs) (sym (take_next n steps (Step.Admit 0) less)) (is_steady-take script steps (n + 1) (steady-of script steps begun))))

-- fewer of the lines begin a journal too
fewer : (script : Script) (steps : List Step) (n m : ℕ) → n ≤ m → IsBegun script (take m steps) → IsBegun script (take n steps)
fewer script steps n m le begun =
    subst (λ (xs : List Step). IsBegun script xs) (take_taken n m steps le)
    (begun-of script (take n (take m steps)) (is_steady-take script (take m steps) n (steady-of script (take m steps) begun)))

some : (script : Script) (steps : List Step) (n : ℕ) → IsBegun script steps → IsBegun script (take n steps)
some script steps n begun = begun-of script (take n steps) (is_steady-take script steps n (steady-of script steps begun))

begun_of : (script : Script) (steps : List Step) → IsFinished script steps → IsBegun script steps
begun_of script steps finished = (of-finished script steps finished).begun

-- of two beginnings the first isn't finished
first_open : (script : Script) (steps : List Step) (n m : ℕ) → n < m → m ≤ length steps → IsBegun script (take m steps) → IsFinished script (take n steps) → ⊥
first_open script steps n m less within begun finished =
    no_more script (take m steps) n begun (subst (λ (xs : List Step). IsFinished script xs) (sym (take_taken n m steps (omega (arith, less)))) finished)
    (omega (arith, less, length-taken m steps within))

-- ---- a complete journal has none
pub no_fault : (script : Script) (steps : List Step) (fault : ReplayFault) → IsComplete script steps → IsFaultOf script steps fault → fault ≡ Memory
no_fault script steps (NotEnabled line) complete f = absurd (f.wrong (some script steps line (begun_of script steps complete.finished)))
no_fault script steps (Unfinished comp) complete f = absurd (f.incomplete complete)
no_fault script steps (Trailing line) complete f =
    absurd (no_more script steps f.before (begun_of script steps complete.finished) f.finished (omega (arith, f.counted, f.within)))
no_fault script steps Memory complete f = refl

-- ---- and another at most one
wrong_twice : (script : Script) (steps : List Step) (l m : ℕ) → IsNotEnabled script steps l → IsNotEnabled script steps m → l < m → ⊥
wrong_twice script steps l m f g less = f.wrong (fewer script steps l g.before (omega (arith, less, g.counted)) g.begun)

wrong_or_trailing : (script : Script) (steps : List Step) (l m : ℕ) → IsNotEnabled script steps l → IsTrailing script steps m → ⊥
wrong_or_trailing script steps l m f g = go (cases_order f.before g.before)
  where
    go : (f.before ≡ g.before) ⊎ ((f.before < g.before) ⊎ (g.before < f.before)) → ⊥
    go (inl same) = f.unfinished (subst (λ (n : ℕ). IsFinished script (take n steps)) (sym same) g.finished)
    go (inr (inl less)) = f.wrong (fewer script steps l g.before (omega (arith, less, f.counted)) (begun_of script (take g.before steps) g.finished))
    go (inr (inr more)) = first_open script steps g.before f.before more (omega (arith, f.counted, f.within)) f.begun g.finished

trailing_twice : (script : Script) (steps : List Step) (l m : ℕ) → IsTrailing script steps l → IsTrailing script steps m → l < m → ⊥
trailing_twice script steps l m f g less =
    first_open script steps f.before g.before (omega (arith, less, f.counted, g.counted)) (omega (arith, g.counted, g.within)) (begun_of script (take g.before steps) g.finished) f.finished

wrong_or_unfinished : (script : Script) (steps : List Step) (l k : ℕ) → IsNotEnabled script steps l → IsUnfinished script steps k → ⊥
wrong_or_unfinished script steps l k f g = f.wrong (some script steps l g.begun)

trailing_or_unfinished : (script : Script) (steps : List Step) (l k : ℕ) → IsTrailing script steps l → IsUnfinished script steps k → ⊥
trailing_or_unfinished script steps l k f g = no_more script steps f.before g.begun f.finished (omega (arith, f.counted, f.within))

least_less : (core : Core) (j k : ℕ) → IsLeastUnended core j → IsLeastUnended core k → j < k → ⊥
least_less core j k a b less =
    let first : 0 < j = a.first in
    let most : k ≤ core.count + 1 = b.most in
    false≢true (sym (a.here (omega (arith, less, most))) ∙ b.before (j - 1) (omega (arith, first, less)))

least_of : (script : Script) (steps : List Step) (k : ℕ) → IsUnfinished script steps k → IsLeastUnended (steady script steps) k
least_of script steps k f = subst (λ (c : Core). IsLeastUnended c k) (begun-state script steps f.begun) f.least

same_of : (a b : ℕ) → (a < b → ⊥) → (b < a → ⊥) → a ≡ b
same_of a b not_less not_more = go (cases_order a b)
  where
    go : (a ≡ b) ⊎ ((a < b) ⊎ (b < a)) → a ≡ b
    go (inl same) = same
    go (inr (inl less)) = absurd (not_less less)
    go (inr (inr more)) = absurd (not_more more)

pub only_fault : (script : Script) (steps : List Step) (fault other : ReplayFault) → IsFaultOf script steps fault → IsFaultOf script steps other → fault ≢ Memory → other ≢ Memory
    → fault ≡ other
only_fault script steps (NotEnabled l) (NotEnabled m) f g u v = ap (λ (n : ℕ). NotEnabled n) (same_of l m (wrong_twice script steps l m f g) (wrong_twice script steps m l g f))
only_fault script steps (NotEnabled l) (Unfinished k) f g u v = absurd (wrong_or_unfinished script steps l k f g)
only_fault script steps (NotEnabled l) (Trailing m) f g u v = absurd (wrong_or_trailing script steps l m f g)
only_fault script steps (NotEnabled l) Memory f g u v = absurd (v refl)
only_fault script steps (Unfinished j) (NotEnabled m) f g u v = absurd (wrong_or_unfinished script steps m j g f)
only_fault script steps (Unfinished j) (Unfinished k) f g u v =
    let a = least_of script steps j f in
    let b = least_of script steps k g in
    ap (λ (n : ℕ). Unfinished n) (same_of j k (least_less (steady script steps) j k a b) (least_less (steady script steps) k j b a))
only_fault script steps (Unfinished j) (Trailing m) f g u v = absurd (trailing_or_unfinished script steps m j g f)
only_fault script steps (Unfinished j) Memory f g u v = absurd (v refl)
only_fault script steps (Trailing l) (NotEnabled m) f g u v = absurd (wrong_or_trailing script steps m l g f)
only_fault script steps (Trailing l) (Unfinished k) f g u v = absurd (trailing_or_unfinished script steps l k f g)
only_fault script steps (Trailing l) (Trailing m) f g u v = ap (λ (n : ℕ). Trailing n) (same_of l m (trailing_twice script steps l m f g) (trailing_twice script steps m l g f))
only_fault script steps (Trailing l) Memory f g u v = absurd (v refl)
only_fault script steps Memory other f g u v = absurd (u refl)
