-- A step that is made, and one that isn't enabled.
use Rattle.std.proofs.Common.{arith, ◌≡◌, ◌≢◌, ◌⊎◌, inl, inr, ℕ, ◌-◌, ◌<◌, ◌≤◌, List, ◌++◌, append_assoc, length, length-append, length-take, Option, Some, None, refl, ap, sym, ◌∙◌, subst, Bool, true, false, ◌==◌, eqb-true, eq-eqb}
use Rattle.std.proofs.lemmas.Bool.{false≢true}
use Rattle.std.proofs.lemmas.List.{get_or_append_left}
use Rattle.samoa_model.specs.declared.handler.Moment.{Moment}
use Rattle.samoa_model.specs.declared.record.Ext.{Ext}
use Rattle.samoa_model.specs.declared.record.Step.{Step}
use Rattle.samoa_model.specs.declared.script.Script.{Script}
use Rattle.samoa_model.specs.Scripts.{decl_of}
use Rattle.samoa_serial.specs.declared.call.Call.{Call}
use Rattle.samoa_serial.specs.Alone.{next_step}
use Rattle.samoa_serial.specs.Ticks.{admitted, most_admitted}
use Rattle.samoa_serial.proofs.LimitLaws.{admitted_to-begins}
use Rattle.samoa_invariant.specs.Play.{Play}
use Rattle.samoa_invariant.specs.State as model
use Rattle.samoa_invariant.specs.State.{AllEnded, CanEnd, CanEnter, CanLeave, CanRelease, Core, HasTurn, Quiet}
use Rattle.samoa_invariant.specs.Runs.{CanMake, IsDue, IsRun, Trace, after_step, ext_at, no_ext, play, play_of, state, with_step}
use Rattle.samoa_invariant.proofs.preservation.Slots.{put-else, put-here}
use Rattle.samoa_invariant.proofs.representation.Extended.{end-same, enter-same, leaves-same, made-same, release-same}
use Rattle.samoa_invariant.proofs.representation.Traces.{invariant, state-step}
use Rattle.samoa_control.specs.Steps.{IsNoAdmit}
use Rattle.samoa_control.specs.Turns.{Going}
use Rattle.samoa_control.proofs.Since.{cleared-step}
use Rattle.samoa_journal.specs.Finished.{most_cells}
use Rattle.samoa_replay.specs.declared.course.Course.{Course}
use Rattle.samoa_replay.specs.Following.{AreOut, HasMade, IsOnCourse, IsReady, IsRefused, rest_of}
use Rattle.samoa_replay.specs.Steady.{steady, swept, whole_play}
use Rattle.samoa_replay.proofs.Out.{none_goes_on}
use Rattle.samoa_replay.proofs.Steady.{OpensAt, is_steady-can, is_steady-next, steady-next, swept_is-same}

-- ---- what the core was given begins all that the script admits
pub record Begun (script : Script) (exts rest : List Ext) : Type 0 where
  pub later : List Ext
  pub is : admitted script ≡ exts ++ (rest ++ later)

pub begun : (script : Script) (t : Trace) (course : Course) → IsOnCourse script t course → Begun script t.exts (rest_of course)
begun script t course on =
    let all = admitted_to-begins most_admitted script course.tick (omega (arith, on.gathered.within, on.tick)) in
    record {
      later = all.rest;
      is = all.is ∙ (ap (λ (xs : List Ext). xs ++ all.rest) on.left.adds ∙ append_assoc t.exts (rest_of course) all.rest);
    }

pub ext-same : (script : Script) (exts rest : List Ext) → Begun script exts rest → (k : ℕ) → k < length exts → ext_at exts k ≡ ext_at (admitted script) k
ext-same script exts rest b k less =
    sym (ap (λ (xs : List Ext). ext_at xs k) b.is ∙ get_or_append_left {A = Ext} exts (rest ++ b.later) no_ext k less)

longer : (script : Script) (exts rest : List Ext) → Begun script exts rest → length exts ≤ length (admitted script)
longer script exts rest b = omega (arith, ap (λ (xs : List Ext). length xs) b.is, length-append exts (rest ++ b.later))

-- ---- a step over fewer admissions is one over all, and back

module _ (script : Script) (xs ys : List Ext) (same : (k : ℕ) → k < length xs → ext_at xs k ≡ ext_at ys k) (core : Core) (most : core.count ≤ length xs) where
  abbrev P : Play
  P = play_of script most_cells xs

  abbrev Q : Play
  Q = play_of script most_cells ys

  there : (k : ℕ) → k < core.count → ext_at xs k ≡ ext_at ys k
  there k less = same k (omega (arith, less, most))

  node : (k : ℕ) → k < core.count → P.node k ≡ Q.node k
  node k less = ap (λ (x : Ext). x.node.0) (there k less)

  decl : (k : ℕ) → k < core.count → P.decl k ≡ Q.decl k
  decl k less = ap (λ (x : Ext). (decl_of script x).decl) (there k less)

  can-more : (step : Step) → IsNoAdmit step → CanMake P core step → CanMake Q core step
  can-more (Step.Admit comp) plain can = absurd plain
  can-more (Step.Enter comp micro) plain can =
      record { number = can.number; enabled = enter-same P Q core (comp - 1) micro (node (comp - 1) can.enabled.turn.admitted) can.enabled }
  can-more (Step.Leave comp) plain can = record { number = can.number; enabled = leaves-same P Q core (comp - 1) (node (comp - 1) can.enabled.out.admitted) can.enabled }
  can-more (Step.Abandon comp) plain can = record { number = can.number; enabled = leaves-same P Q core (comp - 1) (node (comp - 1) can.enabled.out.admitted) can.enabled }
  can-more (Step.Release comp micro) plain can =
      record {
        number = can.number;
        enabled = release-same P Q core (comp - 1) micro (node (comp - 1) can.enabled.turn.admitted) (decl (comp - 1) can.enabled.turn.admitted) can.enabled;
      }
  can-more (Step.End comp) plain can =
      record { number = can.number; enabled = end-same P Q core (comp - 1) (node (comp - 1) can.enabled.admitted) (decl (comp - 1) can.enabled.admitted) can.enabled }

  can-less : (step : Step) → IsNoAdmit step → CanMake Q core step → CanMake P core step
  can-less (Step.Admit comp) plain can = absurd plain
  can-less (Step.Enter comp micro) plain can =
      record { number = can.number; enabled = enter-same Q P core (comp - 1) micro (sym (node (comp - 1) can.enabled.turn.admitted)) can.enabled }
  can-less (Step.Leave comp) plain can = record { number = can.number; enabled = leaves-same Q P core (comp - 1) (sym (node (comp - 1) can.enabled.out.admitted)) can.enabled }
  can-less (Step.Abandon comp) plain can = record { number = can.number; enabled = leaves-same Q P core (comp - 1) (sym (node (comp - 1) can.enabled.out.admitted)) can.enabled }
  can-less (Step.Release comp micro) plain can =
      record {
        number = can.number;
        enabled = release-same Q P core (comp - 1) micro (sym (node (comp - 1) can.enabled.turn.admitted)) (sym (decl (comp - 1) can.enabled.turn.admitted)) can.enabled;
      }
  can-less (Step.End comp) plain can =
      record { number = can.number; enabled = end-same Q P core (comp - 1) (sym (node (comp - 1) can.enabled.admitted)) (sym (decl (comp - 1) can.enabled.admitted)) can.enabled }

  after-same : (step : Step) → IsNoAdmit step → CanMake P core step → after_step P core step ≡ after_step Q core step
  after-same (Step.Admit comp) plain can = absurd plain
  after-same (Step.Enter comp micro) plain can = made-same script most_cells xs ys core (model.Step.Enter (comp - 1) micro) (there (comp - 1) can.enabled.turn.admitted)
  after-same (Step.Leave comp) plain can = made-same script most_cells xs ys core (model.Step.Leave (comp - 1)) (there (comp - 1) can.enabled.out.admitted)
  after-same (Step.Abandon comp) plain can = made-same script most_cells xs ys core (model.Step.Abandon (comp - 1)) (there (comp - 1) can.enabled.out.admitted)
  after-same (Step.Release comp micro) plain can = made-same script most_cells xs ys core (model.Step.Release (comp - 1) micro) (there (comp - 1) can.enabled.turn.admitted)
  after-same (Step.End comp) plain can = made-same script most_cells xs ys core (model.Step.End (comp - 1)) (there (comp - 1) can.enabled.admitted)

-- ---- what has ended stays so
eqb_cases : (a b : ℕ) → (a ≡ b) ⊎ (a ≢ b)
eqb_cases a b = at (a == b) refl
  where
    at : (c : Bool) → (a == b) ≡ c → (a ≡ b) ⊎ (a ≢ b)
    at true e = inl (eqb-true a b e)
    at false e = inr (λ same. false≢true (sym e ∙ eq-eqb a b same))

ended-kept : (P : Play) (core : Core) (step : Step) (k : ℕ) → k < core.count → core.ended k ≡ true → (after_step P core step).ended k ≡ true
ended-kept P core (Step.Admit comp) k less e = put-else {A = Bool} core.ended core.count k false (λ same. omega (arith, less, same)) ∙ e
ended-kept P core (Step.Enter comp micro) k less e = e
ended-kept P core (Step.Leave comp) k less e = go (next_step (core.comp (comp - 1)))
  where
    go : (o : Option (Call × Moment)) → (model.leave_next P core (comp - 1) o).ended k ≡ true
    go None = e
    go (Some next) = e
ended-kept P core (Step.Abandon comp) k less e = go (next_step (core.comp (comp - 1)))
  where
    go : (o : Option (Call × Moment)) → (model.abandon_next P core (comp - 1) o).ended k ≡ true
    go None = e
    go (Some next) = e
ended-kept P core (Step.Release comp micro) k less e = e
ended-kept P core (Step.End comp) k less e = go (eqb_cases k (comp - 1))
  where
    go : (k ≡ comp - 1) ⊎ (k ≢ comp - 1) → model.put core.ended (comp - 1) true k ≡ true
    go (inl same) = put-here {A = Bool} core.ended (comp - 1) k true same
    go (inr other) = put-else {A = Bool} core.ended (comp - 1) k true other ∙ e

-- ---- the core before the next line
pub counted-most : (script : Script) (t : Trace) (course : Course) → IsOnCourse script t course → course.totals.comps ≤ length t.exts
counted-most script t course on = omega (arith, on.counted.comps, length-take course.totals.comps t.exts)

pub stood : (t : Trace) (course : Course) (turns : List Going) → IsReady t course turns → state t ≡ steady t.script t.journal
stood t course turns r = sym (swept_is-same (state t) (λ all. (r.filled all).none_held)) ∙ r.follows.stands

pub play-is : (t : Trace) → t.cells ≡ most_cells → play t ≡ play_of t.script most_cells t.exts
play-is t most = ap (λ (n : ℕ). play_of t.script n t.exts) most

pub whole-is : (script : Script) → whole_play script ≡ play_of script most_cells (admitted script)
unfolding whole_play
whole-is script = refl

-- ---- a step that admits none
module _ (t : Trace) (course : Course) (turns : List Going) (step : Step) (r : IsReady t course turns) (run : IsRun t) (counted : (state t).count ≡ length t.exts) (plain : IsNoAdmit step) where
  abbrev whole : Play
  whole = play_of t.script most_cells (admitted t.script)

  b : Begun t.script t.exts (rest_of course)
  b = begun t.script t course r.follows.on_course

  same : (k : ℕ) → k < length t.exts → ext_at t.exts k ≡ ext_at (admitted t.script) k
  same = ext-same t.script t.exts (rest_of course) b

  can-whole : IsDue t step → CanMake (whole_play t.script) (steady t.script t.journal) step
  can-whole due =
      subst (λ (c : Core). CanMake (whole_play t.script) c step) (stood t course turns r)
      (subst (λ (Q : Play). CanMake Q (state t) step) (sym (whole-is t.script))
      (can-more t.script t.exts (admitted t.script) same (state t) (omega (arith, counted)) step plain
      (subst (λ (Q : Play). CanMake Q (state t) step) (play-is t r.follows.most) due)))

  after-whole : IsDue t step → after_step (play t) (state t) step ≡ after_step (whole_play t.script) (steady t.script t.journal) step
  after-whole due =
      ap (λ (Q : Play). after_step Q (state t) step) (play-is t r.follows.most)
      ∙ (after-same t.script t.exts (admitted t.script) same (state t) (omega (arith, counted)) step plain (subst (λ (Q : Play). CanMake Q (state t) step) (play-is t r.follows.most) due)
      ∙ (ap (λ (Q : Play). after_step Q (state t) step) (sym (whole-is t.script)) ∙ ap (λ (c : Core). after_step (whole_play t.script) c step) (stood t course turns r)))

  none_opens : OpensAt t.script t.journal step
  none_opens comp admits first = absurd (subst IsNoAdmit admits plain)

  on_course-step : IsDue t step → IsOnCourse t.script (with_step t step) course
  on_course-step due =
      let on = r.follows.on_course in
      record {
        of_script = on.of_script;
        counted = on.counted;
        gathered = on.gathered;
        cleared = omega (arith, on.cleared, cleared-step t step run);
        past = λ k less.
            ap (λ (c : Core). c.ended k) (state-step t step run)
            ∙ ended-kept (play t) (state t) step k (omega (arith, less, counted-most t.script t course on, counted)) (on.past k less);
        since = on.since;
        tick = on.tick;
        left = on.left;
        within = on.within;
        last = on.last;
        limited = on.limited;
        text = on.text;
      }

  pub step-made : IsDue t step → (u : Trace) (us : List Going) → u ≡ with_step t step → AreOut u us → HasMade step t u course us
  step-made due u us is out = subst (λ (v : Trace). HasMade step t v course us) (sym is) (record {
    of_script = refl;
    journal = refl;
    follows = record {
      most = r.follows.most;
      on_course = on_course-step due;
      is_steady = is_steady-next t.script t.journal step r.follows.is_steady (can-whole due) none_opens;
      stands = ap swept (state-step t step run ∙ after-whole due) ∙ sym (steady-next t.script t.journal step);
      fresh = λ none. absurd (none_goes_on (play t) (state t) (invariant t run) (r.follows.fresh none) step plain due);
      out = subst (λ (v : Trace). AreOut v us) is out;
    };
  })

  pub step-refused : (IsDue t step → ⊥) → IsRefused t step
  step-refused none is =
      none (subst (λ (Q : Play). CanMake Q (state t) step) (sym (play-is t r.follows.most))
      (can-less t.script t.exts (admitted t.script) same (state t) (omega (arith, counted)) step plain
      (subst (λ (Q : Play). CanMake Q (state t) step) (whole-is t.script)
      (subst (λ (c : Core). CanMake (whole_play t.script) c step) (sym (stood t course turns r)) (is_steady-can t.script t.journal step is)))))
