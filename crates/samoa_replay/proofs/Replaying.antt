-- Lines of a journal: what is known before the first, after each, and at the end.
use Rattle.std.proofs.Common.{arith, ◌≡◌, ◌⊎◌, ℕ, zero, suc, ◌+◌, ◌<◌, ◌≤◌, List, [], ◌∷◌, ◌++◌, length, length-append, take, refl, ap, sym, ◌∙◌, subst, Bool, true, false, if◌then◌else◌, nat_lt}
use Rattle.std.specs.Prelude.{slice_index_or}
use Rattle.std.specs.List.{remove}
use Rattle.std.proofs.lemmas.Bool.{false≢true}
use Rattle.std.proofs.lemmas.List.Elements.{All-nil}
use Rattle.samoa_model.specs.declared.record.Ext.{Ext}
use Rattle.samoa_model.specs.declared.record.Step.{Step}
use Rattle.samoa_model.specs.declared.script.Script.{Script}
use Rattle.samoa_serial.specs.LimitedReport.{report_in_full}
use Rattle.samoa_serial.specs.Ticks.{admitted}
use Rattle.samoa_invariant.specs.State.{AllEnded, Core, NothingOut}
use Rattle.samoa_invariant.specs.Runs.{IsRun, Trace, cleared, opening_trace, play, state, with_clear, with_step}
use Rattle.samoa_invariant.proofs.refinement.Ends.{all_home}
use Rattle.samoa_invariant.proofs.representation.Traces.{invariant, is_run-with_step, state-clear}
use Rattle.samoa_control.specs.Turns.{Going, IsAway}
use Rattle.samoa_journal.specs.Finished.{IsComplete, IsFinished, most_cells}
use Rattle.samoa_ledger.specs.Written.{closing_text, later_text}
use Rattle.samoa_ledger.proofs.Closing.{report-whole}
use Rattle.samoa_replay.specs.declared.course.Course.{Course}
use Rattle.samoa_replay.specs.declared.fault.ReplayFault.{ReplayFault}
use Rattle.samoa_replay.specs.declared.fault.ReplayFault.TheVariants.{Memory, NotEnabled, Trailing, Unfinished}
use Rattle.samoa_replay.specs.Begun.{IsBegun}
use Rattle.samoa_replay.specs.Faults.{IsFaultOf, IsLeastUnended, IsUnfinished}
use Rattle.samoa_replay.specs.Following.{AreOut, Follows, IsOnCourse, IsOver, IsReady, IsRefused, past_of, rest_of}
use Rattle.samoa_replay.specs.Lines.{IsFaultAfter, IsWrongAfter}
use Rattle.samoa_replay.specs.Steady.{IsSteady, steady, swept, whole_play}
use Rattle.samoa_replay.proofs.Making.{begun, stood}
use Rattle.samoa_replay.proofs.Out.{away-due, out-abandoned, out-empty, out-none}
use Rattle.samoa_replay.proofs.Standing.{IsAtEnd, at_end, written_all}
use Rattle.samoa_replay.proofs.Steady.{begun-of, begun-state, finished-of, is_steady-none, of-finished, steady-of, swept_is-cleared, swept_is-same}

-- ---- before the first line
opening_stands : (script : Script) → swept (state (opening_trace script most_cells)) ≡ steady script []
unfolding steady whole_play
opening_stands script = refl

pub ready_first : (script : Script) (t : Trace) (course : Course) → t ≡ opening_trace script most_cells → IsOnCourse script t course → course.totals.comps ≡ length t.exts
    → (course.next < length course.batch.items) ⊎ ((course.limited ≡ true) ⊎ (script.ticks ≤ course.tick)) → IsReady t course []
ready_first script t course is on written more =
    subst (λ (u : Trace). IsReady u course []) (sym is)
    (opened (subst (λ (u : Trace). IsOnCourse script u course) is on) (written ∙ ap (λ (u : Trace). length u.exts) is))
  where
    t0 : Trace
    t0 = opening_trace script most_cells

    nobody : AllEnded (state t0)
    nobody k less = absurd (omega (arith, less))

    opened : IsOnCourse script t0 course → course.totals.comps ≡ 0 → IsReady t0 course []
    opened on0 none = record {
      follows = record {
        most = refl;
        on_course = on0;
        is_steady = is_steady-none script;
        stands = opening_stands script;
        fresh = λ e. nobody;
        out = record {
          away = All-nil (IsAway t0);
          apart = λ i j d less within. absurd (omega (arith, within));
          whole = λ comp due others. absurd (omega (arith, due.enabled.out.admitted));
        };
      };
      filled = λ all. record { written = none; none_held = refl; more = more };
    }

-- ---- where all have ended, their part is written and the core is cleared
pub ready_closed : (t u : Trace) (old new : Course) (turns : List Going) → Follows t old turns → IsRun t → IsRun u → AllEnded (state t)
    → u ≡ (if nat_lt 0 (state t).cells then with_clear t else t) → (state u).cells ≡ 0 → IsOnCourse t.script u new → new.totals.comps ≡ length u.exts
    → (new.next < length new.batch.items) ⊎ ((new.limited ≡ true) ⊎ (t.script.ticks ≤ new.tick)) → IsReady u new turns
ready_closed t u old new turns f run later all is none_held on written more = record {
  follows = record {
    most = same_cells ∙ f.most;
    on_course = subst (λ (s : Script). IsOnCourse s u new) (sym same_script) on;
    is_steady = subst (λ (v : Script × List Step). IsSteady v.0 v.1) (λ i. (sym same_script i, sym same_journal i)) f.is_steady;
    stands = stands;
    fresh = λ e. ended;
    out = out-empty u turns later ended (out-none t turns run all f.out);
  };
  filled = λ e. record { written = written; none_held = none_held; more = subst (λ (s : Script). (new.next < length new.batch.items) ⊎ ((new.limited ≡ true) ⊎ (s.ticks ≤ new.tick))) (sym same_script) more };
}
  where
    script_of : (b : Bool) → (if b then with_clear t else t).script ≡ t.script
    script_of true = refl
    script_of false = refl

    cells_of : (b : Bool) → (if b then with_clear t else t).cells ≡ t.cells
    cells_of true = refl
    cells_of false = refl

    journal_of : (b : Bool) → (if b then with_clear t else t).journal ≡ t.journal
    journal_of true = refl
    journal_of false = refl

    same_script : u.script ≡ t.script
    same_script = ap (λ (x : Trace). x.script) is ∙ script_of (nat_lt 0 (state t).cells)

    same_cells : u.cells ≡ t.cells
    same_cells = ap (λ (x : Trace). x.cells) is ∙ cells_of (nat_lt 0 (state t).cells)

    same_journal : u.journal ≡ t.journal
    same_journal = ap (λ (x : Trace). x.journal) is ∙ journal_of (nat_lt 0 (state t).cells)

    cleared_of : (b : Bool) → (state (if b then with_clear t else t)).cells ≡ 0 → state (if b then with_clear t else t) ≡ cleared (state t)
    cleared_of true none = state-clear t
    cleared_of false none = ap (λ (n : ℕ). record (state t) { cells = n }) none

    at : state u ≡ swept (state t)
    at =
        ap (λ (x : Trace). state x) is
        ∙ (cleared_of (nat_lt 0 (state t).cells) (ap (λ (x : Trace). (state x).cells) (sym is) ∙ none_held) ∙ sym (swept_is-cleared (state t) all))

    ended : AllEnded (state u)
    ended = subst AllEnded (sym (at ∙ swept_is-cleared (state t) all)) all

    stands : swept (state u) ≡ steady u.script u.journal
    stands =
        swept_is-same (state u) (λ e. none_held)
        ∙ (at ∙ (f.stands ∙ (ap (λ (s : Script). steady s t.journal) (sym same_script) ∙ ap (λ (js : List Step). steady u.script js) (sym same_journal))))

pub ready_closed_of : (script : Script) (t u : Trace) (old new : Course) (turns : List Going) → t.script ≡ script → Follows t old turns → IsRun t → IsRun u → AllEnded (state t)
    → u ≡ (if nat_lt 0 (state t).cells then with_clear t else t) → (state u).cells ≡ 0 → IsOnCourse script u new → new.totals.comps ≡ length u.exts
    → (new.next < length new.batch.items) ⊎ ((new.limited ≡ true) ⊎ (script.ticks ≤ new.tick)) → IsReady u new turns
ready_closed_of script t u old new turns same f run later all is none_held on written more =
    ready_closed t u old new turns f run later all is none_held (subst (λ (s : Script). IsOnCourse s u new) (sym same) on) written
    (subst (λ (s : Script). (new.next < length new.batch.items) ⊎ ((new.limited ≡ true) ⊎ (s.ticks ≤ new.tick))) (sym same) more)

pub closed_out : (t u : Trace) (turns : List Going) → IsRun t → IsRun u → AllEnded (state t) → u ≡ (if nat_lt 0 (state t).cells then with_clear t else t) → AreOut t turns → AreOut u turns
closed_out t u turns run later all is o = out-empty u turns later (subst (λ (x : Trace). AllEnded (state x)) (sym is) (go (nat_lt 0 (state t).cells))) (out-none t turns run all o)
  where
    go : (b : Bool) → AllEnded (state (if b then with_clear t else t))
    go true = subst AllEnded (sym (state-clear t)) all
    go false = all

-- ---- the end
module _ (t : Trace) (course : Course) (turns : List Going) (r : IsReady t course turns) (counted : (state t).count ≡ length t.exts) where
  abbrev script : Script
  script = t.script

  pub end_of : IsOver t course → IsAtEnd script t course
  end_of over = at_end script t course r.follows.on_course over.none (r.filled over.all).more

  pub over_finished : IsOver t course → IsFinished script t.journal
  over_finished over =
      finished-of script t.journal r.follows.is_steady
      (ap (λ (c : Core). c.count) (sym (stood t course turns r)) ∙ (counted ∙ ap (λ (xs : List Ext). length xs) (end_of over).all))
      (subst AllEnded (stood t course turns r) over.all)

  none_left : (xs ys : List Ext) → length (xs ++ ys) ≡ 0 → xs ≡ []
  none_left [] ys e = refl
  none_left (x ∷ xs) ys e = absurd (omega (arith, e))

  pub finished_over : IsFinished script t.journal → IsOver t course
  finished_over f =
      let w = of-finished script t.journal f in
      let b = begun script t course r.follows.on_course in
      let size : length t.exts ≡ length (admitted script) = sym counted ∙ (ap (λ (c : Core). c.count) (stood t course turns r) ∙ w.count) in
      record {
        all = subst AllEnded (sym (stood t course turns r)) w.ended;
        none = none_left (rest_of course) b.later
            (omega (arith, size, ap (λ (xs : List Ext). length xs) b.is, length-append t.exts (rest_of course ++ b.later)));
      }

  pub begun_now : IsBegun script t.journal
  begun_now = begun-of script t.journal r.follows.is_steady

  pub wrong_after : (step : Step) → (IsOver t course → ⊥) → IsRefused t step → IsWrongAfter script t.journal step
  wrong_after step going refused = record {
    begun = begun_now;
    unfinished = λ f. going (finished_over f);
    wrong = λ b. refused (steady-of script (t.journal ++ step ∷ []) b);
  }

  pub over_complete : IsOver t course → course.limited ≡ false → IsComplete script t.journal
  over_complete over free = record { finished = over_finished over; unlimited = sym (end_of over).limited ∙ free }

  pub over_text : IsOver t course → course.limited ≡ false → course.text.items ++ closing_text script t.exts ≡ report_in_full script false
  over_text over free =
      let end = end_of over in
      let past : past_of t course ≡ admitted script = written_all t course (r.filled over.all).written ∙ end.all in
      ap (λ (text : List ℕ). text ++ closing_text script t.exts) (r.follows.on_course.text ∙ ap (later_text script false []) past)
      ∙ (ap (λ (xs : List Ext). later_text script false [] (admitted script) ++ closing_text script xs) end.all
      ∙ sym (report-whole script false (sym free ∙ end.limited)))

  pub unfinished : (comp : ℕ) → (IsOver t course → course.limited ≡ true) → IsLeastUnended (state t) comp → IsUnfinished script t.journal comp
  unfinished comp why least = record {
    begun = begun_now;
    incomplete = λ c.
        let over : IsOver t course = finished_over c.finished in
        false≢true (sym c.unlimited ∙ (sym (end_of over).limited ∙ why over));
    least = subst (λ (c : Core). IsLeastUnended c comp) (stood t course turns r ∙ sym (begun-state script t.journal begun_now)) least;
  }

pub home_of : (t : Trace) → IsRun t → AllEnded (state t) → NothingOut (state t)
home_of t run all = all_home (play t) (state t) (invariant t run) all

-- ---- a fault of a line is one of the journal

pub fault_of : (script : Script) (steps : List Step) (n line : ℕ) (step : Step) (fault : ReplayFault) → n < length steps → line ≡ n + 1 → take n steps ++ step ∷ [] ≡ take (n + 1) steps
    → IsFaultAfter script (take n steps) step line fault → IsFaultOf script steps fault
fault_of script steps n line step (NotEnabled at) less number more w = record {
  before = n;
  counted = w.0 ∙ number;
  within = omega (arith, less, w.0, number);
  begun = w.1.begun;
  unfinished = w.1.unfinished;
  wrong = λ b. w.1.wrong (subst (λ (xs : List Step). IsBegun script xs) (ap (λ (k : ℕ). take k steps) (w.0 ∙ number) ∙ sym more) b);
}
fault_of script steps n line step (Unfinished comp) less number more w = absurd w
fault_of script steps n line step (Trailing at) less number more w = record { before = n; counted = w.0 ∙ number; within = omega (arith, less, w.0, number); finished = w.1 }
fault_of script steps n line step Memory less number more w = tt

pub fault_by : (script : Script) (steps : List Step) (n line : ℕ) (step : Step) (fault : ReplayFault) (journal : List Step) → n < length steps → line ≡ n + 1 → journal ≡ take n steps
    → IsFaultAfter script journal step line fault → take n steps ++ step ∷ [] ≡ take (n + 1) steps → IsFaultOf script steps fault
fault_by script steps n line step fault journal less number is w more =
    fault_of script steps n line step fault less number more (subst (λ (js : List Step). IsFaultAfter script js step line fault) is w)

pub take_next : (n : ℕ) (steps : List Step) (d : Step) → n < length steps → take n steps ++ slice_index_or steps n d ∷ [] ≡ take (n + 1) steps
take_next n [] d less = absurd (omega (arith, less))
take_next zero (s ∷ steps) d less = refl
take_next (suc n) (s ∷ steps) d less =
    let same : suc n + 1 ≡ suc (n + 1) = omega arith in
    ap (λ (xs : List Step). s ∷ xs) (take_next n steps d (omega (arith, less))) ∙ ap (λ (k : ℕ). take k (s ∷ steps)) (sym same)

-- ---- giving back
last_of : (gs : List Going) (g d : Going) → (slice_index_or (gs ++ g ∷ []) (length gs) d ≡ g) × (remove (gs ++ g ∷ []) (length gs) ≡ gs)
last_of [] g d = (refl, refl)
last_of (x ∷ gs) g d = let r = last_of gs g d in (r.0, ap (λ (xs : List Going). x ∷ xs) r.1)

module _ (t : Trace) (gs : List Going) (g : Going) (turns : List Going) (run : IsRun t) (is : turns ≡ gs ++ g ∷ []) (o : AreOut t turns) where
  o2 : AreOut t (gs ++ g ∷ [])
  o2 = subst (λ (xs : List Going). AreOut t xs) is o

  less : length gs < length (gs ++ g ∷ [])
  less = omega (arith, length-append gs (g ∷ []))

  pub popped_away : IsAway t g
  popped_away = subst (λ (h : Going). IsAway t h) (last_of gs g g).0 (o2.away (length gs) g less)

  pub popped_out : (u : Trace) → u ≡ with_step t (Step.Abandon g.comp) → AreOut u gs
  popped_out u made =
      let due = (away-due t g run popped_away).1 in
      subst (λ (v : Trace). AreOut v gs) (sym made)
      (subst (λ (xs : List Going). AreOut (with_step t (Step.Abandon g.comp)) xs) (last_of gs g g).1
      (out-abandoned t (gs ++ g ∷ []) (length gs) g.comp g run less (ap (λ (h : Going). h.comp) (last_of gs g g).0) o2 (is_run-with_step t (Step.Abandon g.comp) run due) due))
