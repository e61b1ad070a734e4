-- An admission that a journal asks for, made or refused.
use Rattle.std.proofs.Common.{arith, ◌≡◌, ◌≢◌, ◌⊎◌, inl, inr, ℕ, zero, suc, ◌+◌, ◌-◌, ◌<◌, ◌≤◌, List, [], ◌∷◌, ◌++◌, append_assoc, length, length-append, take, drop, slice_get, Some, refl, ap, sym, ◌∙◌, subst, Bool, false}
use Rattle.std.specs.List.{All}
use Rattle.std.proofs.lemmas.Bool.{cases_order}
use Rattle.std.proofs.lemmas.List.{drop-append-le, take-append-le}
use Rattle.std.proofs.lemmas.List.Elements.{All-append, All-cons, All-head, All-nil, All-tail}
use Rattle.std.proofs.Math.Seq.{get_or-append_seam}
use Rattle.samoa_model.specs.declared.record.Ext.{Ext}
use Rattle.samoa_model.specs.declared.record.Step.{Step}
use Rattle.samoa_model.specs.declared.script.Script.{Script}
use Rattle.samoa_model.specs.Cells.{cells_of}
use Rattle.samoa_serial.specs.Lists.{Each}
use Rattle.samoa_serial.specs.Ticks.{admitted, admitted_by, most_admitted}
use Rattle.samoa_serial.proofs.LimitLaws.{admitted_by-few, admitted_by-ticks, admitted_to-is}
use Rattle.samoa_invariant.specs.Play.{Play}
use Rattle.samoa_invariant.specs.State as model
use Rattle.samoa_invariant.specs.State.{AllEnded, Core}
use Rattle.samoa_invariant.specs.Runs.{CanMake, IsDue, IsRun, Trace, after_step, ext_at, no_ext, play, play_of, state, with_ext}
use Rattle.samoa_invariant.proofs.preservation.Slots.{put-else}
use Rattle.samoa_invariant.proofs.representation.Extended.{made-same}
use Rattle.samoa_invariant.proofs.representation.Traces.{is_run-with_ext, is_run-with_step, state-ext, state-step}
use Rattle.samoa_control.specs.Admission as core
use Rattle.samoa_control.specs.Since.{cleared_comps}
use Rattle.samoa_control.specs.Turns.{Going}
use Rattle.samoa_journal.specs.Finished.{IsFirstOfTick, most_cells}
use Rattle.samoa_ledger.specs.Gathering.{HasGathered}
use Rattle.samoa_ledger.specs.Written.{AreTotals, later_text}
use Rattle.samoa_replay.specs.declared.course.Course.{Course}
use Rattle.samoa_replay.specs.Following.{AreOut, EndsWith, HasMade, IsOnCourse, IsOver, IsReady, IsRefused, past_of, rest_of}
use Rattle.samoa_replay.specs.Steady.{IsSteady, steady, swept, whole_play}
use Rattle.samoa_replay.proofs.Histories.{LaterTicks, after_tick}
use Rattle.samoa_replay.proofs.Making.{Begun, begun, counted-most, ext-same, stood, whole-is}
use Rattle.samoa_replay.proofs.Out.{out-ext, out-other}
use Rattle.samoa_ledger.proofs.Histories.{past_is}
use Rattle.samoa_replay.proofs.Steady.{OpensAt, is_steady-can, is_steady-next, is_steady-opens, steady-next}

-- plain more than the limit are admitted
few_admitted : (script : Script) → length (admitted script) ≤ 100000
few_admitted script = omega (arith, admitted_by-few most_admitted script script.ticks, ap (λ (xs : List Ext). length xs) (admitted_to-is most_admitted script))

-- one admission after these, and the rest
one_more : (exts rest : List Ext) (ext : Ext) → exts ++ (ext ∷ rest) ≡ (exts ++ ext ∷ []) ++ rest
one_more exts rest ext = sym (append_assoc exts (ext ∷ []) rest)

first_is : (rest : List Ext) (ext : Ext) → slice_get rest 0 ≡ Some ext → (later : List Ext) × (rest ≡ ext ∷ later)
first_is [] ext is = absurd (cc is)
first_is (x ∷ xs) ext is = (xs, ap (λ (y : Ext). y ∷ xs) (same x ext is))
  where
    same : (x y : Ext) → Some x ≡ Some y → x ≡ y
    same x y e = cc e

drop_one : (n : ℕ) (xs : List Ext) (x : Ext) (later : List Ext) → drop n xs ≡ x ∷ later → drop (n + 1) xs ≡ later
drop_one zero [] x later is = absurd (cc is)
drop_one zero (y ∷ ys) x later is = cc is
drop_one (suc n) [] x later is = absurd (cc is)
drop_one (suc n) (y ∷ ys) x later is =
    let same : suc n + 1 ≡ suc (n + 1) = omega arith in
    ap (λ (k : ℕ). drop k (y ∷ ys)) same ∙ drop_one n ys x later is

-- ---- an admission that is due
module _ (t : Trace) (course : Course) (turns : List Going) (r : IsReady t course turns) (run : IsRun t) (counted : (state t).count ≡ length t.exts)
    (ext : Ext) (there : slice_get (rest_of course) 0 ≡ Some ext) where
  abbrev script : Script
  script = t.script

  on : IsOnCourse script t course
  on = r.follows.on_course

  rest : (later : List Ext) × (rest_of course ≡ ext ∷ later)
  rest = first_is (rest_of course) ext there

  b : Begun script t.exts (rest_of course)
  b = begun script t course on

  whole : admitted script ≡ t.exts ++ ext ∷ (rest.0 ++ b.later)
  whole = b.is ∙ ap (λ (xs : List Ext). t.exts ++ (xs ++ b.later)) rest.1

  pub room : length t.exts < length (admitted script)
  room = omega (arith, ap (λ (xs : List Ext). length xs) whole, length-append t.exts (ext ∷ (rest.0 ++ b.later)))

  pub few : length t.exts < 100000
  few = omega (arith, room, few_admitted script)

  here : ext_at (admitted script) (state t).count ≡ ext
  here =
      ap (λ (xs : List Ext). ext_at xs (state t).count) whole
      ∙ (ap (λ (k : ℕ). ext_at (t.exts ++ ext ∷ (rest.0 ++ b.later)) k) counted ∙ get_or-append_seam t.exts ext (rest.0 ++ b.later) no_ext)

  of_tick : ext.tick ≡ course.tick
  of_tick = All-head (λ (x : Ext). x.tick ≡ course.tick) ext rest.0 (subst (λ (xs : List Ext). All (λ (x : Ext). x.tick ≡ course.tick) xs) rest.1 on.left.of_tick)

  -- it opens a tick only where all have ended
  opens : (comp : ℕ) → comp ≡ length t.exts + 1 → OpensAt script t.journal (Step.Admit comp)
  opens comp number other admits first = all_of (same comp other admits)
    where
      same : (a c : ℕ) → Step.Admit a ≡ Step.Admit c → a ≡ c
      same a c e = cc e

      ended : AllEnded (state t) → AllEnded (steady script t.journal)
      ended all = subst AllEnded (stood t course turns r) all

      not_first : EndsWith t.exts course.tick → comp ≡ other → IsFirstOfTick (admitted script) other → ⊥
      not_first ends is (inl one) = omega (arith, one, is, number, ends.some)
      not_first ends is (inr apart) =
          let last : other - 2 ≡ length t.exts - 1 = omega (arith, is, number) in
          let now : other - 1 ≡ (state t).count = omega (arith, is, number, counted) in
          apart (ap (λ (k : ℕ). (ext_at (admitted script) k).tick) last
          ∙ (ap (λ (x : Ext). x.tick) (sym (ext-same script t.exts (rest_of course) b (length t.exts - 1) (omega (arith, ends.some))))
          ∙ (ends.last ∙ (sym of_tick ∙ sym (ap (λ (k : ℕ). (ext_at (admitted script) k).tick) now ∙ ap (λ (x : Ext). x.tick) here)))))

      all_of : comp ≡ other → AllEnded (steady script t.journal)
      all_of is = go (cases_order course.next 0)
        where
          go : (course.next ≡ 0) ⊎ ((course.next < 0) ⊎ (0 < course.next)) → AllEnded (steady script t.journal)
          go (inl none) = ended (r.follows.fresh none)
          go (inr (inl below)) = absurd (omega (arith, below))
          go (inr (inr some)) = absurd (not_first (on.last some) is first)

  can : (comp : ℕ) → comp ≡ length t.exts + 1 → (state t).cells + cells_of script ext ≤ t.cells → CanMake (whole_play script) (steady script t.journal) (Step.Admit comp)
  can comp number fits =
      subst (λ (c : Core). CanMake (whole_play script) c (Step.Admit comp)) (stood t course turns r)
      (subst (λ (Q : Play). CanMake Q (state t) (Step.Admit comp)) (sym (whole-is script)) (record {
        number = omega (arith, number, counted);
        enabled = record {
          room = omega (arith, room, few_admitted script, counted);
          cells = subst (λ (x : Ext). (state t).cells + cells_of script x ≤ most_cells) (sym here) (omega (arith, fits, r.follows.most));
        };
      }))

  u : Trace
  u = core.admitted t ext

  state-u : state (core.admitted t ext) ≡ model.admit (play (with_ext t ext)) (state t)
  state-u =
      state-step (with_ext t ext) (Step.Admit (length t.exts + 1)) (is_run-with_ext t ext run)
      ∙ ap (λ (c : Core). model.admit (play (with_ext t ext)) c) (state-ext t ext run)

  after : (comp : ℕ) → after_step (play (with_ext t ext)) (state t) (Step.Admit comp) ≡ after_step (whole_play script) (steady script t.journal) (Step.Admit comp)
  after comp =
      let same : ext_at (t.exts ++ ext ∷ []) (state t).count ≡ ext_at (admitted script) (state t).count =
      ap (λ (k : ℕ). ext_at (t.exts ++ ext ∷ []) k) counted ∙ (get_or-append_seam t.exts ext [] no_ext ∙ sym here) in
      ap (λ (n : ℕ). model.admit (play_of script n (t.exts ++ ext ∷ [])) (state t)) r.follows.most
      ∙ (made-same script most_cells (t.exts ++ ext ∷ []) (admitted script) (state t) model.Step.Admit same
      ∙ (ap (λ (Q : Play). model.admit Q (state t)) (sym (whole-is script)) ∙ ap (λ (c : Core). model.admit (whole_play script) c) (stood t course turns r)))

  due-ext : (comp : ℕ) → comp ≡ length t.exts + 1 → (state t).cells + cells_of script ext ≤ t.cells → IsDue (with_ext t ext) (Step.Admit comp)
  due-ext comp number fits =
      subst (λ (c : Core). CanMake (play (with_ext t ext)) c (Step.Admit comp)) (sym (state-ext t ext run)) (record {
        number = omega (arith, number, counted);
        enabled = record {
          room = omega (arith, few, counted, length-append t.exts (ext ∷ []));
          cells = subst (λ (x : Ext). (state t).cells + cells_of script x ≤ t.cells)
              (sym (ap (λ (k : ℕ). ext_at (t.exts ++ ext ∷ []) k) counted ∙ get_or-append_seam t.exts ext [] no_ext)) fits;
        };
      })

  out-u : (state t).cells + cells_of script ext ≤ t.cells → AreOut (core.admitted t ext) turns
  out-u fits =
      let step : Step = Step.Admit (length t.exts + 1) in
      let due = due-ext (length t.exts + 1) refl fits in
      let run-ext = is_run-with_ext t ext run in
      out-other (with_ext t ext) step turns run-ext (is_run-with_step (with_ext t ext) step run-ext due) due (λ k. ((λ x. x), λ e. e))
      (out-ext t ext turns run (omega (arith, counted)) r.follows.out)

  -- the course with one more admitted
  pub record IsNext (old new : Course) : Type 0 where
    pub totals : new.totals ≡ old.totals
    pub net : new.net ≡ old.net
    pub tick : new.tick ≡ old.tick
    pub batch : new.batch.items ≡ old.batch.items
    pub next : new.next ≡ old.next + 1
    pub limited : new.limited ≡ old.limited
    pub text : new.text.items ≡ old.text.items

  past_same : take course.totals.comps (t.exts ++ ext ∷ []) ≡ past_of t course
  past_same = take-append-le course.totals.comps t.exts (ext ∷ []) (counted-most script t course on)

  last_is : EndsWith (t.exts ++ ext ∷ []) course.tick
  last_is =
      let size : length (t.exts ++ ext ∷ []) ≡ length t.exts + 1 = length-append t.exts (ext ∷ []) in
      let at : length (t.exts ++ ext ∷ []) - 1 ≡ length t.exts = omega (arith, size) in
      record {
        some = omega (arith, size);
        last = ap (λ (k : ℕ). (ext_at (t.exts ++ ext ∷ []) k).tick) at ∙ (ap (λ (x : Ext). x.tick) (get_or-append_seam t.exts ext [] no_ext) ∙ of_tick);
      }

  module _ (fits : (state t).cells + cells_of script ext ≤ t.cells) (more : course.next < length course.batch.items) (cleared : cleared_comps (core.admitted t ext) ≡ cleared_comps t) where
    -- over the same totals and the like
    on_course : (next : ℕ) (v : Course) → v ≡ record course { next = next } → next ≡ course.next + 1 → IsOnCourse script (core.admitted t ext) v
    on_course next v is number = subst (λ (w : Course). IsOnCourse script (core.admitted t ext) w) (sym is) (record {
      of_script = refl;
      counted = subst (λ (xs : List Ext). AreTotals script xs course.totals) (sym past_same) on.counted;
      gathered = subst (λ (xs : List Ext). HasGathered script xs course.net) (sym past_same) on.gathered;
      cleared = omega (arith, cleared, on.cleared);
      past = λ k less.
          ap (λ (c : Core). c.ended k) state-u
          ∙ (put-else {A = Bool} (state t).ended (state t).count k false (λ same. omega (arith, same, less, counted-most script t course on, counted)) ∙ on.past k less);
      since = subst (λ (xs : List Ext). All (λ (x : Ext). x.tick ≡ course.tick) xs) (sym (drop-append-le course.totals.comps t.exts (ext ∷ []) (counted-most script t course on)))
          (All-append (λ (x : Ext). x.tick ≡ course.tick) (drop course.totals.comps t.exts) (ext ∷ []) on.since
          (All-cons (λ (x : Ext). x.tick ≡ course.tick) ext [] of_tick (All-nil (λ (x : Ext). x.tick ≡ course.tick))));
      tick = on.tick;
      left = record {
        adds = on.left.adds ∙ (ap (λ (xs : List Ext). t.exts ++ xs) rest.1 ∙ (one_more t.exts rest.0 ext ∙ ap (λ (xs : List Ext). (t.exts ++ ext ∷ []) ++ xs) (sym later_is)));
        of_tick = subst (λ (xs : List Ext). All (λ (x : Ext). x.tick ≡ course.tick) xs) (sym later_is)
            (All-tail (λ (x : Ext). x.tick ≡ course.tick) ext rest.0 (subst (λ (xs : List Ext). All (λ (x : Ext). x.tick ≡ course.tick) xs) rest.1 on.left.of_tick));
      };
      within = omega (arith, number, more);
      last = λ some. last_is;
      limited = on.limited;
      text = on.text ∙ ap (later_text script false []) (sym past_same);
    })
      where
        later_is : drop next course.batch.items ≡ rest.0
        later_is = ap (λ (n : ℕ). drop n course.batch.items) number ∙ drop_one course.next course.batch.items ext rest.0 rest.1

    pub admit_made : (comp next : ℕ) (v : Trace) (w : Course) → comp ≡ length t.exts + 1 → v ≡ core.admitted t ext → w ≡ record course { next = next } → next ≡ course.next + 1
        → HasMade (Step.Admit comp) t v w turns
    admit_made comp next v w number is same one = subst (λ (x : Trace). HasMade (Step.Admit comp) t x w turns) (sym is) (record {
      of_script = refl;
      journal = journal;
      follows = record {
        most = r.follows.most;
        on_course = on_course next w same one;
        is_steady = subst (λ (steps : List Step). IsSteady script steps) (sym journal)
            (is_steady-next script t.journal (Step.Admit comp) r.follows.is_steady (can comp number fits) (opens comp number));
        stands = ap swept (state-u ∙ after comp) ∙ (sym (steady-next script t.journal (Step.Admit comp)) ∙ ap (λ (steps : List Step). steady script steps) (sym journal));
        fresh = λ none. absurd (omega (arith, none, one, ap (λ (c : Course). c.next) same));
        out = out-u fits;
      };
    })
      where
        journal : t.journal ++ Step.Admit (length t.exts + 1) ∷ [] ≡ t.journal ++ Step.Admit comp ∷ []
        journal = ap (λ (n : ℕ). t.journal ++ Step.Admit n ∷ []) (sym number)

    pub admit_out : AreOut (core.admitted t ext) turns
    admit_out = out-u fits

  -- it doesn't fit
  pub wide_refused : (comp : ℕ) → ((state t).cells + cells_of script ext ≤ t.cells → ⊥) → IsRefused t (Step.Admit comp)
  wide_refused comp wide is =
      let c = subst (λ (Q : Play). CanMake Q (state t) (Step.Admit comp)) (whole-is script)
      (subst (λ (x : Core). CanMake (whole_play script) x (Step.Admit comp)) (sym (stood t course turns r)) (is_steady-can script t.journal (Step.Admit comp) is)) in
      wide (omega (arith, r.follows.most, subst (λ (x : Ext). (state t).cells + cells_of script x ≤ most_cells) here c.enabled.cells))

-- ---- one that isn't
module _ (t : Trace) (course : Course) (turns : List Going) (r : IsReady t course turns) (counted : (state t).count ≡ length t.exts) where
  asked : (comp : ℕ) → IsSteady t.script (t.journal ++ Step.Admit comp ∷ []) → CanMake (play_of t.script most_cells (admitted t.script)) (state t) (Step.Admit comp)
  asked comp is =
      subst (λ (Q : Play). CanMake Q (state t) (Step.Admit comp)) (whole-is t.script)
      (subst (λ (x : Core). CanMake (whole_play t.script) x (Step.Admit comp)) (sym (stood t course turns r)) (is_steady-can t.script t.journal (Step.Admit comp) is))

  -- it has another number
  pub number_refused : (comp : ℕ) → comp ≢ length t.exts + 1 → IsRefused t (Step.Admit comp)
  number_refused comp other is = other (omega (arith, (asked comp is).number, counted))

  -- nothing is left of the tick, and not all have ended
  pub none_refused : (comp : ℕ) → rest_of course ≡ [] → (IsOver t course → ⊥) → IsRefused t (Step.Admit comp)
  none_refused comp none going is =
      going (record { all = subst AllEnded (sym (stood t course turns r)) (is_steady-opens t.script t.journal (Step.Admit comp) is comp refl first); none = none })
    where
      on : IsOnCourse t.script t course
      on = r.follows.on_course

      can : CanMake (play_of t.script most_cells (admitted t.script)) (state t) (Step.Admit comp)
      can = asked comp is

      number : comp ≡ length t.exts + 1
      number = omega (arith, can.number, counted)

      inside : length t.exts < length (admitted t.script)
      inside = omega (arith, can.enabled.room, counted)

      so_far : t.exts ≡ admitted_by most_admitted t.script course.tick
      so_far = past_is t.script t.exts course.tick (rest_of course) on.left none

      later : LaterTicks t.script course.tick (admitted t.script)
      later = after_tick t.script course.tick (omega (arith, on.gathered.within, on.tick))

      each_at : (P : Ext → Type 0) (xs : List Ext) → Each P xs → (i : ℕ) → i < length xs → P (ext_at xs i)
      each_at P [] all i less = absurd (omega (arith, less))
      each_at P (x ∷ xs) all zero less = all.0
      each_at P (x ∷ xs) all (suc i) less = each_at P xs all.1 i (omega (arith, less))

      is_whole : admitted t.script ≡ t.exts ++ later.rest
      is_whole = later.is ∙ ap (λ (xs : List Ext). xs ++ later.rest) (sym so_far)

      next_later : course.tick < (ext_at (admitted t.script) (length t.exts)).tick
      next_later = go later.rest later.later is_whole
        where
          go : (xs : List Ext) → Each (λ (x : Ext). course.tick < x.tick) xs → admitted t.script ≡ t.exts ++ xs → course.tick < (ext_at (admitted t.script) (length t.exts)).tick
          go [] each e = absurd (omega (arith, inside, ap (λ (ys : List Ext). length ys) e, length-append t.exts []))
          go (x ∷ xs) each e =
              subst (λ (y : Ext). course.tick < y.tick) (sym (ap (λ (ys : List Ext). ext_at ys (length t.exts)) e ∙ get_or-append_seam t.exts x xs no_ext)) each.0

      last_earlier : 0 < length t.exts → (ext_at (admitted t.script) (length t.exts - 1)).tick ≤ course.tick
      last_earlier some =
          let same = ext-same t.script t.exts (rest_of course) (begun t.script t course on) (length t.exts - 1) (omega (arith, some)) in
          subst (λ (x : Ext). x.tick ≤ course.tick) same
          (each_at (λ (x : Ext). x.tick ≤ course.tick) t.exts
          (subst (λ (xs : List Ext). Each (λ (x : Ext). x.tick ≤ course.tick) xs) (sym so_far) (admitted_by-ticks most_admitted t.script course.tick))
          (length t.exts - 1) (omega (arith, some)))

      first : IsFirstOfTick (admitted t.script) comp
      first = go (cases_order (length t.exts) 0)
        where
          go : (length t.exts ≡ 0) ⊎ ((length t.exts < 0) ⊎ (0 < length t.exts)) → IsFirstOfTick (admitted t.script) comp
          go (inl zero_yet) = inl (omega (arith, number, zero_yet))
          go (inr (inl below)) = absurd (omega (arith, below))
          go (inr (inr some)) =
              let last : comp - 2 ≡ length t.exts - 1 = omega (arith, number) in
              let now : comp - 1 ≡ length t.exts = omega (arith, number) in
              inr (λ same. omega (
                arith,
                last_earlier some,
                next_later,
                sym (ap (λ (k : ℕ). (ext_at (admitted t.script) k).tick) last) ∙ (same ∙ ap (λ (k : ℕ). (ext_at (admitted t.script) k).tick) now),
              ))
