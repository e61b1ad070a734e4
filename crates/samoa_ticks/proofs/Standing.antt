-- How far a report is written: at first, and with a tick more.
use Rattle.std.proofs.Common.{◌≡◌, refl, sym, ap, subst, ◌∙◌, arith, ℕ, ◌⊎◌, inl, inr, ◌+◌, ◌-◌, ◌<◌, ◌≤◌, Bool, true, false, min, filter, if◌then◌else◌, List, [], ◌++◌, append_assoc, length, length-drop, take, take-append-drop, drop, nat_lt}
use Rattle.std.specs.List.{All}
use Rattle.std.proofs.Math.Seq.{drop-drop}
use Rattle.std.proofs.lemmas.Bool.{cases_order, false≢true}
use Rattle.std.proofs.lemmas.List.{take_min}
use Rattle.std.proofs.lemmas.List.Elements.{All-drop, All-nil}
use Rattle.samoa_model.specs.declared.record.Ext.{Ext}
use Rattle.samoa_model.specs.declared.script.Script.{Script}
use Rattle.samoa_model.specs.Cells.{need}
use Rattle.samoa_serial.specs.Batch.{is_up}
use Rattle.samoa_serial.specs.Lists.{Each}
use Rattle.samoa_serial.specs.History.{batch}
use Rattle.samoa_serial.specs.Ticks.{admitted, admitted_by, is_limited, is_limited_by, most_admitted}
use Rattle.samoa_serial.proofs.LimitLaws.{admitted_by-none, is_limited_by-none}
use Rattle.samoa_invariant.specs.Runs.{Trace, opening_trace, state, with_clear}
use Rattle.samoa_control.specs.Since.{cleared_comps}
use Rattle.samoa_net.specs.Gathered.{IsPlanFor}
use Rattle.samoa_journal.specs.Parts.{IsPacked}
use Rattle.samoa_journal.proofs.Parts.{packed_none}
use Rattle.samoa_ledger.specs.declared.totals.Totals.{Totals}
use Rattle.samoa_ledger.specs.Gathering.{HasGathered}
use Rattle.samoa_ledger.specs.Written.{AreTotals}
use Rattle.samoa_ledger.proofs.Gathering.{gathered_next}
use Rattle.samoa_ticks.specs.Running.{HasRun}
use Rattle.samoa_ledger.specs.Left.{IsLeft}
use Rattle.samoa_ticks.specs.Stands.{HasPartRun, Stands, rest_of}
use Rattle.samoa_ticks.specs.declared.report.Report.{Report}
use Rattle.samoa_ledger.proofs.Histories.{last_admits, last_limits, limit_admits, limit_limits, tick_part, tick_passes_if, past_is}
use Rattle.samoa_ticks.proofs.Packing.{packed_part, packed_tick}
use Rattle.samoa_ticks.proofs.RunOnce.{HasEnded, has_ended, has_run_more}

-- ---- at first
none_run : (script : Script) (cells : ℕ) (totals : Totals) → need script ≤ cells → AreTotals script [] totals → HasRun script [] (opening_trace script cells) totals
unfolding cleared_comps
none_run script cells totals room counted = record {
  of_script = refl;
  exts = refl;
  cleared = refl;
  all = λ k less. absurd (omega (arith, less));
  home = λ node p. refl;
  none_held = refl;
  room = room;
  counted = counted;
}

pub stands_first : (script : Script) (core : Trace) (report : Report) → core ≡ opening_trace script core.cells → need script ≤ core.cells → AreTotals script [] report.totals
    → HasGathered script [] report.net → report.batch.items ≡ [] → report.next ≡ 0 → report.tick ≡ 0 → report.net.tick ≡ 0 → report.limited ≡ false → Stands script core report
stands_first script core report is room counted gathered batch next tick net_tick free =
    subst (λ (t : Trace). Stands script t report) (sym is) (record {
      has_run = none_run script core.cells report.totals room counted;
      gathered = gathered;
      tick = net_tick ∙ sym tick;
      left = record {
        adds = ap (λ (n : ℕ). admitted_by most_admitted script n) tick ∙ (admitted_by-none most_admitted script ∙ sym none);
        of_tick = subst (λ (xs : List Ext). All (λ (ext : Ext). ext.tick ≡ report.tick) xs) (sym none) (All-nil (λ (ext : Ext). ext.tick ≡ report.tick));
      };
      within = omega (arith, next);
      limited = free ∙ (sym (is_limited_by-none most_admitted script) ∙ ap (λ (n : ℕ). is_limited_by most_admitted script n) (sym tick));
      packed = packed_none report.alone script core.cells (rest_of report);
    })
  where
    none : rest_of report ≡ []
    none = ap (λ (xs : List Ext). drop report.next xs) batch ∙ ap (λ (n : ℕ). drop {A = Ext} n []) next

-- ---- where nothing is left of a tick

-- ---- at the end
ended_early : (script : Script) (core : Trace) (report : Report) → Stands script core report → rest_of report ≡ [] → report.limited ≡ true → 0 < report.tick
    → (core.exts ≡ admitted script) × (report.limited ≡ is_limited script)
ended_early script core report stands none passed some =
    let before : ℕ = report.tick - 1 in
    let next : report.tick ≡ before + 1 = omega (arith, some) in
    let inside : before < script.ticks = omega (arith, next, stands.gathered.within, stands.tick) in
    let limited : is_limited_by most_admitted script (before + 1) ≡ true = ap (λ (n : ℕ). is_limited_by most_admitted script n) (sym next) ∙ (sym stands.limited ∙ passed) in (
      past_is script core.exts report.tick (rest_of report) stands.left none ∙ (ap (λ (n : ℕ). admitted_by most_admitted script n) next ∙ limit_admits script before inside limited),
      passed ∙ limit_limits script before inside limited,
    )

ended_last : (script : Script) (core : Trace) (report : Report) → Stands script core report → rest_of report ≡ [] → report.limited ≡ false → script.ticks ≤ report.tick
    → (core.exts ≡ admitted script) × (report.limited ≡ is_limited script)
ended_last script core report stands none free past =
    let at : report.tick ≡ script.ticks = omega (arith, past, stands.gathered.within, stands.tick) in (
      past_is script core.exts report.tick (rest_of report) stands.left none ∙ last_admits script report.tick at,
      free ∙ last_limits script report.tick at (sym stands.limited ∙ free),
    )

pub at_end : (script : Script) (core : Trace) (report : Report) → Stands script core report → rest_of report ≡ []
    → (report.next < length report.batch.items) ⊎ ((report.limited ≡ true) ⊎ (script.ticks ≤ report.tick)) → (core.exts ≡ admitted script) × (report.limited ≡ is_limited script)
at_end script core report stands none why = go why (which report.limited refl) (cases_order report.tick 0)
  where
    which : (b : Bool) → report.limited ≡ b → (report.limited ≡ true) ⊎ (report.limited ≡ false)
    which true e = inl e
    which false e = inr e

    early : report.limited ≡ true → (report.tick ≡ 0) ⊎ ((report.tick < 0) ⊎ (0 < report.tick)) → (core.exts ≡ admitted script) × (report.limited ≡ is_limited script)
    early passed (inl zero_tick) =
        absurd (false≢true (sym (is_limited_by-none most_admitted script) ∙ (ap (λ (n : ℕ). is_limited_by most_admitted script n) (sym zero_tick) ∙ (sym stands.limited ∙ passed))))
    early passed (inr (inl below)) = absurd (omega (arith, below))
    early passed (inr (inr some)) = ended_early script core report stands none passed some

    go : (report.next < length report.batch.items) ⊎ ((report.limited ≡ true) ⊎ (script.ticks ≤ report.tick)) → (report.limited ≡ true) ⊎ (report.limited ≡ false)
        → (report.tick ≡ 0) ⊎ ((report.tick < 0) ⊎ (0 < report.tick)) → (core.exts ≡ admitted script) × (report.limited ≡ is_limited script)
    go (inl more) limited tick = absurd (omega (arith, more, length-drop report.next report.batch.items, ap (λ (xs : List Ext). length xs) none))
    go (inr (inl passed)) limited tick = early passed tick
    go (inr (inr past)) (inl passed) tick = early passed tick
    go (inr (inr past)) (inr free) tick = ended_last script core report stands none free past

-- ---- one tick more
pub stands_next : (script : Script) (core : Trace) (old new : Report) (items : List Ext) (admitted len : ℕ) → Stands script core old → rest_of old ≡ [] → old.limited ≡ false → old.tick < script.ticks
    → new.totals ≡ old.totals → new.alone ≡ old.alone → new.tick ≡ old.tick + 1 → new.next ≡ 0
    → items ≡ old.net.asked ++ filter (is_up script new.tick) (batch script new.tick) ++ old.net.sent → new.net.tick ≡ new.tick → new.net.asked ≡ [] → new.net.sent ≡ []
    → new.net.comp ≡ old.net.comp → IsPlanFor script new.net → admitted ≡ length core.exts → len ≡ length items → new.batch.items ≡ take (100000 - admitted) items
    → new.limited ≡ nat_lt (100000 - admitted) len → Stands script core new
stands_next script core old new items admitted len stands none free more totals alone tick next is net_tick asked sent comp plan as_many long kept cut = record {
  has_run = subst (λ (t : Totals). HasRun script core.exts core t) (sym totals) stands.has_run;
  gathered = gathered_next script core.exts old.net new.net stands.gathered (net_tick ∙ (tick ∙ ap (λ (n : ℕ). n + 1) (sym stands.tick)))
      (omega (arith, more, stands.tick)) asked sent comp plan;
  tick = net_tick;
  left = left;
  within = omega (arith, next);
  limited = cut ∙ tick_passes_if script core.exts old.net new.tick admitted len items past stands.gathered at unlimited is as_many long;
  packed = subst (λ (b : Bool). IsPacked b core (rest_of new)) (sym alone)
      (packed_tick old.alone core (rest_of new) old.tick (subst (λ (xs : List Ext). IsPacked old.alone core xs) none stands.packed)
      (subst (λ (n : ℕ). Each (λ (ext : Ext). ext.tick ≤ n) core.exts) stands.tick stands.gathered.ticks)
      (subst (λ (n : ℕ). All (λ (ext : Ext). ext.tick ≡ n) (rest_of new)) tick left.of_tick));
}
  where
    past : core.exts ≡ admitted_by most_admitted script old.net.tick
    past = past_is script core.exts old.tick (rest_of old) stands.left none ∙ ap (λ (n : ℕ). admitted_by most_admitted script n) (sym stands.tick)

    at : new.tick ≡ old.net.tick + 1
    at = tick ∙ ap (λ (n : ℕ). n + 1) (sym stands.tick)

    unlimited : is_limited_by most_admitted script old.net.tick ≡ false
    unlimited = ap (λ (n : ℕ). is_limited_by most_admitted script n) stands.tick ∙ (sym stands.limited ∙ free)

    rest : rest_of new ≡ take (min (100000 - admitted) len) items
    rest =
        ap (λ (n : ℕ). drop n new.batch.items) next
        ∙ (kept ∙ (sym (take_min (100000 - admitted) items) ∙ ap (λ (n : ℕ). take (min (100000 - admitted) n) items) (sym long)))

    left : IsLeft script core.exts new.tick (rest_of new)
    left = subst (λ (xs : List Ext). IsLeft script core.exts new.tick xs) (sym rest)
        (tick_part script core.exts old.net new.tick (min (100000 - admitted) len) admitted len items items past stands.gathered at unlimited is refl as_many long refl)

-- ---- one part more
drop_further : (n m : ℕ) (xs : List Ext) → drop (n + m) xs ≡ drop m (drop n xs)
drop_further n m xs = sym (drop-drop m n xs)

module _ (script : Script) (w v : Trace) (old new : Report) (count : ℕ) (p : HasPartRun script w old count) (counted : (state w).count ≡ length w.exts) where
  abbrev rest : List Ext
  rest = rest_of old

  abbrev part : List Ext
  part = take count rest

  ended : HasEnded script p.before.exts part w
  ended = has_ended script p.before.exts part p.before p.opened w old.totals p.stands.has_run p.has_opened p.held p.later p.cleared p.still_held p.all p.home

  pub stands_more : AreTotals script w.exts new.totals → HasGathered script w.exts new.net → new.net.tick ≡ old.net.tick → new.tick ≡ old.tick → new.batch.items ≡ old.batch.items
      → new.next ≡ old.next + count → new.limited ≡ old.limited → new.alone ≡ old.alone → v ≡ (if nat_lt 0 (state w).cells then with_clear w else w) → Stands script v new
  stands_more totals gathered net_tick tick items next limited alone clear = record {
    has_run = subst (λ (xs : List Ext). HasRun script xs v new.totals) (sym has_run.exts) has_run;
    gathered = subst (λ (xs : List Ext). HasGathered script xs new.net) (ended.exts ∙ sym has_run.exts) gathered;
    tick = net_tick ∙ (p.stands.tick ∙ sym tick);
    left = record {
      adds = ap (λ (n : ℕ). admitted_by most_admitted script n) tick
          ∙ (p.stands.left.adds
          ∙ (ap (λ (xs : List Ext). p.before.exts ++ xs) (sym (take-append-drop count rest))
          ∙ (sym (append_assoc p.before.exts part (drop count rest))
          ∙ (ap (λ (xs : List Ext). xs ++ drop count rest) (sym has_run.exts) ∙ ap (λ (xs : List Ext). v.exts ++ xs) (sym rest_is)))));
      of_tick = subst (λ (xs : List Ext). All (λ (ext : Ext). ext.tick ≡ new.tick) xs) (sym rest_is)
          (subst (λ (n : ℕ). All (λ (ext : Ext). ext.tick ≡ n) (drop count rest)) (sym tick) (All-drop (λ (ext : Ext). ext.tick ≡ old.tick) count rest p.stands.left.of_tick));
    };
    within = omega (arith, next, p.within, p.stands.within, length-drop old.next old.batch.items, ap (λ (xs : List Ext). length xs) items);
    limited = limited ∙ (p.stands.limited ∙ ap (λ (n : ℕ). is_limited_by most_admitted script n) (sym tick));
    packed = subst (λ (b : Bool). IsPacked b v (rest_of new)) (sym alone)
        (subst (λ (xs : List Ext). IsPacked old.alone v xs) (sym rest_is)
        (packed_part old.alone script p.before p.opened w v rest count old.tick old.totals p.some p.within p.stands.packed p.stands.has_run p.has_opened p.later p.admitted counted
        (omega (arith, p.held, p.still_held)) clear p.stands.left.of_tick p.longest));
  }
    where
      has_run : HasRun script (p.before.exts ++ part) v new.totals
      has_run = has_run_more script p.before.exts part w v new.totals ended counted totals clear

      rest_is : rest_of new ≡ drop count rest
      rest_is =
          ap (λ (xs : List Ext). drop new.next xs) items
          ∙ (ap (λ (n : ℕ). drop n old.batch.items) next ∙ drop_further old.next count old.batch.items)
