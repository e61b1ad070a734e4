-- How far a script was run: at first, with a tick more, and with a part more that is written.
use Rattle.std.proofs.Common.{◌≡◌, refl, sym, ap, subst, ◌∙◌, arith, ℕ, ◌⊎◌, inl, inr, ◌+◌, ◌-◌, ◌<◌, ◌≤◌, Bool, true, false, min, filter, if◌then◌else◌, List, [], ◌++◌, length, take, take-append-drop, drop, nat_lt}
use Rattle.std.specs.List.{All}
use Rattle.std.proofs.Math.Seq.{drop-length, take-length}
use Rattle.std.proofs.lemmas.Bool.{cases_order, false≢true}
use Rattle.std.proofs.lemmas.List.{length-drop, take_min}
use Rattle.std.proofs.lemmas.List.Elements.{All-nil}
use Rattle.samoa_model.specs.declared.record.Ext.{Ext}
use Rattle.samoa_model.specs.declared.script.Script.{Script}
use Rattle.samoa_serial.specs.Batch.{is_up}
use Rattle.samoa_serial.specs.History.{batch}
use Rattle.samoa_serial.specs.Ticks.{admitted, admitted_by, is_limited, is_limited_by, most_admitted}
use Rattle.samoa_serial.proofs.LimitLaws.{admitted_by-none, is_limited_by-none}
use Rattle.samoa_invariant.specs.State.{AllEnded, Core}
use Rattle.samoa_invariant.specs.Runs.{Trace, cleared, opening_trace, state, with_clear}
use Rattle.samoa_invariant.proofs.representation.Traces.{state-clear}
use Rattle.samoa_control.specs.Since.{cleared_comps}
use Rattle.samoa_control.proofs.Since.{cleared-opening}
use Rattle.samoa_net.specs.Gathered.{IsPlanFor}
use Rattle.samoa_ledger.specs.declared.totals.Totals.{Totals}
use Rattle.samoa_ledger.specs.Gathering.{HasGathered}
use Rattle.samoa_ledger.specs.Written.{AreTotals, later_text}
use Rattle.samoa_ledger.proofs.Gathering.{gathered_next}
use Rattle.samoa_ledger.proofs.LaterText.{later_text-append, later_text-none}
use Rattle.samoa_replay.specs.declared.course.Course.{Course}
use Rattle.samoa_ledger.specs.Left.{IsLeft}
use Rattle.samoa_replay.specs.Following.{EndsWith, IsOnCourse, past_of, rest_of}
use Rattle.samoa_ledger.proofs.Histories.{last_admits, last_limits, limit_admits, limit_limits, tick_part, tick_passes_if, past_is}

-- ---- at first
pub course_first : (script : Script) (cells : ℕ) (course : Course) → AreTotals script [] course.totals → HasGathered script [] course.net → course.batch.items ≡ [] → course.next ≡ 0
    → course.tick ≡ 0 → course.net.tick ≡ 0 → course.limited ≡ false → course.text.items ≡ [] → IsOnCourse script (opening_trace script cells) course
course_first script cells course counted gathered batch next tick net_tick free text = record {
  of_script = refl;
  counted = subst (λ (xs : List Ext). AreTotals script xs course.totals) (sym nothing) counted;
  gathered = subst (λ (xs : List Ext). HasGathered script xs course.net) (sym nothing) gathered;
  cleared = omega (arith, cleared-opening script cells);
  past = λ k less. absurd (omega (arith, less, counted.comps));
  since = subst (λ (xs : List Ext). All (λ (ext : Ext). ext.tick ≡ course.tick) xs) (sym rest_none) (All-nil (λ (ext : Ext). ext.tick ≡ course.tick));
  tick = net_tick ∙ sym tick;
  left = record {
    adds = ap (λ (n : ℕ). admitted_by most_admitted script n) tick ∙ (admitted_by-none most_admitted script ∙ sym none);
    of_tick = subst (λ (xs : List Ext). All (λ (ext : Ext). ext.tick ≡ course.tick) xs) (sym none) (All-nil (λ (ext : Ext). ext.tick ≡ course.tick));
  };
  within = omega (arith, next);
  last = λ some. absurd (omega (arith, some, next));
  limited = free ∙ (sym (is_limited_by-none most_admitted script) ∙ ap (λ (n : ℕ). is_limited_by most_admitted script n) (sym tick));
  text = text ∙ sym (ap (later_text script false []) nothing ∙ later_text-none script false []);
}
  where
    none : rest_of course ≡ []
    none = ap (λ (xs : List Ext). drop course.next xs) batch ∙ ap (λ (n : ℕ). drop {A = Ext} n []) next

    nothing : past_of (opening_trace script cells) course ≡ []
    nothing = ap (λ (n : ℕ). take {A = Ext} n []) counted.comps

    rest_none : drop {A = Ext} course.totals.comps [] ≡ []
    rest_none = ap (λ (n : ℕ). drop {A = Ext} n []) counted.comps

-- ---- where all is written
pub written_all : (t : Trace) (course : Course) → course.totals.comps ≡ length t.exts → past_of t course ≡ t.exts
written_all t course e = ap (λ (n : ℕ). take n t.exts) e ∙ take-length t.exts

-- ---- where nothing is left of a tick

-- ---- at the end
pub record IsAtEnd (script : Script) (t : Trace) (course : Course) : Type 0 where
  pub all : t.exts ≡ admitted script
  pub limited : course.limited ≡ is_limited script

ended_early : (script : Script) (t : Trace) (course : Course) → IsOnCourse script t course → rest_of course ≡ [] → course.limited ≡ true → 0 < course.tick → IsAtEnd script t course
ended_early script t course on none passed some =
    let before : ℕ = course.tick - 1 in
    let next : course.tick ≡ before + 1 = omega (arith, some) in
    let inside : before < script.ticks = omega (arith, next, on.gathered.within, on.tick) in
    let limited : is_limited_by most_admitted script (before + 1) ≡ true = ap (λ (n : ℕ). is_limited_by most_admitted script n) (sym next) ∙ (sym on.limited ∙ passed) in
    record {
      all = past_is script t.exts course.tick (rest_of course) on.left none ∙ (ap (λ (n : ℕ). admitted_by most_admitted script n) next ∙ limit_admits script before inside limited);
      limited = passed ∙ limit_limits script before inside limited;
    }

ended_last : (script : Script) (t : Trace) (course : Course) → IsOnCourse script t course → rest_of course ≡ [] → course.limited ≡ false → script.ticks ≤ course.tick → IsAtEnd script t course
ended_last script t course on none free past =
    let at : course.tick ≡ script.ticks = omega (arith, past, on.gathered.within, on.tick) in
    record {
      all = past_is script t.exts course.tick (rest_of course) on.left none ∙ last_admits script course.tick at;
      limited = free ∙ last_limits script course.tick at (sym on.limited ∙ free);
    }

pub at_end : (script : Script) (t : Trace) (course : Course) → IsOnCourse script t course → rest_of course ≡ []
    → (course.next < length course.batch.items) ⊎ ((course.limited ≡ true) ⊎ (script.ticks ≤ course.tick)) → IsAtEnd script t course
at_end script t course on none why = go why (which course.limited refl) (cases_order course.tick 0)
  where
    which : (b : Bool) → course.limited ≡ b → (course.limited ≡ true) ⊎ (course.limited ≡ false)
    which true e = inl e
    which false e = inr e

    early : course.limited ≡ true → (course.tick ≡ 0) ⊎ ((course.tick < 0) ⊎ (0 < course.tick)) → IsAtEnd script t course
    early passed (inl zero_tick) =
        absurd (false≢true (sym (is_limited_by-none most_admitted script) ∙ (ap (λ (n : ℕ). is_limited_by most_admitted script n) (sym zero_tick) ∙ (sym on.limited ∙ passed))))
    early passed (inr (inl below)) = absurd (omega (arith, below))
    early passed (inr (inr some)) = ended_early script t course on none passed some

    go : (course.next < length course.batch.items) ⊎ ((course.limited ≡ true) ⊎ (script.ticks ≤ course.tick)) → (course.limited ≡ true) ⊎ (course.limited ≡ false)
        → (course.tick ≡ 0) ⊎ ((course.tick < 0) ⊎ (0 < course.tick)) → IsAtEnd script t course
    go (inl more) limited tick = absurd (omega (arith, more, length-drop course.next course.batch.items, ap (λ (xs : List Ext). length xs) none))
    go (inr (inl passed)) limited tick = early passed tick
    go (inr (inr past)) (inl passed) tick = early passed tick
    go (inr (inr past)) (inr free) tick = ended_last script t course on none free past

-- ---- one tick more
pub course_next : (script : Script) (t : Trace) (old new : Course) (items : List Ext) (admitted len : ℕ) → IsOnCourse script t old → old.totals.comps ≡ length t.exts → rest_of old ≡ []
    → old.limited ≡ false → old.tick < script.ticks → new.totals ≡ old.totals → new.text.items ≡ old.text.items → new.tick ≡ old.tick + 1 → new.next ≡ 0
    → items ≡ old.net.asked ++ filter (is_up script new.tick) (batch script new.tick) ++ old.net.sent → new.net.tick ≡ new.tick → new.net.asked ≡ [] → new.net.sent ≡ []
    → new.net.comp ≡ old.net.comp → IsPlanFor script new.net → admitted ≡ length t.exts → len ≡ length items → new.batch.items ≡ take (100000 - admitted) items
    → new.limited ≡ nat_lt (100000 - admitted) len → IsOnCourse script t new
course_next script t old new items admitted len on written none free more totals text tick next is net_tick asked sent comp plan as_many long kept cut = record {
  of_script = on.of_script;
  counted = subst (λ (ts : Totals). AreTotals script (take ts.comps t.exts) ts) (sym totals) on.counted;
  gathered = gathered_next script (past_of t new) old.net new.net (subst (λ (xs : List Ext). HasGathered script xs old.net) (sym same_past) on.gathered)
      (net_tick ∙ (tick ∙ ap (λ (n : ℕ). n + 1) (sym on.tick))) (omega (arith, more, on.tick)) asked sent comp plan;
  cleared = subst (λ (n : ℕ). cleared_comps t ≤ n) (sym same_comps) on.cleared;
  past = λ k less. on.past k (omega (arith, less, same_comps));
  since = subst (λ (xs : List Ext). All (λ (ext : Ext). ext.tick ≡ new.tick) xs) (sym nothing) (All-nil (λ (ext : Ext). ext.tick ≡ new.tick));
  tick = net_tick;
  left = left;
  within = omega (arith, next);
  last = λ some. absurd (omega (arith, some, next));
  limited = cut ∙ tick_passes_if script t.exts old.net new.tick admitted len items past gathered at unlimited is as_many long;
  text = text ∙ (on.text ∙ ap (later_text script false []) (sym same_past));
}
  where
    same_comps : new.totals.comps ≡ old.totals.comps
    same_comps = ap (λ (ts : Totals). ts.comps) totals

    same_past : past_of t new ≡ past_of t old
    same_past = ap (λ (n : ℕ). take n t.exts) same_comps

    nothing : drop new.totals.comps t.exts ≡ []
    nothing = ap (λ (n : ℕ). drop n t.exts) (same_comps ∙ written) ∙ drop-length t.exts

    gathered : HasGathered script t.exts old.net
    gathered = subst (λ (xs : List Ext). HasGathered script xs old.net) (written_all t old written) on.gathered

    past : t.exts ≡ admitted_by most_admitted script old.net.tick
    past = past_is script t.exts old.tick (rest_of old) on.left none ∙ ap (λ (n : ℕ). admitted_by most_admitted script n) (sym on.tick)

    at : new.tick ≡ old.net.tick + 1
    at = tick ∙ ap (λ (n : ℕ). n + 1) (sym on.tick)

    unlimited : is_limited_by most_admitted script old.net.tick ≡ false
    unlimited = ap (λ (n : ℕ). is_limited_by most_admitted script n) on.tick ∙ (sym on.limited ∙ free)

    rest : rest_of new ≡ take (min (100000 - admitted) len) items
    rest =
        ap (λ (n : ℕ). drop n new.batch.items) next
        ∙ (kept ∙ (sym (take_min (100000 - admitted) items) ∙ ap (λ (n : ℕ). take (min (100000 - admitted) n) items) (sym long)))

    left : IsLeft script t.exts new.tick (rest_of new)
    left = subst (λ (xs : List Ext). IsLeft script t.exts new.tick xs) (sym rest)
        (tick_part script t.exts old.net new.tick (min (100000 - admitted) len) admitted len items items past gathered at unlimited is refl as_many long refl)

-- ---- one part more is written, and the core is cleared
pub course_closed : (script : Script) (t u : Trace) (old new : Course) → IsOnCourse script t old → AllEnded (state t) → (state t).count ≡ length t.exts
    → AreTotals script t.exts new.totals → HasGathered script t.exts new.net → new.net.tick ≡ old.net.tick
    → new.text.items ≡ old.text.items ++ later_text script false (take old.totals.comps t.exts) (drop old.totals.comps t.exts)
    → new.tick ≡ old.tick → new.batch.items ≡ old.batch.items → new.next ≡ old.next → new.limited ≡ old.limited
    → u ≡ (if nat_lt 0 (state t).cells then with_clear t else t) → cleared_comps u ≤ length u.exts → IsOnCourse script u new
course_closed script t u old new on all counted totals gathered net_tick text tick items next limited is cleared = record {
  of_script = ap (λ (x : Trace). x.script) is ∙ (kept_script ∙ on.of_script);
  counted = subst (λ (xs : List Ext). AreTotals script xs new.totals) (sym past) totals;
  gathered = subst (λ (xs : List Ext). HasGathered script xs new.net) (sym past) gathered;
  cleared = omega (arith, cleared, totals.comps, ap (λ (xs : List Ext). length xs) same);
  past = λ k less. ap (λ (c : Core). c.ended k) at ∙ (kept_ended (nat_lt 0 (state t).cells) k ∙ all k (omega (arith, less, totals.comps, counted)));
  since = subst (λ (xs : List Ext). All (λ (ext : Ext). ext.tick ≡ new.tick) xs) (sym nothing) (All-nil (λ (ext : Ext). ext.tick ≡ new.tick));
  tick = net_tick ∙ (on.tick ∙ sym tick);
  left = record {
    adds = ap (λ (n : ℕ). admitted_by most_admitted script n) tick
        ∙ (on.left.adds ∙ (ap (λ (xs : List Ext). xs ++ rest_of old) (sym same) ∙ ap (λ (xs : List Ext). u.exts ++ xs) (sym rest)));
    of_tick = subst (λ (xs : List Ext). All (λ (ext : Ext). ext.tick ≡ new.tick) xs) (sym rest)
        (subst (λ (n : ℕ). All (λ (ext : Ext). ext.tick ≡ n) (rest_of old)) (sym tick) on.left.of_tick);
  };
  within = omega (arith, next, on.within, ap (λ (xs : List Ext). length xs) items);
  last = λ some.
      let ends = on.last (omega (arith, some, next)) in
      subst (λ (xs : List Ext). EndsWith xs new.tick) (sym same) (subst (λ (n : ℕ). EndsWith t.exts n) (sym tick) ends);
  limited = limited ∙ (on.limited ∙ ap (λ (n : ℕ). is_limited_by most_admitted script n) (sym tick));
  text = text
      ∙ (ap (λ (xs : List ℕ). xs ++ later_text script false (take old.totals.comps t.exts) (drop old.totals.comps t.exts)) on.text
      ∙ (sym (later_text-append script false [] (take old.totals.comps t.exts) (drop old.totals.comps t.exts))
      ∙ (ap (later_text script false []) (take-append-drop old.totals.comps t.exts) ∙ ap (later_text script false []) (sym past))));
}
  where
    kept_of : (b : Bool) → (if b then with_clear t else t).exts ≡ t.exts
    kept_of true = refl
    kept_of false = refl

    kept_script_of : (b : Bool) → (if b then with_clear t else t).script ≡ t.script
    kept_script_of true = refl
    kept_script_of false = refl

    kept_script : (if nat_lt 0 (state t).cells then with_clear t else t).script ≡ t.script
    kept_script = kept_script_of (nat_lt 0 (state t).cells)

    same : u.exts ≡ t.exts
    same = ap (λ (x : Trace). x.exts) is ∙ kept_of (nat_lt 0 (state t).cells)

    at : state u ≡ state (if nat_lt 0 (state t).cells then with_clear t else t)
    at = ap (λ (x : Trace). state x) is

    kept_ended : (b : Bool) (k : ℕ) → (state (if b then with_clear t else t)).ended k ≡ (state t).ended k
    kept_ended true k = ap (λ (c : Core). c.ended k) (state-clear t)
    kept_ended false k = refl

    past : past_of u new ≡ t.exts
    past = ap (λ (xs : List Ext). take new.totals.comps xs) same ∙ (ap (λ (n : ℕ). take n t.exts) totals.comps ∙ take-length t.exts)

    nothing : drop new.totals.comps u.exts ≡ []
    nothing = ap (λ (xs : List Ext). drop new.totals.comps xs) same ∙ (ap (λ (n : ℕ). drop n t.exts) totals.comps ∙ drop-length t.exts)

    rest : rest_of new ≡ rest_of old
    rest = ap (λ (xs : List Ext). drop new.next xs) items ∙ ap (λ (n : ℕ). drop n old.batch.items) next
