-- A part that was admitted together and has ended.
use Rattle.std.proofs.Common.{arith, ◌≡◌, ℕ, ◌<◌, ◌≤◌, Bool, true, sym, ap, subst, ◌∙◌, List, [], ◌++◌, length, take, drop, if◌then◌else◌, nat_lt}
use Rattle.std.proofs.Math.Seq.{take-append_seam, drop-append_seam}
use Rattle.std.proofs.lemmas.Bool.Decides.{nat_tests}
use Rattle.samoa_model.specs.declared.record.Ext.{Ext}
use Rattle.samoa_model.specs.declared.script.Script.{Script}
use Rattle.samoa_model.specs.Cells.{need}
use Rattle.samoa_invariant.specs.State as model
use Rattle.samoa_invariant.specs.State.{AllEnded, NothingOut}
use Rattle.samoa_invariant.specs.Runs.{Trace, cleared, state, with_clear}
use Rattle.samoa_invariant.proofs.representation.Traces.{state-clear}
use Rattle.samoa_control.specs.Later.{IsLater}
use Rattle.samoa_control.specs.Since.{cleared_comps}
use Rattle.samoa_control.proofs.Since.{cleared-clear}
use Rattle.samoa_ledger.specs.declared.totals.Totals.{Totals}
use Rattle.samoa_ticks.specs.Running.{HasOpened, HasRun}
use Rattle.samoa_ledger.specs.Written.{AreTotals, later_text}

-- after these computations those have ended, and weren't cleared away
pub record HasEnded (script : Script) (past more : List Ext) (core : Trace) : Type 0 where
  pub of_script : core.script ≡ script
  pub exts : core.exts ≡ past ++ more
  pub cleared : cleared_comps core ≡ length past
  pub all : AllEnded (state core)
  pub home : NothingOut (state core)
  pub held : 0 < (state core).cells
  pub room : need script ≤ core.cells

pub home_opened : (script : Script) (past exts : List Ext) (t u : Trace) (totals : Totals) → HasRun script past t totals → HasOpened t exts u → NothingOut (state u)
home_opened script past exts t u totals has opened node p = opened.out node p ∙ has.home node p

pub has_ended : (script : Script) (past exts : List Ext) (t u w : Trace) (totals : Totals) → HasRun script past t totals → HasOpened t exts u → 0 < (state u).cells → IsLater u w
    → cleared_comps w ≡ cleared_comps u → (state u).cells ≤ (state w).cells → AllEnded (state w) → NothingOut (state w) → HasEnded script past exts w
has_ended script past exts t u w totals has opened held later same more all home =
    let as_wide : w.cells ≡ t.cells = later.cells ∙ opened.cells in
    record {
      of_script = later.script ∙ (opened.script ∙ has.of_script);
      exts = later.exts ∙ (opened.exts ∙ ap (λ (l : List Ext). l ++ exts) has.exts);
      cleared = same ∙ (opened.cleared ∙ has.cleared);
      all = all;
      home = home;
      held = omega (arith, held, more);
      room = omega (arith, has.room, as_wide);
    }

-- the totals at hand are those of the computations before them
pub before_is : (script : Script) (past exts : List Ext) (w : Trace) (n : ℕ) → HasEnded script past exts w → n ≡ length past → (take n w.exts ≡ past) × (drop n w.exts ≡ exts)
before_is script past exts w n ended e = (
  ap (λ (k : ℕ). take k w.exts) e ∙ (ap (λ (l : List Ext). take (length past) l) ended.exts ∙ take-append_seam past exts),
  ap (λ (k : ℕ). drop k w.exts) e ∙ (ap (λ (l : List Ext). drop (length past) l) ended.exts ∙ drop-append_seam past exts),
)

-- their part of the report
pub text_of : (script : Script) (calls : Bool) (past exts : List Ext) (w : Trace) (totals : Totals) (none text : List ℕ) → HasEnded script past exts w → AreTotals script past totals → none ≡ []
    → text ≡ none ++ later_text script calls (take totals.comps w.exts) (drop totals.comps w.exts) → text ≡ later_text script calls past exts
text_of script calls past exts w totals none text ended are e f =
    let is = before_is script past exts w totals.comps ended are.comps in
    f ∙ (ap (λ (t : List ℕ). t ++ later_text script calls (take totals.comps w.exts) (drop totals.comps w.exts)) e
    ∙ (ap (λ (l : List Ext). later_text script calls l (drop totals.comps w.exts)) is.0 ∙ ap (later_text script calls past) is.1))

-- and when they were cleared away
pub clears : (w : Trace) → 0 < (state w).cells → (if nat_lt 0 (state w).cells then with_clear w else w) ≡ with_clear w
clears w held =
    let positive : nat_lt 0 (state w).cells ≡ true = grind (arith, nat_tests) in ap (λ (b : Bool). if b then with_clear w else w) positive

pub has_run_more : (script : Script) (past exts : List Ext) (w v : Trace) (totals : Totals) → HasEnded script past exts w → (state w).count ≡ length w.exts → AreTotals script w.exts totals
    → v ≡ (if nat_lt 0 (state w).cells then with_clear w else w) → HasRun script (past ++ exts) v totals
has_run_more script past exts w v totals ended count are clear =
    let is : v ≡ with_clear w = clear ∙ clears w ended.held in
    let at : state v ≡ cleared (state w) = ap (λ (x : Trace). state x) is ∙ state-clear w in
    let A : List Ext → Type 0 = λ l. AreTotals script l totals in
    let E : model.Core → Type 0 = λ core. AllEnded core in
    let O : model.Core → Type 0 = λ core. NothingOut core in
    let as_wide : v.cells ≡ w.cells = ap (λ (x : Trace). x.cells) is in
    record {
      of_script = ap (λ (x : Trace). x.script) is ∙ ended.of_script;
      exts = ap (λ (x : Trace). x.exts) is ∙ ended.exts;
      cleared = ap cleared_comps is ∙ (cleared-clear w ∙ (count ∙ ap (λ (l : List Ext). length l) ended.exts));
      all = subst E (sym at) ended.all;
      home = subst O (sym at) ended.home;
      none_held = ap (λ (core : model.Core). core.cells) at;
      room = omega (arith, ended.room, as_wide);
      counted = subst A ended.exts are;
    }
