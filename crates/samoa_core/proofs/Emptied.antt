-- An index of no computation, before anything is admitted and after a clear.
use Rattle.std.proofs.Common.{arith, ◌≡◌, ◌↔◌, ℕ, ◌+◌, ◌*◌, ◌-◌, ◌<◌, refl, sym, ap, subst, ◌∙◌, length, replicate, Bool, true, false, if◌then◌else◌, None}
use Rattle.std.specs.Prelude.{nat_lt}
use Rattle.std.proofs.lemmas.Bool.{lt-ltb}
use Rattle.std.proofs.lemmas.List.{length-replicate}
use Rattle.samoa_model.specs.declared.script.Script.{Script}
use Rattle.samoa_invariant.specs.Index.{IsIndexed, none_indexed, placed}
use Rattle.samoa_invariant.specs.State as model
use Rattle.samoa_invariant.specs.Runs.{Trace, opening_trace, play, state, with_clear}
use Rattle.samoa_invariant.proofs.indexing.Clearing.{cleared_indexed, opening_indexed}
use Rattle.samoa_invariant.proofs.indexing.Placed.{placed-none}
use Rattle.samoa_invariant.proofs.representation.Traces.{invariant, state-clear}
use Rattle.samoa_control.specs.Admission.{most_admitted}
use Rattle.samoa_control.specs.Sound.{IsSound}
use Rattle.samoa_control.proofs.Since.{cleared-clear, cleared-opening}
use Rattle.samoa_core.specs.Indexed.{IsIndexedBy, Keeps}
use Rattle.samoa_core.specs.Rows.{IsSized, Rows, emptied, no_rows}
use Rattle.samoa_core.proofs.Tables.{grid-of, table-none}

none-left : (n : ℕ) → n - n ≡ 0
none-left n = omega arith

keeps-none : (nodes columns first size : ℕ) (rows : Rows) → size ≡ nodes * columns → rows.micros ≡ columns → rows.heads ≡ replicate size None → rows.tails ≡ replicate size None
    → rows.ready ≡ replicate most_admitted false → rows.restless ≡ replicate most_admitted false → rows.closing ≡ replicate most_admitted false → Keeps nodes columns first first rows none_indexed
keeps-none nodes columns first size rows e micros heads tails ready restless closing = record {
  micros = micros;
  heads = rw heads (grid-of nodes columns size None none_indexed.head e (λ i j. refl));
  tails = rw tails (grid-of nodes columns size None none_indexed.tail e (λ i j. refl));
  nexts = rw (none-left first) (table-none columns rows.nexts (λ (i p : ℕ). none_indexed.next (first + i) p));
  sized = record {
    ready = ap length ready ∙ length-replicate most_admitted false;
    restless = ap length restless ∙ length-replicate most_admitted false;
    closing = ap length closing ∙ length-replicate most_admitted false;
  };
  ready = λ k from. ap (λ members. placed first members k) ready ∙ placed-none first most_admitted k;
  restless = λ k from. ap (λ members. placed first members k) restless ∙ placed-none first most_admitted k;
  closing = λ k from. ap (λ members. placed first members k) closing ∙ placed-none first most_admitted k;
}

-- nothing is admitted
pub opens : (script : Script) (cells : ℕ) → IsIndexedBy (opening_trace script cells) (no_rows (script.nodes * length script.micros) (length script.micros))
opens script cells =
    let t : Trace = opening_trace script cells in
    let rows : Rows = no_rows (script.nodes * length script.micros) (length script.micros) in
    record {
      index = none_indexed;
      keeps = subst (λ (n : ℕ). Keeps script.nodes (length script.micros) n (state t).count rows none_indexed) (sym (cleared-opening script cells))
          (keeps-none script.nodes (length script.micros) 0 (script.nodes * length script.micros) rows refl refl refl refl refl refl refl);
      is = subst (λ (n : ℕ). IsIndexed (play t) n (state t) none_indexed) (sym (cleared-opening script cells)) (opening_indexed (play t));
    }

-- all that were admitted are cleared away
pub clears : (t : Trace) (rows : Rows) → IsSound t → model.AllEnded (state t) → IsIndexedBy t rows → IsIndexedBy (with_clear t) (emptied rows)
clears t rows sound all by = record {
  index = none_indexed;
  keeps = subst (λ (n : ℕ). Keeps t.script.nodes (length t.script.micros) n (state (with_clear t)).count (emptied rows) none_indexed) (sym (cleared-clear t))
      (subst (λ (core : model.Core). Keeps t.script.nodes (length t.script.micros) (state t).count core.count (emptied rows) none_indexed) (sym (state-clear t)) kept);
  is = subst (λ (n : ℕ). IsIndexed (play t) n (state (with_clear t)) none_indexed) (sym (cleared-clear t))
      (subst (λ (core : model.Core). IsIndexed (play t) (state t).count core none_indexed) (sym (state-clear t)) (cleared_indexed (play t) (state t) (invariant t sound.run) all));
}
  where
    sized : IsSized rows
    sized = by.keeps.sized

    kept : Keeps t.script.nodes (length t.script.micros) (state t).count (state t).count (emptied rows) none_indexed
    kept =
        keeps-none t.script.nodes (length t.script.micros) (state t).count (length rows.heads) (emptied rows) by.keeps.heads.size by.keeps.micros refl
        (ap (λ (n : ℕ). replicate n None) (by.keeps.tails.size ∙ sym by.keeps.heads.size))
        (ap (λ (n : ℕ). replicate n false) sized.ready) (ap (λ (n : ℕ). replicate n false) sized.restless) (ap (λ (n : ℕ). replicate n false) sized.closing)

pub clears-held : (t u : Trace) (rows new : Rows) (held : Bool) → IsSound t → model.AllEnded (state t) → IsIndexedBy t rows → u ≡ (if nat_lt 0 (state t).cells then with_clear t else t)
    → (held ≡ true) ↔ (0 < (state t).cells) → held ≡ true → new ≡ emptied rows → IsIndexedBy u new
clears-held t u rows new held sound all by e test is made =
    subst (λ (x : Trace). IsIndexedBy x new) (sym (e ∙ ap (λ (b : Bool). if b then with_clear t else t) (lt-ltb 0 (state t).cells (test.0 is))))
    (subst (λ (r : Rows). IsIndexedBy (with_clear t) r) (sym made) (clears t rows sound all by))
