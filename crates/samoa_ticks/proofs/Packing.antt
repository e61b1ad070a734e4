-- A part that was admitted together, run to its end and cleared away, and the parts before it.
use Rattle.std.proofs.Common.{◌≡◌, refl, sym, ap, subst, ◌∙◌, arith, ℕ, zero, suc, ◌+◌, ◌<◌, ◌≤◌, Bool, false, if◌then◌else◌, nat_lt, List, [], ◌∷◌, ◌++◌, append_assoc, length, take, drop, slice_get, Some}
use Rattle.std.specs.List.{All}
use Rattle.std.proofs.lemmas.List.Elements.{All-head, All-tail, All-take}
use Rattle.samoa_model.specs.declared.record.Ext.{Ext}
use Rattle.samoa_model.specs.declared.record.Step.{Step}
use Rattle.samoa_model.specs.declared.script.Script.{Script}
use Rattle.samoa_model.specs.Cells.{cells_of}
use Rattle.samoa_serial.specs.Lists.{Each}
use Rattle.samoa_serial.proofs.ListLaws.{each_weaker}
use Rattle.samoa_invariant.specs.Runs.{Trace, ext_at, state, with_clear}
use Rattle.samoa_control.specs.Later.{IsLater}
use Rattle.samoa_journal.specs.Parts.{IsLastLongest, IsPacked, IsPart, Part, admits, cells_for, exts_of}
use Rattle.samoa_journal.proofs.Parts.{IsMore, packed_more}
use Rattle.samoa_journal.proofs.Opens.{admit_none}
use Rattle.samoa_ledger.specs.declared.totals.Totals.{Totals}
use Rattle.samoa_ticks.specs.Running.{HasOpened, HasRun}
use Rattle.samoa_ledger.proofs.Histories.{first_of}
use Rattle.samoa_ticks.proofs.RunOnce.{clears}

each_of : (P : Ext → Type 0) (xs : List Ext) → All P xs → Each P xs
each_of P [] all = tt
each_of P (x ∷ xs) all = (All-head P x xs all, each_of P xs (All-tail P x xs all))

-- ---- one part more
module _ (alone : Bool) (script : Script) (t u w v : Trace) (x : Ext) (xs : List Ext) (count tick : ℕ) (totals : Totals) where
  abbrev more : List Ext
  more = take count (x ∷ xs)

  taken : 0 < count → (ext_at more 0 ≡ x) × (0 < length more)
  taken some = go count some
    where
      go : (n : ℕ) → 0 < n → (ext_at (take n (x ∷ xs)) 0 ≡ x) × (0 < length (take n (x ∷ xs)))
      go zero none = absurd (omega (arith, none))
      go (suc n) some = (refl, omega arith)

  is_part : (others : List Step) → 0 < count → All (λ (ext : Ext). ext.tick ≡ tick) (x ∷ xs) → (state u).count ≡ length u.exts → (state w).count ≡ length w.exts
      → w.exts ≡ u.exts → w.journal ≡ u.journal ++ others → IsPart (record { exts = more; others = others })
  is_part others some all counted also exts journal =
      let first : (ext_at more 0).tick ≡ tick = ap (λ (e : Ext). e.tick) (taken some).0 ∙ All-head (λ (ext : Ext). ext.tick ≡ tick) x xs all in
      record {
        some = (taken some).1;
        of_tick = each_weaker (λ (ext : Ext). ext.tick ≡ tick) (λ (ext : Ext). ext.tick ≡ (ext_at more 0).tick) (λ e is. is ∙ sym first) more
            (each_of (λ (ext : Ext). ext.tick ≡ tick) more (All-take (λ (ext : Ext). ext.tick ≡ tick) count (x ∷ xs) all));
        others = admit_none u w others journal exts counted also;
      }

  is_more : HasOpened t more u → (l : IsLater u w) → v ≡ with_clear w → IsMore t v more l.steps
  is_more opened l is = record {
    script = ap (λ (a : Trace). a.script) is ∙ (l.script ∙ opened.script);
    cells = ap (λ (a : Trace). a.cells) is ∙ (l.cells ∙ opened.cells);
    exts = ap (λ (a : Trace). a.exts) is ∙ (l.exts ∙ opened.exts);
    journal = ap (λ (a : Trace). a.journal) is
        ∙ (l.journal ∙ (ap (λ (js : List Step). js ++ l.steps) opened.journal ∙ append_assoc t.journal (admits (length t.exts) more) l.steps));
    clears = ap (λ (a : Trace). a.clears) is
        ∙ (ap (λ (cs : List ℕ). cs ++ length w.journal ∷ []) (l.clears ∙ opened.clears)
        ∙ ap (λ (js : List Step). t.clears ++ length js ∷ []) (sym (ap (λ (a : Trace). a.journal) is)));
  }

  packed_once : IsPacked alone t (x ∷ xs) → HasRun script t.exts t totals → HasOpened t more u → (l : IsLater u w) → (state u).count ≡ length u.exts → (state w).count ≡ length w.exts
      → 0 < (state w).cells → v ≡ (if nat_lt 0 (state w).cells then with_clear w else w) → 0 < count → All (λ (ext : Ext). ext.tick ≡ tick) (x ∷ xs)
      → (alone ≡ false → (ext : Ext) → slice_get (x ∷ xs) count ≡ Some ext → u.cells < (state u).cells + cells_of u.script ext)
      → IsPacked alone v (drop count (x ∷ xs))
  packed_once packed has opened l counted also held clear some all longest =
      packed_more alone t v (x ∷ xs) count l.steps packed (is_part l.steps some all counted also l.exts l.journal) some x refl (is_more opened l (clear ∙ clears w held)) wide
    where
      wide : alone ≡ false → (ext : Ext) → slice_get (x ∷ xs) count ≡ Some ext → t.cells < cells_for t.script more + cells_of t.script ext
      wide e ext is =
          let too_wide : u.cells < (state u).cells + cells_of u.script ext = longest e ext is in
          omega (arith, too_wide, opened.held, has.none_held, opened.cells, ap (λ (s : Script). cells_of s ext) opened.script)

pub packed_part : (alone : Bool) (script : Script) (t u w v : Trace) (rest : List Ext) (count tick : ℕ) (totals : Totals) → 0 < count → count ≤ length rest → IsPacked alone t rest
    → HasRun script t.exts t totals → HasOpened t (take count rest) u → (l : IsLater u w) → (state u).count ≡ length u.exts → (state w).count ≡ length w.exts → 0 < (state w).cells
    → v ≡ (if nat_lt 0 (state w).cells then with_clear w else w) → All (λ (ext : Ext). ext.tick ≡ tick) rest
    → (alone ≡ false → (ext : Ext) → slice_get rest count ≡ Some ext → u.cells < (state u).cells + cells_of u.script ext) → IsPacked alone v (drop count rest)
packed_part alone script t u w v [] count tick totals some within packed has opened l counted also held clear all longest = absurd (omega (arith, some, within))
packed_part alone script t u w v (x ∷ xs) count tick totals some within packed has opened l counted also held clear all longest =
    packed_once alone script t u w v x xs count tick totals packed has opened l counted also held clear some all longest

-- ---- the next tick
first_tick : (tick : ℕ) (xs : List Ext) → 0 < length xs → Each (λ (ext : Ext). ext.tick ≤ tick) xs → (ext_at xs 0).tick ≤ tick
first_tick tick [] some all = absurd (omega (arith, some))
first_tick tick (x ∷ xs) some all = all.0

each_before : (P : Ext → Type 0) (xs ys : List Ext) → Each P (xs ++ ys) → Each P xs
each_before P [] ys all = tt
each_before P (x ∷ xs) ys all = (all.0, each_before P xs ys all.1)

each_after : (P : Ext → Type 0) (xs ys : List Ext) → Each P (xs ++ ys) → Each P ys
each_after P [] ys all = all
each_after P (x ∷ xs) ys all = each_after P xs ys all.1

-- what is of a later tick begins a part of its own
later_part : (script : Script) (cells tick : ℕ) (parts : List Part) (next : Ext) → Each IsPart parts → Each (λ (ext : Ext). ext.tick ≤ tick) (exts_of parts) → next.tick ≡ tick + 1
    → IsLastLongest script cells parts next
later_part script cells tick [] next each ticks later = tt
later_part script cells tick (p ∷ []) next each ticks later =
    λ same. absurd (omega (arith, same, later, first_tick tick p.exts each.0.some (each_before (λ (ext : Ext). ext.tick ≤ tick) p.exts [] ticks)))
later_part script cells tick (p ∷ q ∷ parts) next each ticks later =
    later_part script cells tick (q ∷ parts) next each.1 (each_after (λ (ext : Ext). ext.tick ≤ tick) p.exts (exts_of (q ∷ parts)) ticks) later

pub packed_tick : (alone : Bool) (t : Trace) (next : List Ext) (tick : ℕ) → IsPacked alone t [] → Each (λ (ext : Ext). ext.tick ≤ tick) t.exts → All (λ (ext : Ext). ext.tick ≡ tick + 1) next
    → IsPacked alone t next
packed_tick alone t next tick packed ticks all = record {
  parts = packed.parts;
  in_parts = packed.in_parts;
  longest = packed.longest;
  new_part = λ e ext is.
      later_part t.script t.cells tick packed.parts ext packed.in_parts.each
      (subst (λ (xs : List Ext). Each (λ (x : Ext). x.tick ≤ tick) xs) packed.in_parts.exts ticks)
      (first_of (λ (x : Ext). x.tick ≡ tick + 1) next ext all is);
}
