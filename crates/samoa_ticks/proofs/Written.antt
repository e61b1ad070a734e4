-- What is written of a run.
use Rattle.std.proofs.Common.{◌≡◌, sym, ap, subst, ◌∙◌, arith, ℕ, ◌+◌, ◌≤◌, Bool, List, [], ◌++◌, append_assoc, append-nil, length, length-append, length-take, ◌-◌, ◌<◌, take, take-append-drop, drop}
use Rattle.std.specs.declared.option.Option.{Option}
use Rattle.std.specs.Io.KnownBytes.{Appends}
use Rattle.std.proofs.KnownBytes.{Appends-trans}
use Rattle.samoa_model.specs.declared.record.Ext.{Ext}
use Rattle.samoa_model.specs.declared.script.Script.{Script}
use Rattle.samoa_serial.specs.LimitedReport.{report_in_full}
use Rattle.samoa_serial.specs.Ticks.{admitted, is_limited, most_admitted}
use Rattle.samoa_serial.proofs.LimitLaws.{admitted_to-begins}
use Rattle.samoa_ends.specs.Pieces.{AppendsPrefix}
use Rattle.samoa_invariant.specs.Runs.{Trace}
use Rattle.samoa_ledger.specs.Written.{later_text}
use Rattle.samoa_ledger.proofs.Closing.{report-is}
use Rattle.samoa_ledger.proofs.LaterText.{later_text-append}
use Rattle.samoa_ticks.specs.declared.report.Report.{Report}
use Rattle.samoa_ticks.specs.Running.{end_text}
use Rattle.samoa_ticks.specs.Stands.{HasPartRun, Stands, rest_of}
use Rattle.samoa_ticks.proofs.Closing.{report_begun}
use Rattle.samoa_ledger.proofs.Histories.{part_few}
use Rattle.samoa_ticks.proofs.Parts.{part_after, part_more}
use Rattle.samoa_ticks.proofs.RunOnce.{HasEnded, before_is, has_ended}

pub begins_all : (old new : Option (List ℕ)) (text : List ℕ) → Appends old new text → AppendsPrefix old new text
begins_all old new text wrote = record { piece = text; appended = wrote; prefix = record { rest = []; whole = sym (append-nil text) } }

-- ---- the computations so far begin all that the script admits
record Begun (script : Script) (exts : List Ext) : Type 0 where
  later : List Ext
  is : admitted script ≡ exts ++ later

begun : (script : Script) (core : Trace) (report : Report) → Stands script core report → Begun script core.exts
begun script core report stands =
    let all = admitted_to-begins most_admitted script report.tick (omega (arith, stands.gathered.within, stands.tick)) in
    record {
      later = rest_of report ++ all.rest;
      is = all.is ∙ (ap (λ (xs : List Ext). xs ++ all.rest) stands.left.adds ∙ append_assoc core.exts (rest_of report) all.rest);
    }

in_part : (script : Script) (calls : Bool) (exts : List Ext) (old new : Option (List ℕ)) → Begun script exts → AppendsPrefix old new (later_text script calls [] exts)
    → AppendsPrefix old new (report_in_full script calls)
in_part script calls exts old new b part =
    report_begun script calls old new
    (subst (λ (text : List ℕ). AppendsPrefix old new text) (sym (ap (later_text script calls []) b.is ∙ later_text-append script calls [] exts b.later)) (part_more old new _ _ part))

pub stood_part : (script : Script) (calls : Bool) (core : Trace) (report : Report) (old new : Option (List ℕ)) → Stands script core report → Appends old new (later_text script calls [] core.exts)
    → AppendsPrefix old new (report_in_full script calls)
stood_part script calls core report old new stands wrote =
    in_part script calls core.exts old new (begun script core report stands) (begins_all old new (later_text script calls [] core.exts) wrote)

-- ---- one part more
module _ (script : Script) (calls : Bool) (w : Trace) (report : Report) (count : ℕ) (p : HasPartRun script w report count) where
  abbrev part : List Ext
  part = take count (rest_of report)

  pub ended : HasEnded script p.before.exts part w
  ended = has_ended script p.before.exts part p.before p.opened w report.totals p.stands.has_run p.has_opened p.held p.later p.cleared p.still_held p.all p.home

  added : later_text script calls [] p.before.exts ++ later_text script calls (take report.totals.comps w.exts) (drop report.totals.comps w.exts) ≡ later_text script calls [] w.exts
  added =
      let is = before_is script p.before.exts part w report.totals.comps ended p.stands.has_run.counted.comps in
      ap (λ (xs : List Ext). later_text script calls [] p.before.exts ++ later_text script calls xs (drop report.totals.comps w.exts)) is.0
      ∙ (ap (λ (xs : List Ext). later_text script calls [] p.before.exts ++ later_text script calls p.before.exts xs) is.1
      ∙ (sym (later_text-append script calls [] p.before.exts part) ∙ ap (later_text script calls []) (sym ended.exts)))

  pub text_more : (old mid new : Option (List ℕ)) → Appends old mid (later_text script calls [] p.before.exts)
      → Appends mid new (later_text script calls (take report.totals.comps w.exts) (drop report.totals.comps w.exts)) → Appends old new (later_text script calls [] w.exts)
  text_more old mid new wrote more = subst (λ (text : List ℕ). Appends old new text) added (Appends-trans old mid new _ _ wrote more)

  begun_with : Begun script w.exts
  begun_with =
      let all = admitted_to-begins most_admitted script report.tick (omega (arith, p.stands.gathered.within, p.stands.tick)) in
      record {
        later = drop count (rest_of report) ++ all.rest;
        is = all.is
            ∙ (ap (λ (xs : List Ext). xs ++ all.rest) (p.stands.left.adds ∙ ap (λ (xs : List Ext). p.before.exts ++ xs) (sym (take-append-drop count (rest_of report))))
            ∙ (ap (λ (xs : List Ext). xs ++ all.rest) (sym (append_assoc p.before.exts part (drop count (rest_of report))))
            ∙ (append_assoc (p.before.exts ++ part) (drop count (rest_of report)) all.rest ∙ ap (λ (xs : List Ext). xs ++ (drop count (rest_of report) ++ all.rest)) (sym ended.exts))));
      }

  pub text_part : (old mid new : Option (List ℕ)) → Appends old mid (later_text script calls [] p.before.exts)
      → AppendsPrefix mid new (later_text script calls (take report.totals.comps w.exts) (drop report.totals.comps w.exts)) → AppendsPrefix old new (report_in_full script calls)
  text_part old mid new wrote more =
      in_part script calls w.exts old new begun_with (subst (λ (text : List ℕ). AppendsPrefix old new text) added (part_after old mid new _ _ wrote more))

-- ---- the end
module _ (script : Script) (calls limited : Bool) (exts : List Ext) (old mid new : Option (List ℕ)) (whole : exts ≡ admitted script) (told : limited ≡ is_limited script)
    (wrote : Appends old mid (later_text script calls [] exts)) where
  all_of : later_text script calls [] exts ++ end_text script limited exts ≡ report_in_full script calls
  all_of =
      ap (λ (xs : List Ext). later_text script calls [] xs ++ end_text script limited xs) whole
      ∙ (ap (λ (b : Bool). later_text script calls [] (admitted script) ++ end_text script b (admitted script)) told ∙ sym (report-is script calls))

  pub report_whole : Appends mid new (end_text script limited exts) → Appends old new (report_in_full script calls)
  report_whole last = subst (λ (text : List ℕ). Appends old new text) all_of (Appends-trans old mid new _ _ wrote last)

  pub report_part : AppendsPrefix mid new (end_text script limited exts) → AppendsPrefix old new (report_in_full script calls)
  report_part last = subst (λ (text : List ℕ). AppendsPrefix old new text) all_of (part_after old mid new _ _ wrote last)

-- ---- fewer computations are left after a part
pub fewer_left : (script : Script) (calls : Bool) (w : Trace) (report : Report) (count : ℕ) (p : HasPartRun script w report count) (v : Trace) (new : Report) → v.exts ≡ w.exts → Stands script v new
    → 100000 - length v.exts < 100000 - length p.before.exts
fewer_left script calls w report count p v new same stands =
    let part : List Ext = take count (rest_of report) in
    let few : length v.exts + length (rest_of new) ≤ 100000 = part_few script v.exts new.tick (rest_of new) stands.left in
    let size : length v.exts ≡ length (p.before.exts ++ part) = ap (λ (xs : List Ext). length xs) (same ∙ (ended script calls w report count p).exts) in
    omega (arith, few, size, length-append p.before.exts part, length-take count (rest_of report), p.some, p.within)
