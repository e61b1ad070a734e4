-- The report, computation by computation.
use Rattle.std.proofs.Common.{◌≡◌, ℕ, Bool, List, [], ◌∷◌, ◌++◌, refl, sym, ap, ◌∙◌, append_assoc, append-nil}
use Rattle.samoa_model.specs.declared.record.Ext.{Ext}
use Rattle.samoa_model.specs.declared.script.Script.{Script}
use Rattle.samoa_serial.specs.SerialRun.{serial}
use Rattle.samoa_serial.specs.Report.{comps_text}
use Rattle.samoa_serial.proofs.ReportLaws.{comps_text-one_more, comps_text-none}
use Rattle.samoa_ledger.specs.Written.{next_text, later_text}

pub later_text-none : (script : Script) (calls : Bool) (past : List Ext) → later_text script calls past [] ≡ []
unfolding later_text
later_text-none script calls past = refl

pub later_text-first : (script : Script) (calls : Bool) (past : List Ext) (ext : Ext) (exts : List Ext)
    → later_text script calls past (ext ∷ exts) ≡ next_text script calls past ext ++ later_text script calls (past ++ ext ∷ []) exts
unfolding later_text
later_text-first script calls past ext exts = refl

-- first some, then the others
pub later_text-append : (script : Script) (calls : Bool) (past xs ys : List Ext)
    → later_text script calls past (xs ++ ys) ≡ later_text script calls past xs ++ later_text script calls (past ++ xs) ys
unfolding later_text
later_text-append script calls past [] ys = ap (λ (before : List Ext). later_text script calls before ys) (sym (append-nil past))
later_text-append script calls past (x ∷ xs) ys =
    let first = next_text script calls past x in
    let rest = later_text script calls (past ++ x ∷ []) xs in
    ap (λ (text : List ℕ). first ++ text)
    (later_text-append script calls (past ++ x ∷ []) xs ys
    ∙ ap (λ (before : List Ext). rest ++ later_text script calls before ys) (append_assoc past (x ∷ []) xs))
    ∙ sym (append_assoc first rest (later_text script calls (past ++ (x ∷ xs)) ys))

-- the part of the report that the computations make, and what the later ones add to it
pub comps_text-later : (script : Script) (calls : Bool) (past exts : List Ext)
    → comps_text script calls 1 (past ++ exts) (serial script (past ++ exts)).comps
    ≡ comps_text script calls 1 past (serial script past).comps ++ later_text script calls past exts
unfolding later_text
comps_text-later script calls past [] =
    ap (λ (all : List Ext). comps_text script calls 1 all (serial script all).comps) (append-nil past)
    ∙ sym (append-nil (comps_text script calls 1 past (serial script past).comps))
comps_text-later script calls past (x ∷ xs) =
    let before = comps_text script calls 1 past (serial script past).comps in
    let rest = later_text script calls (past ++ x ∷ []) xs in
    ap (λ (all : List Ext). comps_text script calls 1 all (serial script all).comps) (sym (append_assoc past (x ∷ []) xs))
    ∙ comps_text-later script calls (past ++ x ∷ []) xs
    ∙ ap (λ (text : List ℕ). text ++ rest) (comps_text-one_more script calls past x)
    ∙ append_assoc before (next_text script calls past x) rest

-- all of them
pub comps_text-all : (script : Script) (calls : Bool) (exts : List Ext) → comps_text script calls 1 exts (serial script exts).comps ≡ later_text script calls [] exts
comps_text-all script calls exts =
    comps_text-later script calls [] exts ∙ ap (λ (text : List ℕ). text ++ later_text script calls [] exts) (comps_text-none script calls 1 (serial script []).comps)
