-- One computation more is written and counted.
use Rattle.std.proofs.Common.{◌≡◌, ℕ, ◌+◌, ◌-◌, ◌*◌, ◌^◌, ◌<◌, ◌≤◌, Bool, List, [], ◌∷◌, ◌++◌, length, get_or, take, drop, Some, sym, ap, ◌∙◌, arith, append_assoc, append-nil, slice_get, count_by, subst, length-drop}
use Rattle.std.specs.List.{All}
use Rattle.std.proofs.lemmas.List.{drop_all, drop_more, get_or-drop, length-take-le}
use Rattle.std.proofs.lemmas.List.Elements.{All-get_or}
use Rattle.std.proofs.lemmas.List.Sums.{count_by-le-length}
use Rattle.std.proofs.lemmas.Option.{slice_get_within, get_or_from_slice_get}
use Rattle.samoa_model.specs.declared.record.Entry.{Entry}
use Rattle.samoa_model.specs.declared.record.Ext.{Ext}
use Rattle.samoa_model.specs.declared.script.Script.{Script}
use Rattle.samoa_model.specs.Range.{IsInRange}
use Rattle.samoa_serial.specs.Whole.{Ran}
use Rattle.samoa_serial.specs.SerialRun.{Served, serve_from, serve_one, serial, ran_of, opening_states}
use Rattle.samoa_serial.specs.Report.{comp_text, entries_of_sort, is_delivery, is_refusal}
use Rattle.samoa_serial.proofs.SerialLaws.{comp_at}
use Rattle.samoa_serial.proofs.ReportLaws.{entries_of_sort-append, entries_of_sort-one_more}
use Rattle.samoa_invariant.specs.Runs.{Trace, no_ran, served_at}
use Rattle.samoa_net.specs.Gathered.{Gathered}
use Rattle.samoa_ledger.specs.declared.totals.Totals.{Totals}
use Rattle.samoa_ledger.specs.Gathering.{Gathers, HasGathered}
use Rattle.samoa_ledger.specs.Written.{AreTotals, Counts, later_text, next_ran, next_text}
use Rattle.samoa_ledger.proofs.EntryBound.{entries_of_ran-at_most}
use Rattle.samoa_ledger.proofs.EntrySteps.{take_one_more}
use Rattle.samoa_ledger.proofs.Gathering.{gathered_more}
use Rattle.samoa_ledger.proofs.LaterText.{later_text-first, later_text-none}

-- this was admitted to a core for the script, after k others
pub record IsAt (script : Script) (core : Trace) (k : ℕ) (ext : Ext) : Type 0 where
  pub of_script : core.script ≡ script
  pub there : slice_get core.exts k ≡ Some ext

-- its computation is the next one after those before it
served_is : (script : Script) (core : Trace) (k : ℕ) (ext : Ext) → IsAt script core k ext → served_at core (k + 1) ≡ next_ran script (take k core.exts) ext
served_is script core k ext is =
    let exts : List Ext = core.exts in
    let lt : k < length exts = slice_get_within exts k ext is.there in
    let at : get_or exts k ext ≡ ext = get_or_from_slice_get exts k ext ext is.there in
    let place : k + 1 - 1 ≡ k = omega arith in
    let found : slice_get (serial script exts).comps k ≡ Some (next_ran script (take k exts) ext)
    = comp_at script exts k ext lt ∙ ap (λ (x : Ext). Some (next_ran script (take k exts) x)) at in
    ap (λ (s : Script). get_or (serial s exts).comps (k + 1 - 1) no_ran) is.of_script
    ∙ (ap (λ (n : ℕ). get_or (serial script exts).comps n no_ran) place
    ∙ get_or_from_slice_get (serial script exts).comps k (next_ran script (take k exts) ext) no_ran found)

first_more : (script : Script) (core : Trace) (k : ℕ) (ext : Ext) → IsAt script core k ext → take (k + 1) core.exts ≡ take k core.exts ++ ext ∷ []
first_more script core k ext is = take_one_more core.exts k ext (sym is.there)

-- what it brings the next tick is gathered with what those before it bring
pub gathered_at : (script : Script) (core : Trace) (k : ℕ) (ext : Ext) (before after : Gathered) → IsAt script core k ext → HasGathered script (take k core.exts) before
    → ext.tick ≡ before.tick → Gathers script ext (served_at core (k + 1)).world.entries before after → after.comp ≤ k + 1 → HasGathered script (take (k + 1) core.exts) after
gathered_at script core k ext before after is has tick gathers comp =
    let past : List Ext = take k core.exts in
    let lt : k < length core.exts = slice_get_within core.exts k ext is.there in
    let many : length past ≡ k = length-take-le k core.exts (omega (arith, lt)) in
    let own : Gathers script ext (next_ran script past ext).world.entries before after
    = subst (λ (r : Ran). Gathers script ext r.world.entries before after) (served_is script core k ext is) gathers in
    subst (λ (l : List Ext). HasGathered script l after) (sym (first_more script core k ext is))
    (gathered_more script past ext before after has tick own (omega (arith, comp, many)))

-- an admission among the later ones
pub later_at : (P : Ext → Type 0) (exts : List Ext) (n k : ℕ) (d : Ext) → All P (drop n exts) → n ≤ k → k < length exts → P (get_or exts k d)
later_at P exts n k d all le lt =
    let place : n + (k - n) ≡ k = omega (arith, le) in
    let within : k - n < length (drop n exts) = omega (arith, le, lt, length-drop n exts) in
    subst P (get_or-drop n exts (k - n) d ∙ ap (λ (i : ℕ). get_or exts i d) place) (All-get_or P (drop n exts) (k - n) d within all)

-- its part of the report comes before those of the later ones
pub text_at : (script : Script) (calls : Bool) (core : Trace) (k : ℕ) (ext : Ext) → IsAt script core k ext
    → later_text script calls (take k core.exts) (drop k core.exts)
    ≡ comp_text script calls (k + 1) ext (served_at core (k + 1)) ++ later_text script calls (take (k + 1) core.exts) (drop (k + 1) core.exts)
text_at script calls core k ext is =
    let exts : List Ext = core.exts in
    let past : List Ext = take k exts in
    let rest : List Ext = drop (k + 1) exts in
    let lt : k < length exts = slice_get_within exts k ext is.there in
    let many : length past ≡ k = length-take-le k exts (omega (arith, lt)) in
    let from : drop k exts ≡ ext ∷ rest = drop_more exts k ext lt ∙ ap (λ (x : Ext). x ∷ rest) (get_or_from_slice_get exts k ext ext is.there) in
    let own : next_text script calls past ext ≡ comp_text script calls (k + 1) ext (served_at core (k + 1))
    = ap (λ (n : ℕ). comp_text script calls (n + 1) ext (next_ran script past ext)) many
    ∙ ap (λ (r : Ran). comp_text script calls (k + 1) ext r) (sym (served_is script core k ext is)) in
    ap (later_text script calls past) from
    ∙ (later_text-first script calls past ext rest
    ∙ (ap (λ (t : List ℕ). t ++ later_text script calls (past ++ ext ∷ []) rest) own
    ∙ ap (λ (l : List Ext). comp_text script calls (k + 1) ext (served_at core (k + 1)) ++ later_text script calls l rest) (sym (first_more script core k ext is))))

-- entries of a sort: at most 2,312 for each computation
sorts_from : (sort : Entry → Bool) (script : Script) → IsInRange script → (before : List Ext) (served : Served) (later : List Ext)
    → entries_of_sort sort (serve_from script before served later).comps ≤ entries_of_sort sort served.comps + 2312 * length later
sorts_from sort script range before served [] = omega arith
sorts_from sort script range before served (ext ∷ later) =
    let ran = ran_of script before (served.states ext.node.0) ext in
    let rest = sorts_from sort script range (before ++ ext ∷ []) (serve_one script before served ext) later in
    let few = entries_of_ran-at_most script before (served.states ext.node.0) ext range in
    omega (arith, rest, few, count_by-le-length sort ran.world.entries, entries_of_sort-append sort served.comps ran)

pub sorts-most : (sort : Entry → Bool) (script : Script) (past : List Ext) → IsInRange script → entries_of_sort sort (serial script past).comps ≤ 2312 * length past
sorts-most sort script past range =
    let all = sorts_from sort script range [] (record { states = opening_states script; comps = [] }) past in omega arith

-- there is room to count its entries
pub room_for : (sort : Entry → Bool) (script : Script) (core : Trace) (k : ℕ) (ext : Ext) (total : ℕ) → IsInRange script → k < 100000
    → IsAt script core k ext → total ≡ entries_of_sort sort (serial script (take k core.exts)).comps → total + length (served_at core (k + 1)).world.entries < 2 ^ 64
room_for sort script core k ext total range few is counted =
    let past : List Ext = take k core.exts in
    let lt : k < length core.exts = slice_get_within core.exts k ext is.there in
    let many : length past ≡ k = length-take-le k core.exts (omega (arith, lt)) in
    let most = sorts-most sort script past range in
    let own = entries_of_ran-at_most script past ((serial script past).states ext.node.0) ext range in
    let as_many : length (served_at core (k + 1)).world.entries ≡ length (next_ran script past ext).world.entries = ap (λ (r : Ran). length r.world.entries) (served_is script core k ext is) in
    omega (arith, most, own, as_many, many)

-- the totals with it
pub totals_more : (script : Script) (core : Trace) (k : ℕ) (ext : Ext) (before after : Totals) → IsAt script core k ext
    → AreTotals script (take k core.exts) before → Counts (served_at core (k + 1)).world.entries before after
    → AreTotals script (take (k + 1) core.exts) (record after { comps = after.comps + 1 })
totals_more script core k ext before after is are counts =
    let past : List Ext = take k core.exts in
    let lt : k < length core.exts = slice_get_within core.exts k ext is.there in
    let many : length past ≡ k = length-take-le k core.exts (omega (arith, lt)) in
    let more : length (take (k + 1) core.exts) ≡ k + 1 = length-take-le (k + 1) core.exts (omega (arith, lt)) in
    let own : (sort : Entry → Bool) → count_by sort (served_at core (k + 1)).world.entries ≡ count_by sort (next_ran script past ext).world.entries
    = λ sort. ap (λ (r : Ran). count_by sort r.world.entries) (served_is script core k ext is) in
    let sum : (sort : Entry → Bool) → entries_of_sort sort (serial script (take (k + 1) core.exts)).comps
    ≡ entries_of_sort sort (serial script past).comps + count_by sort (next_ran script past ext).world.entries
    = λ sort. ap (λ (l : List Ext). entries_of_sort sort (serial script l).comps) (first_more script core k ext is) ∙ entries_of_sort-one_more sort script past ext in
    record {
      comps = omega (arith, counts.comps, are.comps, many, more);
      deliveries = omega (arith, counts.deliveries, are.deliveries, own is_delivery, sum is_delivery);
      refusals = omega (arith, counts.refusals, are.refusals, own is_refusal, sum is_refusal);
    }

-- what was written, and what is still to be written
pub text_more : (script : Script) (calls : Bool) (core : Trace) (k : ℕ) (ext : Ext) (before after all : List ℕ) → IsAt script core k ext
    → before ++ later_text script calls (take k core.exts) (drop k core.exts) ≡ all → after ≡ before ++ comp_text script calls (k + 1) ext (served_at core (k + 1))
    → after ++ later_text script calls (take (k + 1) core.exts) (drop (k + 1) core.exts) ≡ all
text_more script calls core k ext before after all is so_far one =
    let own : List ℕ = comp_text script calls (k + 1) ext (served_at core (k + 1)) in
    let rest : List ℕ = later_text script calls (take (k + 1) core.exts) (drop (k + 1) core.exts) in
    ap (λ (t : List ℕ). t ++ rest) one
    ∙ (append_assoc before own rest ∙ (ap (λ (t : List ℕ). before ++ t) (sym (text_at script calls core k ext is)) ∙ so_far))

-- nothing is still to be written
pub text_all : (script : Script) (calls : Bool) (exts : List Ext) (k : ℕ) (text all : List ℕ) → length exts ≤ k
    → text ++ later_text script calls (take k exts) (drop k exts) ≡ all → text ≡ all
text_all script calls exts k text all past so_far =
    sym (append-nil text)
    ∙ (ap (λ (t : List ℕ). text ++ t) (sym (ap (later_text script calls (take k exts)) (drop_all k exts past) ∙ later_text-none script calls (take k exts))) ∙ so_far)
