-- What is written for a script of the group stack tells one order, whatever is ordered, and at every status.
use Rattle.std.proofs.Common.{◌≡◌, refl, sym, ap, subst, ◌∙◌, ℕ, Bool, true, false, List, [], ◌∷◌, ◌++◌, append_assoc, append-nil, codes, decimal, Option, Some, inl, inr}
use Rattle.std.specs.Io.KnownBytes.{Appends}
use Rattle.samoa_ends.specs.Pieces.{AppendsPrefix}
use Rattle.samoa_model.specs.Cells.{need}
use Rattle.samoa_model.specs.Range.{IsInRange}
use Rattle.samoa_model.specs.declared.script.Script.{Script}
use Rattle.samoa_serial.specs.LimitedReport.{report_in_full}
use Rattle.samoa_grammar.specs.Held.{Holds}
use Rattle.samoa_print.specs.Canonical.{tree_of}
use Rattle.samoa_script.proofs.Apart.{answers_apart, one_script}
use Rattle.samoa_script.proofs.Held.{held_valid}
use Rattle.samoa_model.specs.declared.record.Step.{Step}
use Rattle.samoa_replay.specs.declared.fault.ReplayFault.{ReplayFault}
use Rattle.samoa_replay.specs.declared.fault.ReplayFault.TheVariants.{Memory, NotEnabled, Trailing, Unfinished}
use Rattle.serde_json.specs.Data.{Data, object, Members}
use Rattle.serde_json.specs.Written.{compact_text, members_text}
use Rattle.samoa_laws.specs.trace.Group.{IsGroup}
use Rattle.samoa_laws.specs.text.Clause.{AppendsOneOrder, IsMute}
use Rattle.samoa_laws.proofs.text.Laws.{appends_order_then, mute_order}
use Rattle.samoa_report.specs.Steps.{journal_text}
use Rattle.samoa_laws.proofs.text.Journals.{mute_journal}
use Rattle.samoa_laws.proofs.text.Mute.{mute_begun}
use Rattle.samoa_laws.proofs.text.Texts.{Plain, both, literal, number as number_plain, space}
use Rattle.samoa_run.specs.declared.words.Order.{Order}
use Rattle.samoa_run.specs.declared.words.Order.TheVariants.{Run, Serial, Check}
use Rattle.samoa_run.specs.Due.{IsBegun, IsOutput, IsRunOutput, canonical_text, few_cells, has_cells, turned_away_line}
use Rattle.samoa_run.specs.Made.{counts_line, line_for, made_line}
use Rattle.samoa_run.specs.Replays as replays
use Rattle.samoa_run.specs.Replays.{IsDueFor, IsDueForJournal, IsDueForSteps, Replays, Replies, bad_line, complete, faulty, in_lines, journal_fault_line, journal_part, refused, replay_line, script_part, silent, told, too_long}
use Rattle.samoa_run.specs.Serving.{Answers, AnswersOne, Ends, IsDueOrFailed, Obeys}
use Rattle.samoa_run.proofs.OneLine.{compact_lacks}
use Rattle.samoa_run.proofs.Served.{one_of}

-- a text is a report of the script and then a text that tells nothing, or it tells nothing
data TellsAtMost (script : Script) (text : List ℕ) : Type 0 where
  report_then : (calls : Bool) (more : List ℕ) → IsMute more → text ≡ report_in_full script calls ++ more → TellsAtMost script text
  nothing : IsMute text → TellsAtMost script text

the_report : (script : Script) (calls : Bool) (text : List ℕ) → text ≡ report_in_full script calls → TellsAtMost script text
the_report script calls text is = report_then calls [] tt (is ∙ sym (append-nil (report_in_full script calls)))

-- ---- from what was appended
module _ (script : Script) (group : IsGroup script) (range : IsInRange script) (old new : Option (List ℕ)) where
  prefix_order : (text : List ℕ) → TellsAtMost script text → AppendsPrefix old new text → AppendsOneOrder old new
  prefix_order text (report_then calls more mute is) written =
      appends_order_then script group range calls more old new mute (subst (λ (t : List ℕ). AppendsPrefix old new t) is written)
  prefix_order text (nothing mute) written = mute_order text old new mute written

  whole_order : (text : List ℕ) → TellsAtMost script text → Appends old new text → AppendsOneOrder old new
  whole_order text tells written = prefix_order text tells (record { piece = text; appended = written; prefix = record { rest = []; whole = sym (append-nil text) } })

  answers_order : {due status : ℕ} {meant begun : List ℕ → Type 0} → ((text : List ℕ) → meant text → TellsAtMost script text)
      → ((text : List ℕ) → begun text → TellsAtMost script text) → AnswersOne due meant begun old new status → AppendsOneOrder old new
  answers_order {due} {status} tells begins answers = go answers.no_other
    where
      go : IsDueOrFailed due status → AppendsOneOrder old new
      go (inl is) = let wrote = answers.whole is in whole_order wrote.text (tells wrote.text wrote.is_meant) wrote.all
      go (inr (inl is)) = whole_order [] (nothing tt) (answers.source_failed is)
      go (inr (inr (inl is))) = let began = answers.sink_failed is in prefix_order began.text (begins began.text began.is_meant) began.part
      go (inr (inr (inr is))) = let began = answers.memory is in prefix_order began.text (begins began.text began.is_meant) began.part

  mute_answers_order : {due status : ℕ} (text : List ℕ) → IsMute text → Answers due text old new status → AppendsOneOrder old new
  mute_answers_order text mute answers = answers_order {meant = λ (t : List ℕ). t ≡ text} {begun = λ (t : List ℕ). t ≡ text} (λ t is. nothing (subst IsMute (sym is) mute)) (λ t is. nothing (subst IsMute (sym is) mute)) (one_of text refl refl answers)

-- ---- the texts that are written
cells_mute : (cells needed : ℕ) → IsMute (few_cells cells needed)
cells_mute cells needed =
    let rest : List ℕ = codes " cells " ++ (decimal cells ++ (codes " " ++ decimal needed)) in
    let plain : Plain (33 ∷ rest) = both (literal (codes "! cells ") refl) (both (number_plain cells) (both space (number_plain needed))) in
    let same : 33 ∷ (rest ++ codes "\n") ≡ few_cells cells needed =
    ap (λ (t : List ℕ). codes "! cells " ++ t) (append_assoc (decimal cells) (codes " " ++ decimal needed) (codes "\n")) in
    subst IsMute same (mute_begun 33 rest (refl, (refl, (refl, refl))) plain)

object_mute : (ms : Members) → IsMute (compact_text (object ms) ++ codes "\n")
object_mute ms = mute_begun 123 (members_text false ms) (refl, (refl, (refl, refl))) (record { lacks = compact_lacks (object ms) })

-- a script's tree is an object
members_of : (script : Script) → (ms : Members) × (tree_of script ≡ object ms)
unfolding tree_of
members_of script = (_, refl)

canonical_mute : (script : Script) → IsMute (canonical_text script)
canonical_mute script =
    let found = members_of script in
    subst (λ (d : Data). IsMute (compact_text d ++ codes "\n")) (sym found.1) (object_mute found.0)

turned_away_mute : (order : Order) (script : Script) → IsMute (turned_away_line order script)
turned_away_mute (Run workers cells calls journal) script = cells_mute cells (need script)
turned_away_mute (Serial calls) script = tt
turned_away_mute Check script = tt

run_tells : (journal : Bool) (script : Script) (calls : Bool) (text : List ℕ) → IsRunOutput journal script calls text → TellsAtMost script text
run_tells false script calls text is = the_report script calls text is
run_tells true script calls text (steps, (finished, is)) = report_then calls (journal_text steps) (mute_journal steps) is

output_tells : (order : Order) (script : Script) (text : List ℕ) → IsOutput order script text → TellsAtMost script text
output_tells (Run workers cells calls journal) script text is = run_tells journal script calls text is
output_tells (Serial calls) script text is = the_report script calls text is
output_tells Check script text is = nothing (subst IsMute (sym is) (canonical_mute script))

begun_tells : (order : Order) (script : Script) (text : List ℕ) → IsBegun order script text → TellsAtMost script text
begun_tells (Run workers cells calls journal) script text (inl is) = the_report script calls text is
begun_tells (Run workers cells calls journal) script text (inr is) = run_tells journal script calls text is
begun_tells (Serial calls) script text is = output_tells (Serial calls) script text is
begun_tells Check script text is = output_tells Check script text is

-- ---- the clauses
pub obeys_order : {order : Order} {ends : Ends} {status : ℕ} (input : List ℕ) (script : Script) → Obeys order ends status → ends.left ≡ Some input → Holds input script
    → IsGroup script → AppendsOneOrder ends.written ends.written_after
obeys_order {order} {ends} {status} input script obeys left held group = go (has_cells order script) refl
  where
    range : IsInRange script
    range = (held_valid input script held).in_range

    go : (b : Bool) → has_cells order script ≡ b → AppendsOneOrder ends.written ends.written_after
    go true can = answers_order script group range ends.written ends.written_after (output_tells order script) (begun_tells order script) (obeys.done input script left held can)
    go false can =
        mute_answers_order script group range ends.written ends.written_after (turned_away_line order script) (turned_away_mute order script)
        (obeys.turned_away input script left held can)

pub usage_order : {status : ℕ} {old new : Option (List ℕ)} (input : List ℕ) (script : Script) → Answers 2 (codes "! usage\n") old new status → Holds input script
    → IsGroup script → AppendsOneOrder old new
usage_order {status} {old} {new} input script answers held group =
    let mute : IsMute (codes "! usage\n") = mute_begun 33 (codes " usage") (refl, (refl, (refl, refl))) (literal (codes "! usage") refl) in
    mute_answers_order script group (held_valid input script held).in_range old new (codes "! usage\n") mute answers

-- ---- the line of a generated script
counts_mute : (n comps deliveries refusals : ℕ) → IsMute (counts_line n comps deliveries refusals)
counts_mute n comps deliveries refusals =
    let last : List ℕ = codes " " ++ decimal refusals in
    let some : List ℕ = codes " " ++ (decimal deliveries ++ last) in
    let most : List ℕ = codes " " ++ (decimal comps ++ some) in
    let rest : List ℕ = codes " " ++ (decimal n ++ most) in
    let ending : Plain last = both space (number_plain refusals) in
    let plain : Plain (71 ∷ rest) = both (literal (codes "G ") refl) (both (number_plain n) (both space (both (number_plain comps) (both space (both (number_plain deliveries) ending))))) in
    let same : 71 ∷ (rest ++ codes "\n") ≡ counts_line n comps deliveries refusals =
    ap (λ (t : List ℕ). codes "G " ++ t)
    (append_assoc (decimal n) most (codes "\n")
    ∙ ap (λ (t : List ℕ). decimal n ++ (codes " " ++ t))
    (append_assoc (decimal comps) some (codes "\n") ∙ ap (λ (t : List ℕ). decimal comps ++ (codes " " ++ t)) (append_assoc (decimal deliveries) last (codes "\n")))) in
    subst IsMute same (mute_begun 71 rest (refl, (refl, (refl, refl))) plain)

made_mute : (n : ℕ) → IsMute (made_line n)
unfolding line_for
made_mute n = counts_mute n _ _ _

pub made_order : {status : ℕ} {old new : Option (List ℕ)} (n : ℕ) (input : List ℕ) (script : Script) → Answers 0 (made_line n) old new status → Holds input script
    → IsGroup script → AppendsOneOrder old new
made_order {status} {old} {new} n input script answers held group =
    mute_answers_order script group (held_valid input script held).in_range old new (made_line n) (made_mute n) answers

-- ---- a replay
replay_mute : (cause : List ℕ) (at : ℕ) → Plain cause → IsMute (replay_line cause at)
replay_mute cause at plain =
    let rest : List ℕ = codes " replay " ++ (cause ++ (codes " " ++ decimal at)) in
    let whole : Plain (33 ∷ rest) = both (literal (codes "! replay ") refl) (both plain (both space (number_plain at))) in
    let same : 33 ∷ (rest ++ codes "\n") ≡ replay_line cause at = ap (λ (t : List ℕ). codes "! replay " ++ t) (append_assoc cause (codes " " ++ decimal at) (codes "\n")) in
    subst IsMute same (mute_begun 33 rest (refl, (refl, (refl, refl))) whole)

journal_fault_mute : (fault : ReplayFault) → IsMute (journal_fault_line fault)
journal_fault_mute (NotEnabled line) = replay_mute (codes "NotEnabled") line (literal (codes "NotEnabled") refl)
journal_fault_mute (Unfinished comp) = replay_mute (codes "Unfinished") comp (literal (codes "Unfinished") refl)
journal_fault_mute (Trailing line) = replay_mute (codes "Trailing") line (literal (codes "Trailing") refl)
journal_fault_mute Memory = tt

steps_tell : (script : Script) (steps : List Step) (due : ℕ) (text : List ℕ) → IsDueForSteps script steps due text → TellsAtMost script text
steps_tell script steps due text (complete is p q) = the_report script false text q
steps_tell script steps due text (faulty fault is other p q) = nothing (subst IsMute (sym q) (journal_fault_mute fault))

journal_tells : (script : Script) (journal : List ℕ) (due : ℕ) (text : List ℕ) → IsDueForJournal script journal due text → TellsAtMost script text
journal_tells script journal due text (bad_line line is p q) = nothing (subst IsMute (sym q) (replay_mute (codes "BadLine") line (literal (codes "BadLine") refl)))
journal_tells script journal due text (in_lines steps lines is) = steps_tell script steps due text is

replay_tells : (input : List ℕ) (script : Script) (due : ℕ) (text : List ℕ) → Holds (script_part input) script → IsDueFor input due text → TellsAtMost script text
replay_tells input script due text held (too_long over p q) =
    nothing (subst IsMute (sym q) (mute_begun 33 (codes " script TooLong") (refl, (refl, (refl, refl))) (literal (codes "! script TooLong") refl)))
replay_tells input script due text held (refused fault within fails p q) = absurd (fails.1 (answers_apart (script_part input) script fault held fails.0))
replay_tells input script due text held (replays.held also within there is) =
    subst (λ (s : Script). TellsAtMost s text) (one_script (script_part input) also script there held) (journal_tells also (journal_part input) due text is)

pub replay_order : {ends : Ends} {status : ℕ} (input : List ℕ) (script : Script) → Replays ends status → ends.left ≡ Some input → Holds (script_part input) script
    → IsGroup script → AppendsOneOrder ends.written ends.written_after
replay_order {ends} {status} input script replays left held group = go (replays.replies input left)
  where
    range : IsInRange script
    range = (held_valid (script_part input) script held).in_range

    go : Replies (IsDueFor input) ends.written ends.written_after status → AppendsOneOrder ends.written ends.written_after
    go (told due text is answers) =
        let tells : (t : List ℕ) → t ≡ text → TellsAtMost script t = λ t same. subst (λ (x : List ℕ). TellsAtMost script x) (sym same) (replay_tells input script due text held is) in
        answers_order script group range ends.written ends.written_after {meant = λ (t : List ℕ). t ≡ text} {begun = λ (t : List ℕ). t ≡ text} tells tells (one_of text refl refl answers)
    go (silent which none) = whole_order script group range ends.written ends.written_after [] (nothing tt) none
