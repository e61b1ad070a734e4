-- How many entries a computation makes: nine for each unit and eight more, at most.
use Rattle.std.proofs.Common.{◌≡◌, ℕ, zero, suc, ◌+◌, ◌*◌, ◌≤◌, List, [], ◌∷◌, ◌++◌, length, map, Option, Some, None, refl, ap, arith, length-append}
use Rattle.std.proofs.lemmas.List.{length-map}
use Rattle.samoa_model.specs.declared.ids.EventId.{EventId}
use Rattle.samoa_model.specs.declared.handler.Reply.{Reply}
use Rattle.samoa_model.specs.declared.handler.Moment.{Moment}
use Rattle.samoa_model.specs.declared.handler.Outcome.{Outcome}
use Rattle.samoa_model.specs.declared.handler.Refusal.{Refusal}
use Rattle.samoa_model.specs.declared.record.Entry.{Entry}
use Rattle.samoa_model.specs.declared.record.Ending.{Ending}
use Rattle.samoa_model.specs.declared.record.Ext.{Ext}
use Rattle.samoa_model.specs.declared.script.Script.{Script}
use Rattle.samoa_model.specs.Allowed.{Attempt}
use Rattle.samoa_model.specs.Range.{IsInRange}
use Rattle.samoa_model.specs.Scripts.{decl_of, root_of}
use Rattle.samoa_serial.specs.declared.call.Call.{Call}
use Rattle.samoa_serial.specs.declared.call.Waiting.{Waiting}
use Rattle.samoa_serial.specs.World.{Books, States, World, Rules, begin, resume, calls_from, next_call, entry_of, caller_number, noted, stepped, turned}
use Rattle.samoa_serial.specs.Whole.{Ran, Runs, go_on, run_each, answered, call_event, takes_effect, spends, ends_or_spends, from_turn, no_more, whole_within, whole, waiting_within, event_whole}
use Rattle.samoa_serial.proofs.Bound.{IsAtMostFour, AcceptsAtMostFour}
use Rattle.samoa_serial.specs.SerialRun.{rules_of, ran_of}
use Rattle.samoa_serial.proofs.Lengths.{length-calls_from}
use Rattle.samoa_serial.proofs.ScriptLaws.{budget-most, rules-at_most_four}

-- the entries that are there, and those that can still come: nine for each unit, eight for each waiting call
abbrev pub entries_within : Books → ℕ
entries_within b = 9 * b.units + 8 * length b.waiting + length b.entries

-- a call makes one entry that nothing else pays for
abbrev IsPaid : Runs → Type 0
IsPaid run = (w : World) (c : Call) (m : Moment) → entries_within (run w c m).world.books ≤ entries_within w.books + 1

go_on-within : (most : ℕ) (w : World) (v : Ending) (next : World → Reply → Ran) → entries_within w.books ≤ most
    → ((r : Reply) → entries_within (next w r).world.books ≤ most) → entries_within (go_on w v next).world.books ≤ most
go_on-within most w (Ending.Replied r) next now later = later r
go_on-within most w Ending.Cut next now later = now

run_each-within : (run : Runs) → IsPaid run → (arg : List ℕ) (c : Call) (cs : List Call) (w : World)
    → entries_within (run_each run arg c cs w).world.books ≤ entries_within w.books + length cs + 1
run_each-within run paid arg c [] w = let h = paid w c (begin c arg) in omega arith
run_each-within run paid arg c (d ∷ ds) w =
    let ran = run w c (begin c arg) in
    let first = paid w c (begin c arg) in
    let rest = run_each-within run paid arg d ds ran.world in
    go_on-within (entries_within w.books + length (d ∷ ds) + 1) ran.world ran.value (λ w' r. run_each run arg d ds w') (omega arith) (λ r. omega arith)

answered-within : (run : Runs) → IsPaid run → (w : World) (caller : Option Call) (event : EventId) (arg : List ℕ) (a : Attempt) → IsAtMostFour a
    → entries_within (answered run w caller event arg a).world.books ≤ entries_within w.books + 8
answered-within run paid w caller event arg (Attempt.Refuses refusal) four = omega (arith, length-append w.entries (Entry.Refused (caller_number caller) (Some event) refusal ∷ []))
answered-within run paid w caller event arg (Attempt.Accepts h hs) four =
    let c = next_call w.entries h in
    let cs = calls_from c.number hs in
    let entry : Call → Entry = λ (d : Call). entry_of (caller_number caller) arg d in
    let made : List Entry = map entry (c ∷ cs) in
    let w' : World = record w { books = record w.books { entries = w.entries ++ made } } in
    let all = run_each-within run paid arg c cs w' in
    omega (arith, all, length-append w.entries made, length-map (c ∷ cs) entry, length-calls_from c.number hs, four)

one_noted : (rules : Rules) (run : Runs) → IsPaid run → (w : World) (c : Call) (frame : List ℕ) (e : Entry)
    → entries_within (run (record w { books = noted w.books e }) c (resume c frame (Reply.Words []))).world.books ≤ entries_within w.books + 10
one_noted rules run paid w c frame e =
    let h = paid (record w { books = noted w.books e }) c (resume c frame (Reply.Words [])) in omega (arith, h, length-append w.entries (e ∷ []))

takes_effect-within : (rules : Rules) (run : Runs) → AcceptsAtMostFour rules.attempt → IsPaid run → (w : World) (c : Call) (o : Outcome)
    → entries_within (takes_effect rules run w c o).world.books ≤ entries_within w.books + 10
takes_effect-within rules run four paid w c (Outcome.Call event arg frame) =
    let ran = call_event rules run w (Some c) event arg in
    let called = answered-within run paid w (Some c) event arg (rules.attempt w.entries (Some c) event) (four _ _ _) in
    go_on-within (entries_within w.books + 10) ran.world ran.value (λ w' reply. run w' c (resume c frame reply)) (omega arith)
    (λ r. let later = paid ran.world c (resume c frame r) in omega arith)
takes_effect-within rules run four paid w c (Outcome.Later event arg frame) =
    let asked : Waiting = record { asker = c; event = event; arg = arg } in
    let entered : Entry = Entry.Waiting c.number event arg in
    let w' : World = record w { books = record { units = w.units; waiting = w.waiting ++ asked ∷ []; entries = w.entries ++ entered ∷ [] } } in
    let later = paid w' c (resume c frame (Reply.Words [])) in
    omega (arith, later, length-append w.waiting (asked ∷ []), length-append w.entries (entered ∷ []))
takes_effect-within rules run four paid w c (Outcome.Send to event arg frame) = one_noted rules run paid w c frame (Entry.Sent c.number to event arg)
takes_effect-within rules run four paid w c (Outcome.Deliver arg frame) = one_noted rules run paid w c frame (Entry.Delivered c.number c.handler.micro arg)
takes_effect-within rules run four paid w c (Outcome.Change change arg frame) = one_noted rules run paid w c frame (Entry.Asked c.number change arg)
takes_effect-within rules run four paid w c (Outcome.Done reply) = omega arith

spends-within : (rules : Rules) (run : Runs) → AcceptsAtMostFour rules.attempt → IsPaid run → (w : World) (c : Call) (o : Outcome) (units : ℕ) → w.units ≡ units
    → entries_within (spends rules run w c o units).world.books ≤ entries_within w.books + 1
spends-within rules run four paid w c o zero e = omega (arith, length-append w.entries (Entry.Refused c.number None Refusal.OverBudget ∷ []))
spends-within rules run four paid w c o (suc left) e =
    let h = takes_effect-within rules run four paid (record w { books = record w.books { units = left } }) c o in omega arith

ends_or_spends-within : (rules : Rules) (run : Runs) → AcceptsAtMostFour rules.attempt → IsPaid run → (w : World) (c : Call) (o : Outcome)
    → entries_within (ends_or_spends rules run w c o).world.books ≤ entries_within w.books + 1
ends_or_spends-within rules run four paid w c (Outcome.Done reply) = omega (arith, length-append w.entries (Entry.Finished c.number reply ∷ []))
ends_or_spends-within rules run four paid w c o = spends-within rules run four paid w c o w.units refl

from_turn-within : (rules : Rules) (run : Runs) → AcceptsAtMostFour rules.attempt → IsPaid run → IsPaid (from_turn rules run)
from_turn-within rules run four paid w c m =
    let new = stepped rules w.states c m in ends_or_spends-within rules run four paid (turned w c m new) c new.1

no_more-within : IsPaid no_more
no_more-within w c m = omega arith

whole_within-within : (rules : Rules) → AcceptsAtMostFour rules.attempt → (bound : ℕ) → IsPaid (whole_within rules bound)
whole_within-within rules four zero = from_turn-within rules no_more four no_more-within
whole_within-within rules four (suc bound) = from_turn-within rules (whole_within rules bound) four (whole_within-within rules four bound)

whole-within : (rules : Rules) → AcceptsAtMostFour rules.attempt → IsPaid (whole rules)
whole-within rules four w c m = whole_within-within rules four w.units w c m

waiting_within-within : (rules : Rules) → AcceptsAtMostFour rules.attempt → (bound : ℕ) (waiting : List Waiting) (w : World) (answer : Reply) → w.waiting ≡ waiting
    → entries_within (waiting_within rules bound waiting w answer).world.books ≤ entries_within w.books
waiting_within-within rules four bound [] w answer e = omega arith
waiting_within-within rules four zero (first ∷ later) w answer e = omega arith
waiting_within-within rules four (suc bound) (first ∷ later) w answer e =
    let w' : World = record w { books = record w.books { waiting = later } } in
    let as_many : length w.waiting ≡ length (first ∷ later) = ap (λ (ws : List Waiting). length ws) e in
    let ran = call_event rules (whole rules) w' (Some first.asker) first.event first.arg in
    let called = answered-within (whole rules) (whole-within rules four) w' (Some first.asker) first.event first.arg (rules.attempt w'.entries (Some first.asker) first.event) (four _ _ _) in
    go_on-within (entries_within w.books) ran.world ran.value (λ w'' reply. waiting_within rules bound w''.waiting w'' answer) (omega arith)
    (λ r. let rest = waiting_within-within rules four bound ran.world.waiting ran.world answer refl in omega arith)

-- the entries of a computation
pub entries-at_most : (rules : Rules) → AcceptsAtMostFour rules.attempt → (budget : ℕ) (states : States) (event : EventId) (arg : List ℕ)
    → length (event_whole rules budget states event arg).world.entries ≤ 9 * budget + 8
entries-at_most rules four budget states event arg =
    let w : World = record { states = states; turns = []; books = record { units = budget; waiting = []; entries = [] } } in
    let ran = call_event rules (whole rules) w None event arg in
    let called = answered-within (whole rules) (whole-within rules four) w None event arg (rules.attempt [] None event) (four _ _ _) in
    let all : entries_within (event_whole rules budget states event arg).world.books ≤ 9 * budget + 8
    = go_on-within (9 * budget + 8) ran.world ran.value (λ w' answer. waiting_within rules (w'.units + length w'.waiting) w'.waiting w' answer) (omega arith)
    (λ r. let rest = waiting_within-within rules four (ran.world.units + length ran.world.waiting) ran.world.waiting ran.world r refl in omega arith) in
    omega arith

-- a computation of a script in range makes at most 2,312 entries
pub entries_of_ran-at_most : (script : Script) (before : List Ext) (states : States) (ext : Ext) → IsInRange script
    → length (ran_of script before states ext).world.entries ≤ 2312
entries_of_ran-at_most script before states ext range =
    let budget = budget-most script ext range in
    let all = entries-at_most (rules_of script before ext) (rules-at_most_four script before ext range) (decl_of script ext).budget states (root_of script ext.cause) ext.args in
    omega (arith, budget, all)
