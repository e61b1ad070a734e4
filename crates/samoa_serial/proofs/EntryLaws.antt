-- What holds of each entry that a handler step gives holds of each entry of a computation.
use Rattle.std.proofs.Common.{ℕ, zero, suc, ◌+◌, List, [], ◌∷◌, ◌++◌, map, length, Option, Some, None}
use Rattle.samoa_model.specs.declared.ids.EventId.{EventId}
use Rattle.samoa_model.specs.declared.ids.HandlerId.{HandlerId}
use Rattle.samoa_model.specs.declared.handler.Refusal.{Refusal}
use Rattle.samoa_model.specs.declared.handler.Reply.{Reply}
use Rattle.samoa_model.specs.declared.handler.Moment.{Moment}
use Rattle.samoa_model.specs.declared.handler.Outcome.{Outcome}
use Rattle.samoa_model.specs.declared.record.Entry.{Entry}
use Rattle.samoa_model.specs.declared.record.Ending.{Ending}
use Rattle.samoa_model.specs.declared.record.Ext.{Ext}
use Rattle.samoa_model.specs.declared.script.Script.{Script}
use Rattle.samoa_model.specs.Allowed.{Attempt}
use Rattle.samoa_serial.specs.declared.call.Call.{Call}
use Rattle.samoa_serial.specs.declared.call.Waiting.{Waiting}
use Rattle.samoa_serial.specs.State.{State}
use Rattle.samoa_serial.specs.Lists.{Each}
pub use Rattle.samoa_serial.specs.Known.{EachEntry}
use Rattle.samoa_serial.specs.World.{States, World, Rules, begin, resume, calls_from, next_call, entry_of, caller_number, noted, stepped, turned}
use Rattle.samoa_serial.specs.Whole.{Ran, Runs, go_on, run_each, answered, call_event, takes_effect, spends, ends_or_spends, from_turn, no_more, whole_within, whole, waiting_within, event_whole}
use Rattle.samoa_serial.specs.SerialRun.{Served, rules_of, ran_of, serve_one, serve_from, serial}
use Rattle.samoa_serial.proofs.ListLaws.{each_append}

-- the entry of an outcome, by this call
abbrev pub IsGiven : (Entry → Type 0) → Call → Outcome → Type 0
IsGiven P c (Outcome.Send to event arg frame) = P (Entry.Sent c.number to event arg)
IsGiven P c (Outcome.Deliver arg frame) = P (Entry.Delivered c.number c.handler.micro arg)
IsGiven P c (Outcome.Change change arg frame) = P (Entry.Asked c.number change arg)
IsGiven P c _ = Unit {0}

-- P holds of the entries of calls, and of what handler steps give
pub record Gives (P : Entry → Type 0) (rules : Rules) : Type 0 where
  pub accepted : (call caller : ℕ) (h : HandlerId) (arg : List ℕ) → P (Entry.Accepted call caller h arg)
  pub finished : (call : ℕ) (words : List ℕ) → P (Entry.Finished call words)
  pub refused : (caller : ℕ) (event : Option EventId) (refusal : Refusal) → P (Entry.Refused caller event refusal)
  pub waiting : (call : ℕ) (event : EventId) (arg : List ℕ) → P (Entry.Waiting call event arg)
  pub given : (c : Call) (state : State) (m : Moment) → IsGiven P c (rules.step c.handler.micro state m).1

abbrev Holds : (Entry → Type 0) → World → Type 0
Holds P w = Each P w.entries

abbrev Keeps : (Entry → Type 0) → Runs → Type 0
Keeps P run = (w : World) (c : Call) (m : Moment) → Holds P w → Holds P (run w c m).world

one_more : (P : Entry → Type 0) (es : List Entry) (e : Entry) → Each P es → P e → Each P (es ++ e ∷ [])
one_more P es e all p = each_append P es (e ∷ []) all (p, tt)

go_on-keeps : (P : Entry → Type 0) (w : World) (v : Ending) (next : World → Reply → Ran) → Holds P w
    → ((r : Reply) → Holds P (next w r).world) → Holds P (go_on w v next).world
go_on-keeps P w (Ending.Replied r) next now later = later r
go_on-keeps P w Ending.Cut next now later = now

run_each-keeps : (P : Entry → Type 0) (run : Runs) → Keeps P run → (arg : List ℕ) (c : Call) (cs : List Call) (w : World) → Holds P w
    → Holds P (run_each run arg c cs w).world
run_each-keeps P run keeps arg c [] w all = keeps w c (begin c arg) all
run_each-keeps P run keeps arg c (d ∷ ds) w all =
    let ran = run w c (begin c arg) in
    let first = keeps w c (begin c arg) all in
    go_on-keeps P ran.world ran.value (λ w' r. run_each run arg d ds w') first (λ r. run_each-keeps P run keeps arg d ds ran.world first)

entered : (P : Entry → Type 0) (rules : Rules) → Gives P rules → (caller : ℕ) (arg : List ℕ) (cs : List Call) → Each P (map (entry_of caller arg) cs)
entered P rules gives caller arg [] = tt
entered P rules gives caller arg (c ∷ cs) = (gives.accepted c.number caller c.handler arg, entered P rules gives caller arg cs)

answered-keeps : (P : Entry → Type 0) (rules : Rules) → Gives P rules → (run : Runs) → Keeps P run
    → (w : World) (caller : Option Call) (event : EventId) (arg : List ℕ) (a : Attempt) → Holds P w → Holds P (answered run w caller event arg a).world
answered-keeps P rules gives run keeps w caller event arg (Attempt.Refuses refusal) all =
    one_more P w.entries (Entry.Refused (caller_number caller) (Some event) refusal) all (gives.refused (caller_number caller) (Some event) refusal)
answered-keeps P rules gives run keeps w caller event arg (Attempt.Accepts h hs) all =
    let c = next_call w.entries h in
    let cs = calls_from c.number hs in
    let made : List Entry = map (entry_of (caller_number caller) arg) (c ∷ cs) in
    run_each-keeps P run keeps arg c cs (record w { books = record w.books { entries = w.entries ++ made } })
    (each_append P w.entries made all (entered P rules gives (caller_number caller) arg (c ∷ cs)))

noted-keeps : (P : Entry → Type 0) (run : Runs) → Keeps P run → (w : World) (c : Call) (frame : List ℕ) (e : Entry) → Holds P w → P e
    → Holds P (run (record w { books = noted w.books e }) c (resume c frame (Reply.Words []))).world
noted-keeps P run keeps w c frame e all p = keeps (record w { books = noted w.books e }) c (resume c frame (Reply.Words [])) (one_more P w.entries e all p)

takes_effect-keeps : (P : Entry → Type 0) (rules : Rules) → Gives P rules → (run : Runs) → Keeps P run → (w : World) (c : Call) (o : Outcome)
    → IsGiven P c o → Holds P w → Holds P (takes_effect rules run w c o).world
takes_effect-keeps P rules gives run keeps w c (Outcome.Call event arg frame) p all =
    let ran = call_event rules run w (Some c) event arg in
    let called = answered-keeps P rules gives run keeps w (Some c) event arg (rules.attempt w.entries (Some c) event) all in
    go_on-keeps P ran.world ran.value (λ w' reply. run w' c (resume c frame reply)) called (λ r. keeps ran.world c (resume c frame r) called)
takes_effect-keeps P rules gives run keeps w c (Outcome.Later event arg frame) p all =
    let asked : Waiting = record { asker = c; event = event; arg = arg } in
    let e : Entry = Entry.Waiting c.number event arg in
    keeps (record w { books = record { units = w.units; waiting = w.waiting ++ asked ∷ []; entries = w.entries ++ e ∷ [] } }) c (resume c frame (Reply.Words []))
    (one_more P w.entries e all (gives.waiting c.number event arg))
takes_effect-keeps P rules gives run keeps w c (Outcome.Send to event arg frame) p all = noted-keeps P run keeps w c frame (Entry.Sent c.number to event arg) all p
takes_effect-keeps P rules gives run keeps w c (Outcome.Deliver arg frame) p all =
    noted-keeps P run keeps w c frame (Entry.Delivered c.number c.handler.micro arg) all p
takes_effect-keeps P rules gives run keeps w c (Outcome.Change change arg frame) p all = noted-keeps P run keeps w c frame (Entry.Asked c.number change arg) all p
takes_effect-keeps P rules gives run keeps w c (Outcome.Done reply) p all = all

spends-keeps : (P : Entry → Type 0) (rules : Rules) → Gives P rules → (run : Runs) → Keeps P run → (w : World) (c : Call) (o : Outcome) (units : ℕ)
    → IsGiven P c o → Holds P w → Holds P (spends rules run w c o units).world
spends-keeps P rules gives run keeps w c o zero p all =
    one_more P w.entries (Entry.Refused c.number None Refusal.OverBudget) all (gives.refused c.number None Refusal.OverBudget)
spends-keeps P rules gives run keeps w c o (suc left) p all =
    takes_effect-keeps P rules gives run keeps (record w { books = record w.books { units = left } }) c o p all

ends_or_spends-keeps : (P : Entry → Type 0) (rules : Rules) → Gives P rules → (run : Runs) → Keeps P run → (w : World) (c : Call) (o : Outcome)
    → IsGiven P c o → Holds P w → Holds P (ends_or_spends rules run w c o).world
ends_or_spends-keeps P rules gives run keeps w c (Outcome.Done reply) p all =
    one_more P w.entries (Entry.Finished c.number reply) all (gives.finished c.number reply)
ends_or_spends-keeps P rules gives run keeps w c o p all = spends-keeps P rules gives run keeps w c o w.units p all

from_turn-keeps : (P : Entry → Type 0) (rules : Rules) → Gives P rules → (run : Runs) → Keeps P run → Keeps P (from_turn rules run)
from_turn-keeps P rules gives run keeps w c m all =
    let new = stepped rules w.states c m in
    ends_or_spends-keeps P rules gives run keeps (turned w c m new) c new.1 (gives.given c (w.states c.handler.micro.0) m) all

whole_within-keeps : (P : Entry → Type 0) (rules : Rules) → Gives P rules → (bound : ℕ) → Keeps P (whole_within rules bound)
whole_within-keeps P rules gives zero = from_turn-keeps P rules gives no_more (λ w c m all. all)
whole_within-keeps P rules gives (suc bound) = from_turn-keeps P rules gives (whole_within rules bound) (whole_within-keeps P rules gives bound)

whole-keeps : (P : Entry → Type 0) (rules : Rules) → Gives P rules → Keeps P (whole rules)
whole-keeps P rules gives w c m all = whole_within-keeps P rules gives w.units w c m all

waiting_within-keeps : (P : Entry → Type 0) (rules : Rules) → Gives P rules → (bound : ℕ) (waiting : List Waiting) (w : World) (answer : Reply)
    → Holds P w → Holds P (waiting_within rules bound waiting w answer).world
waiting_within-keeps P rules gives bound [] w answer all = all
waiting_within-keeps P rules gives zero (first ∷ later) w answer all = all
waiting_within-keeps P rules gives (suc bound) (first ∷ later) w answer all =
    let w' : World = record w { books = record w.books { waiting = later } } in
    let ran = call_event rules (whole rules) w' (Some first.asker) first.event first.arg in
    let called = answered-keeps P rules gives (whole rules) (whole-keeps P rules gives) w' (Some first.asker) first.event first.arg
    (rules.attempt w'.entries (Some first.asker) first.event) all in
    go_on-keeps P ran.world ran.value (λ w'' reply. waiting_within rules bound w''.waiting w'' answer) called
    (λ r. waiting_within-keeps P rules gives bound ran.world.waiting ran.world answer called)

-- each entry of a computation
pub entries_hold : (P : Entry → Type 0) (rules : Rules) → Gives P rules → (budget : ℕ) (states : States) (event : EventId) (arg : List ℕ)
    → Each P (event_whole rules budget states event arg).world.entries
entries_hold P rules gives budget states event arg =
    let w : World = record { states = states; turns = []; books = record { units = budget; waiting = []; entries = [] } } in
    let ran = call_event rules (whole rules) w None event arg in
    let called = answered-keeps P rules gives (whole rules) (whole-keeps P rules gives) w None event arg (rules.attempt [] None event) tt in
    go_on-keeps P ran.world ran.value (λ w' answer. waiting_within rules (w'.units + length w'.waiting) w'.waiting w' answer) called
    (λ r. waiting_within-keeps P rules gives (ran.world.units + length ran.world.waiting) ran.world.waiting ran.world r called)

-- P holds of all entries that the script can give
abbrev pub GivesAlways : (Entry → Type 0) → Script → Type 0
GivesAlways P script = (before : List Ext) (ext : Ext) → Gives P (rules_of script before ext)

serve_from-hold : (P : Entry → Type 0) (script : Script) → GivesAlways P script → (before : List Ext) (served : Served) (later : List Ext)
    → Each (EachEntry P) served.comps → Each (EachEntry P) (serve_from script before served later).comps
serve_from-hold P script gives before served [] all = all
serve_from-hold P script gives before served (x ∷ xs) all =
    serve_from-hold P script gives (before ++ x ∷ []) (serve_one script before served x) xs
    (each_append (EachEntry P) served.comps (ran_of script before (served.states x.node.0) x ∷ []) all
    (entries_hold P (rules_of script before x) (gives before x) _ _ _ _, tt))

pub serial_entries : (P : Entry → Type 0) (script : Script) → GivesAlways P script → (exts : List Ext) → Each (EachEntry P) (serial script exts).comps
serial_entries P script gives exts = serve_from-hold P script gives [] _ exts tt
