-- What handler steps send and ask for: a scripted one by its instructions, one of another kind by its table.
use Rattle.std.proofs.Common.{◌≡◌, refl, ℕ, zero, suc, ◌+◌, ◌-◌, ◌<◌, ◌%◌, ◌^◌, Bool, true, false, List, [], ◌∷◌, map, get_or, length, drop, Option, Some, None}
use Rattle.std.specs.Prelude.{if◌then◌else◌, nat_lt, slice_get, slice_index}
use Rattle.std.specs.List.{All}
use Rattle.std.proofs.lemmas.List.Elements.{All-head, All-tail, All-nil, All-weaker}
use Rattle.std.proofs.lemmas.Bool.{ltb-true}
use Rattle.samoa_model.specs.declared.ids.EventId.{EventId}
use Rattle.samoa_model.specs.declared.handler.Dest.{Dest}
use Rattle.samoa_model.specs.declared.handler.Moment.{Moment}
use Rattle.samoa_model.specs.declared.handler.Outcome.{Outcome}
use Rattle.samoa_model.specs.declared.record.Entry.{Entry}
use Rattle.samoa_model.specs.declared.setup.Instr.{Instr}
use Rattle.samoa_model.specs.declared.setup.Kind.{Kind}
use Rattle.samoa_model.specs.declared.setup.Place.{Place}
use Rattle.samoa_model.specs.declared.setup.Setup.{Setup}
use Rattle.samoa_model.specs.declared.script.CodeDef.{CodeDef}
use Rattle.samoa_model.specs.declared.script.MicroDef.{MicroDef}
use Rattle.samoa_model.specs.declared.script.Script.{Script}
use Rattle.samoa_model.specs.Range.{HasPosition, HasPositions, IsInRange, IsMicroInRange, IsEventOf, IsChangeOf}
use Rattle.samoa_model.specs.Scripts.{micro_at, no_micro, setup_of}
use Rattle.samoa_serial.specs.declared.call.Call.{Call}
use Rattle.samoa_serial.specs.State.{State, Registers, OfLink, OfFd, OfRbcast, OfAbcast, OfSeqcast, OfRepl, OfViews, OfCons}
use Rattle.samoa_serial.specs.Kinds.{Numbers, carry_out, with_number, number_at, run_from, script_step, kind_step, dest_of, port_at, change_at_place, first_four, resumed, waited}
use Rattle.samoa_serial.specs.Lists.{Each}
use Rattle.samoa_serial.specs.Known.{IsDestOf, IsKnown, IsOutcomeOf, IsQuiet, IsStill, IsSilent, IsSilentKind, IsSilentMicro, HasSilentCode}
use Rattle.samoa_serial.proofs.ScriptLaws.{read_holds}
use Rattle.samoa_serial.proofs.EntryLaws.{IsGiven, GivesAlways, serial_entries}
use Rattle.samoa_serial.proofs.RowLaws.{Plain, Sends, AsksFor, link-row, fd-row, rbcast-row, cons-row, abcast-row, seqcast-row, repl-row, views-row}

-- P holds of what instructions with `ok` give
pub record CodeGives (P : Outcome → Type 0) (ok : Instr → Type 0) (setup : Setup) : Type 0 where
  pub plain : Plain P setup
  pub laters : (port : ℕ) (arg frame : List ℕ) → P (Outcome.Later (port_at setup port) arg frame)
  pub sends : (s : Place) (port count to : ℕ) (arg frame : List ℕ) → ok (Instr.Send s port count) → P (Outcome.Send (dest_of setup to) (port_at setup port) arg frame)
  pub asks : (change count : ℕ) (arg frame : List ℕ) → ok (Instr.Change change count) → P (Outcome.Change (change_at_place setup change) arg frame)

carry_out-gives : (P : Outcome → Type 0) (ok : Instr → Type 0) (setup : Setup) → CodeGives P ok setup → (skip at : ℕ) (code : List Instr) (n : Numbers)
    → Each ok code → P (carry_out setup skip at code n).1
carry_out-gives P ok setup gives skip at [] n all = gives.plain.is_done []
carry_out-gives P ok setup gives (suc skip) at (i ∷ rest) n all = carry_out-gives P ok setup gives skip (at + 1) rest n all.1
carry_out-gives P ok setup gives zero at (Instr.Set d x ∷ rest) n all = carry_out-gives P ok setup gives 0 (at + 1) rest (with_number n d x) all.1
carry_out-gives P ok setup gives zero at (Instr.Copy d s ∷ rest) n all = carry_out-gives P ok setup gives 0 (at + 1) rest (with_number n d (number_at n s)) all.1
carry_out-gives P ok setup gives zero at (Instr.Add d s ∷ rest) n all =
    carry_out-gives P ok setup gives 0 (at + 1) rest (with_number n d ((number_at n d + number_at n s) % 2 ^ 64)) all.1
carry_out-gives P ok setup gives zero at (Instr.Sub d s ∷ rest) n all =
    carry_out-gives P ok setup gives 0 (at + 1) rest (with_number n d ((number_at n d + 2 ^ 64 - number_at n s) % 2 ^ 64)) all.1
carry_out-gives P ok setup gives zero at (Instr.Less s t j ∷ rest) n all =
    carry_out-gives P ok setup gives (if nat_lt (number_at n s) (number_at n t) then j else 0) (at + 1) rest n all.1
carry_out-gives P ok setup gives zero at (Instr.Call port k ∷ rest) n all = gives.plain.calls port _ _
carry_out-gives P ok setup gives zero at (Instr.Later port k ∷ rest) n all = gives.laters port _ _
carry_out-gives P ok setup gives zero at (Instr.Send s port k ∷ rest) n all = gives.sends s port k (number_at n s) _ _ all.0
carry_out-gives P ok setup gives zero at (Instr.Deliver k ∷ rest) n all = gives.plain.delivers _ _
carry_out-gives P ok setup gives zero at (Instr.Change change k ∷ rest) n all = gives.asks change k _ _ all.0
carry_out-gives P ok setup gives zero at (Instr.Done k ∷ rest) n all = gives.plain.is_done _

each_drop : {A : Type 0} (P : A → Type 0) (n : ℕ) (xs : List A) → Each P xs → Each P (drop n xs)
each_drop P zero xs all = all
each_drop P (suc n) [] all = tt
each_drop P (suc n) (x ∷ xs) all = each_drop P n xs all.1

-- what stands in the code of a handler, if there is one
abbrev pub IsOk : (Instr → Type 0) → Option (List Instr) → Type 0
IsOk ok None = Unit {0}
IsOk ok (Some code) = Each ok code

code_ok : (ok : Instr → Type 0) (codes : List CodeDef) (k : ℕ) → Each (λ (code : CodeDef). Each ok code.code) codes
    → IsOk ok (slice_get (map (λ (code : CodeDef). code.code) codes) k)
code_ok ok [] k all = tt
code_ok ok (code ∷ codes) zero all = all.0
code_ok ok (code ∷ codes) (suc k) all = code_ok ok codes k all.1

run_from-gives : (P : Outcome → Type 0) (ok : Instr → Type 0) (setup : Setup) → CodeGives P ok setup → (code : Option (List Instr)) (at : ℕ) (n : Numbers)
    → IsOk ok code → P (run_from setup code at n).1
run_from-gives P ok setup gives None at n all = gives.plain.is_done []
run_from-gives P ok setup gives (Some code) at n all = carry_out-gives P ok setup gives 0 at (drop at code) n (each_drop ok at code all)

script_step-gives : (P : Outcome → Type 0) (ok : Instr → Type 0) (setup : Setup) → CodeGives P ok setup → ((k : ℕ) → IsOk ok (slice_get setup.codes k))
    → (registers : List ℕ) (m : Moment) → P (script_step setup registers m).1
script_step-gives P ok setup gives all registers (Moment.Begin handler arg) =
    run_from-gives P ok setup gives (slice_get setup.codes handler) 0 (record { registers = registers; locals = first_four arg }) (all handler)
script_step-gives P ok setup gives all registers (Moment.Resume handler frame reply) =
    let code = slice_get setup.codes handler in
    let at = slice_index frame 0 in
    run_from-gives P ok setup gives code at (record { registers = registers; locals = resumed (waited code at) (first_four (drop 1 frame)) reply }) (all handler)

-- what a kind gives beside what every kind does
abbrev pub Own : (Outcome → Type 0) → (Instr → Type 0) → Setup → Kind → Type 0
Own P ok setup Kind.Prog = CodeGives P ok setup × ((k : ℕ) → IsOk ok (slice_get setup.codes k))
Own P ok setup Kind.Link = Sends P setup
Own P ok setup Kind.Fd = Unit {0}
Own P ok setup Kind.Rbcast = Unit {0}
Own P ok setup Kind.Cons = Unit {0}
Own P ok setup Kind.Abcast = Unit {0}
Own P ok setup Kind.Seqcast = Unit {0}
Own P ok setup Kind.Repl = AsksFor P setup
Own P ok setup Kind.Views = Unit {0}

pub kind_step-gives : (P : Outcome → Type 0) (ok : Instr → Type 0) (setup : Setup) → Plain P setup → (kind : Kind) → Own P ok setup kind
    → (state : State) (m : Moment) → P (kind_step kind setup state m).1
kind_step-gives P ok setup plain Kind.Prog own (Registers registers) m = script_step-gives P ok setup own.0 own.1 registers m
kind_step-gives P ok setup plain Kind.Prog own state m = plain.is_done []
kind_step-gives P ok setup plain Kind.Link own (OfLink s) m = (link-row P setup plain own s m).holds
kind_step-gives P ok setup plain Kind.Link own state m = plain.is_done []
kind_step-gives P ok setup plain Kind.Fd own (OfFd s) m = (fd-row P setup plain s m).holds
kind_step-gives P ok setup plain Kind.Fd own state m = plain.is_done []
kind_step-gives P ok setup plain Kind.Rbcast own (OfRbcast s) m = (rbcast-row P setup plain s m).holds
kind_step-gives P ok setup plain Kind.Rbcast own state m = plain.is_done []
kind_step-gives P ok setup plain Kind.Cons own (OfCons s) m = (cons-row P setup plain s m).holds
kind_step-gives P ok setup plain Kind.Cons own state m = plain.is_done []
kind_step-gives P ok setup plain Kind.Abcast own (OfAbcast s) m = (abcast-row P setup plain s m).holds
kind_step-gives P ok setup plain Kind.Abcast own state m = plain.is_done []
kind_step-gives P ok setup plain Kind.Seqcast own (OfSeqcast s) m = (seqcast-row P setup plain s m).holds
kind_step-gives P ok setup plain Kind.Seqcast own state m = plain.is_done []
kind_step-gives P ok setup plain Kind.Repl own (OfRepl s) m = (repl-row P setup plain own s m).holds
kind_step-gives P ok setup plain Kind.Repl own state m = plain.is_done []
kind_step-gives P ok setup plain Kind.Views own (OfViews s) m = (views-row P setup plain s m).holds
kind_step-gives P ok setup plain Kind.Views own state m = plain.is_done []

each_or : {A : Type 0} (P : A → Type 0) (xs : List A) (k : ℕ) (d : A) → Each P xs → P d → P (get_or xs k d)
each_or P [] k d all p = p
each_or P (x ∷ xs) zero d all p = all.0
each_or P (x ∷ xs) (suc k) d all p = each_or P xs k d all.1 p

-- the entries of calls are none that P forbids, and the others are those of outcomes
entries_from : (P : Entry → Type 0) (Q : Outcome → Type 0) (script : Script) → ((c : Call) (o : Outcome) → Q o → IsGiven P c o)
    → ((call caller : ℕ) (h : _) (arg : List ℕ) → P (Entry.Accepted call caller h arg)) → ((call : ℕ) (words : List ℕ) → P (Entry.Finished call words))
    → ((caller : ℕ) (event : Option EventId) (refusal : _) → P (Entry.Refused caller event refusal)) → ((call : ℕ) (event : EventId) (arg : List ℕ) → P (Entry.Waiting call event arg))
    → ((node p : ℕ) (state : State) (m : Moment) → Q (kind_step (micro_at script p).kind (setup_of script node p) state m).1) → GivesAlways P script
entries_from P Q script is_given accepted finished refused waiting steps before ext = record {
  accepted = accepted;
  finished = finished;
  refused = refused;
  waiting = waiting;
  given = λ c state m. is_given c _ (steps ext.node.0 c.handler.micro.0 state m);
}

-- an outcome by which nothing is sent or asked for
abbrev IsStillOutcome : Outcome → Type 0
IsStillOutcome (Outcome.Send to event arg frame) = ⊥
IsStillOutcome (Outcome.Change change arg frame) = ⊥
IsStillOutcome _ = Unit {0}

still_given : (c : Call) (o : Outcome) → IsStillOutcome o → IsGiven IsQuiet c o
still_given c (Outcome.Call event arg frame) still = tt
still_given c (Outcome.Later event arg frame) still = tt
still_given c (Outcome.Send to event arg frame) still = still
still_given c (Outcome.Deliver arg frame) still = tt
still_given c (Outcome.Change change arg frame) still = still
still_given c (Outcome.Done reply) still = tt

still_plain : (setup : Setup) → Plain IsStillOutcome setup
still_plain setup = record { is_done = λ words. tt; calls = λ port arg frame. tt; delivers = λ arg frame. tt }

still_own : (setup : Setup) (kind : Kind) → IsSilentKind kind → ((k : ℕ) → IsOk IsSilent (slice_get setup.codes k)) → Own IsStillOutcome IsSilent setup kind
still_own setup Kind.Prog silent codes = (
  record {
    plain = still_plain setup;
    laters = λ port arg frame. tt;
    sends = λ s port count to arg frame no_send. no_send;
    asks = λ change count arg frame no_change. no_change;
  },
  codes,
)
still_own setup Kind.Link silent codes = absurd silent
still_own setup Kind.Fd silent codes = tt
still_own setup Kind.Rbcast silent codes = tt
still_own setup Kind.Cons silent codes = tt
still_own setup Kind.Abcast silent codes = tt
still_own setup Kind.Seqcast silent codes = tt
still_own setup Kind.Repl silent codes = absurd silent
still_own setup Kind.Views silent codes = tt

-- without links, replacements, such instructions and crashes a script is still
pub silent_is_still : (script : Script) → script.crashes ≡ [] → HasSilentCode script → IsStill script
silent_is_still script up silent = record {
  up = up;
  quiet = serial_entries IsQuiet script
      (entries_from IsQuiet IsStillOutcome script still_given (λ call caller h arg. tt) (λ call words. tt) (λ caller event refusal. tt) (λ call event arg. tt)
      (λ node p state m.
      let micro : MicroDef = micro_at script p in
      let own : IsSilentMicro micro = each_or IsSilentMicro script.micros p no_micro silent (tt, tt) in
      kind_step-gives IsStillOutcome IsSilent (setup_of script node p) (still_plain (setup_of script node p)) micro.kind
      (still_own (setup_of script node p) micro.kind own.0 (λ k. code_ok IsSilent micro.handlers k own.1)) state m));
}

dest_known : (script : Script) (node p to : ℕ) → IsDestOf script (dest_of (setup_of script node p) to)
dest_known script node p to = go (nat_lt to script.nodes) refl
  where
    go : (b : Bool) → nat_lt to script.nodes ≡ b → IsDestOf script (if b then Dest.One (record { 0 = to }) else Dest.All)
    go true e = ltb-true to script.nodes e
    go false e = tt

-- a microprotocol names events and changes of the script
pub record Names (script : Script) (micro : MicroDef) : Type 0 where
  pub ports : All (IsEventOf script) micro.ports
  pub changes : All (IsChangeOf script) micro.changes

names_of : (script : Script) → IsInRange script → (p : ℕ) → Names script (micro_at script p)
names_of script range p =
    read_holds (Names script) script.micros p no_micro
    (All-weaker (IsMicroInRange script) (Names script) (λ micro is. record { ports = is.ports; changes = is.changes }) script.micros range.micros)
    (record { ports = All-nil (IsEventOf script); changes = All-nil (IsChangeOf script) })

port_known : (script : Script) → IsInRange script → (node p port : ℕ) → IsEventOf script (port_at (setup_of script node p) port)
port_known script range node p port = read_holds (IsEventOf script) (micro_at script p).ports port (record { 0 = 0 }) (names_of script range p).ports range.some_event

change_known : (script : Script) → IsInRange script → (node p place : ℕ) → place < length (micro_at script p).changes
    → IsChangeOf script (change_at_place (setup_of script node p) place)
change_known script range node p place below = (names_of script range p).changes place (record { 0 = 0 }) below

named_plain : (script : Script) → IsInRange script → (node p : ℕ) → Plain (IsOutcomeOf script) (setup_of script node p)
named_plain script range node p =
    record { is_done = λ words. tt; calls = λ port arg frame. port_known script range node p port; delivers = λ arg frame. tt }

-- what holds at every place of a list holds of each that stands in it
each_from_all : {A : Type 0} (P Q : A → Type 0) → ((x : A) → P x → Q x) → (xs : List A) → All P xs → Each Q xs
each_from_all P Q f [] all = tt
each_from_all P Q f (x ∷ xs) all = (f x (All-head P x xs all), each_from_all P Q f xs (All-tail P x xs all))

-- the instructions of a handler, and of all handlers of a microprotocol, name ports and changes that it has
abbrev InPlace : MicroDef → CodeDef → Type 0
InPlace micro code = Each (HasPosition micro) code.code

abbrev AllInPlace : MicroDef → Type 0
AllInPlace micro = Each (InPlace micro) micro.handlers

in_place : (script : Script) → HasPositions script → Each AllInPlace script.micros
in_place script positions =
    each_from_all (λ (micro : MicroDef). All (λ (code : CodeDef). All (HasPosition micro) code.code) micro.handlers) AllInPlace
    (λ (micro : MicroDef) codes. each_from_all (λ (code : CodeDef). All (HasPosition micro) code.code) (InPlace micro)
    (λ (code : CodeDef) instrs. each_from_all (HasPosition micro) (HasPosition micro) (λ i h. h) code.code instrs) micro.handlers codes)
    script.micros positions

named_own : (script : Script) → IsInRange script → (node p : ℕ) (kind : Kind)
    → Own (IsOutcomeOf script) (HasPosition (micro_at script p)) (setup_of script node p) kind
named_own script range node p Kind.Prog = (
  record {
    plain = named_plain script range node p;
    laters = λ port arg frame. port_known script range node p port;
    sends = λ s port count to arg frame ok. (dest_known script node p to, port_known script range node p port);
    asks = λ change count arg frame ok. change_known script range node p change ok;
  },
  (λ k. code_ok (HasPosition (micro_at script p)) (micro_at script p).handlers k
      (each_or AllInPlace script.micros p no_micro (in_place script range.positions) tt)),
)
named_own script range node p Kind.Link = λ to arg frame. (dest_known script node p to, port_known script range node p 0)
named_own script range node p Kind.Fd = tt
named_own script range node p Kind.Rbcast = tt
named_own script range node p Kind.Cons = tt
named_own script range node p Kind.Abcast = tt
named_own script range node p Kind.Seqcast = tt
named_own script range node p Kind.Repl = λ place arg frame below. change_known script range node p place below
named_own script range node p Kind.Views = tt

-- a handler step of a script in range names what is of the script
pub steps_are_named : (script : Script) → IsInRange script → (node p : ℕ) (state : State) (m : Moment)
    → IsOutcomeOf script (kind_step (micro_at script p).kind (setup_of script node p) state m).1
steps_are_named script range node p state m =
    kind_step-gives (IsOutcomeOf script) (HasPosition (micro_at script p)) (setup_of script node p) (named_plain script range node p) (micro_at script p).kind
    (named_own script range node p (micro_at script p).kind) state m

named_given : (script : Script) (c : Call) (o : Outcome) → IsOutcomeOf script o → IsGiven (IsKnown script) c o
named_given script c (Outcome.Call event arg frame) named = tt
named_given script c (Outcome.Later event arg frame) named = tt
named_given script c (Outcome.Send to event arg frame) named = named
named_given script c (Outcome.Deliver arg frame) named = tt
named_given script c (Outcome.Change change arg frame) named = named
named_given script c (Outcome.Done reply) named = tt

-- and so do its entries
pub entries_are_known : (script : Script) → IsInRange script → GivesAlways (IsKnown script) script
entries_are_known script range =
    entries_from (IsKnown script) (IsOutcomeOf script) script (named_given script) (λ call caller h arg. tt) (λ call words. tt) (λ caller event refusal. tt)
    (λ call event arg. tt) (steps_are_named script range)
