-- The step of each kind of microprotocol.
use Rattle.std.specs.Prelude.{ℕ, zero, suc, ◌+◌, ◌-◌, ◌%◌, ◌^◌, Bool, true, false, nat_lt, if◌then◌else◌, List, [], ◌∷◌, take, drop, Option, Some, None, slice_index, slice_set, slice_get, length}
use Rattle.samoa_model.specs.declared.handler.Moment.{Moment}
use Rattle.samoa_model.specs.declared.handler.Moment.TheVariants.{Begin, Resume}
use Rattle.samoa_model.specs.declared.handler.Refusal.{Refusal}
use Rattle.samoa_model.specs.declared.handler.Refusal.TheVariants.{OverBudget, Unbound, Undeclared, OverBound, OffRoute}
use Rattle.samoa_model.specs.declared.handler.Reply.{Reply}
use Rattle.samoa_model.specs.declared.handler.Reply.TheVariants.{Words, Refused}
use Rattle.samoa_model.specs.declared.handler.Outcome.{Outcome}
use Rattle.samoa_model.specs.declared.handler.Outcome.TheVariants as gives
use Rattle.samoa_model.specs.declared.setup.Kind.{Kind}
use Rattle.samoa_model.specs.declared.setup.Kind.TheVariants.{Prog, Link, Fd, Rbcast, Cons, Abcast, Seqcast, Repl, Views}
use Rattle.samoa_model.specs.declared.setup.Place.{Place}
use Rattle.samoa_model.specs.declared.setup.Place.TheVariants.{Reg, Local}
use Rattle.samoa_model.specs.declared.setup.Instr.{Instr}
use Rattle.samoa_model.specs.declared.setup.Instr.TheVariants as instr
use Rattle.samoa_model.specs.declared.setup.Setup.{Setup}
use Rattle.samoa_serial.specs.State.{State, Registers, OfLink, OfFd, OfRbcast, OfAbcast, OfSeqcast, OfRepl, OfViews, OfCons}
pub use Rattle.samoa_serial.specs.Rows.{port_at, change_at_place, dest_of}
use Rattle.samoa_serial.specs.LinkTable.{link_step}
use Rattle.samoa_serial.specs.ViewsTable.{views_opening, views_step}
use Rattle.samoa_serial.specs.FdTable.{fd_opening, fd_mask, fd_step}
use Rattle.samoa_serial.specs.RbcastTable.{rbcast_step}
use Rattle.samoa_serial.specs.SeqcastTable.{seqcast_step}
use Rattle.samoa_serial.specs.AbcastTable.{abcast_step}
use Rattle.samoa_serial.specs.ReplTable.{repl_step}
use Rattle.samoa_serial.specs.ConsTable.{cons_step, greatest_round}

-- the first four numbers of a list, 0 where there are fewer
abbrev pub first_four : List ℕ → List ℕ
first_four xs = slice_index xs 0 ∷ slice_index xs 1 ∷ slice_index xs 2 ∷ slice_index xs 3 ∷ []

-- the numbers that a scripted handler works on
pub record Numbers : Type 0 where
  pub registers : List ℕ
  pub locals : List ℕ

-- the number at a place
abbrev pub number_at : Numbers → Place → ℕ
number_at n (Reg k) = slice_index n.registers k
number_at n (Local k) = slice_index n.locals k

-- the numbers, with this one at a place
abbrev pub with_number : Numbers → Place → ℕ → Numbers
with_number n (Reg k) x = record { registers = slice_set n.registers k x; locals = n.locals }
with_number n (Local k) x = record { registers = n.registers; locals = slice_set n.locals k x }

-- a step ends: the registers are kept, and the outcome is given
abbrev pub ends_with : Numbers → Outcome → State × Outcome
ends_with n outcome = (Registers n.registers, outcome)

-- what a handler is resumed with later: the place of the next instruction, and the locals
abbrev pub frame_at : ℕ → Numbers → List ℕ
frame_at next n = next ∷ n.locals

-- carries out the instructions that are left, the first of which stands at `at`, until one gives an outcome;
-- so many are skipped first
abbrev pub carry_out : Setup → ℕ → ℕ → List Instr → Numbers → State × Outcome
carry_out setup skip at [] n = ends_with n (gives.Done [])
carry_out setup (suc skip) at (_ ∷ rest) n = carry_out setup skip (at + 1) rest n
carry_out setup zero at (instr.Set d x ∷ rest) n = carry_out setup 0 (at + 1) rest (with_number n d x)
carry_out setup zero at (instr.Copy d s ∷ rest) n = carry_out setup 0 (at + 1) rest (with_number n d (number_at n s))
carry_out setup zero at (instr.Add d s ∷ rest) n =
    carry_out setup 0 (at + 1) rest (with_number n d ((number_at n d + number_at n s) % 2 ^ 64))
carry_out setup zero at (instr.Sub d s ∷ rest) n =
    carry_out setup 0 (at + 1) rest (with_number n d ((number_at n d + 2 ^ 64 - number_at n s) % 2 ^ 64))
carry_out setup zero at (instr.Less s t j ∷ rest) n =
    carry_out setup (if nat_lt (number_at n s) (number_at n t) then j else 0) (at + 1) rest n
carry_out setup zero at (instr.Call port k ∷ rest) n =
    ends_with n (gives.Call (port_at setup port) (take k n.locals) (frame_at (at + 1) n))
carry_out setup zero at (instr.Later port k ∷ rest) n =
    ends_with n (gives.Later (port_at setup port) (take k n.locals) (frame_at (at + 1) n))
carry_out setup zero at (instr.Send s port k ∷ rest) n =
    ends_with n (gives.Send (dest_of setup (number_at n s)) (port_at setup port) (take k n.locals) (frame_at (at + 1) n))
carry_out setup zero at (instr.Deliver k ∷ rest) n = ends_with n (gives.Deliver (take k n.locals) (frame_at (at + 1) n))
carry_out setup zero at (instr.Change c k ∷ rest) n =
    ends_with n (gives.Change (change_at_place setup c) (take k n.locals) (frame_at (at + 1) n))
carry_out setup zero at (instr.Done k ∷ rest) n = ends_with n (gives.Done (take k n.locals))

-- the code of a handler, from a place on, over these numbers; Done with no word where there is no such handler
abbrev pub run_from : Setup → Option (List Instr) → ℕ → Numbers → State × Outcome
run_from setup None at n = ends_with n (gives.Done [])
run_from setup (Some code) at n = carry_out setup 0 at (drop at code) n

-- whether an instruction asks for a reply
abbrev pub is_call : Option Instr → Bool
is_call (Some (instr.Call port k)) = true
is_call _ = false

-- whether a handler that goes on here waited for a reply
abbrev pub waited : Option (List Instr) → ℕ → Bool
waited (Some code) (suc before) = is_call (slice_get code before)
waited _ _ = false

-- the code of a refusal
abbrev pub code_of : Refusal → ℕ
code_of Undeclared = 1
code_of OverBound = 2
code_of OffRoute = 3
code_of Unbound = 4
code_of OverBudget = 0

-- the locals, with a reply in the first two
abbrev pub with_reply : List ℕ → Reply → List ℕ
with_reply locals (Words words) = slice_set (slice_set locals 0 (slice_index words 0)) 1 0
with_reply locals (Refused refusal) = slice_set (slice_set locals 0 0) 1 (code_of refusal)

-- the locals that a resumed handler goes on with
abbrev pub resumed : Bool → List ℕ → Reply → List ℕ
resumed true locals reply = with_reply locals reply
resumed false locals reply = locals

-- a step of a scripted handler
abbrev pub script_step : Setup → List ℕ → Moment → State × Outcome
script_step setup registers (Begin handler arg) =
    run_from setup (slice_get setup.codes handler) 0 (record { registers = registers; locals = first_four arg })
script_step setup registers (Resume handler frame reply) =
    let code = slice_get setup.codes handler in
    let at = slice_index frame 0 in
    run_from setup code at (record { registers = registers; locals = resumed (waited code at) (first_four (drop 1 frame)) reply })

-- the state of a kind, kept beside the outcome
abbrev pub kept : {S : Type 0} → (S → State) → S × Outcome → State × Outcome
kept of (s, outcome) = (of s, outcome)

-- a microprotocol whose state is another kind's stays as it is, and is done with no word
abbrev pub unmoved : State → State × Outcome
unmoved state = (state, gives.Done [])

-- a step of a microprotocol of this kind, set up so, from this state. Each kind has its own lines, so that none can be left out
abbrev pub kind_step : Kind → Setup → State → Moment → State × Outcome
kind_step Prog setup (Registers registers) moment = script_step setup registers moment
kind_step Prog setup state moment = unmoved state
kind_step Link setup (OfLink s) moment = kept OfLink (link_step setup s moment)
kind_step Link setup state moment = unmoved state
kind_step Fd setup (OfFd s) moment = kept OfFd (fd_step setup s moment)
kind_step Fd setup state moment = unmoved state
kind_step Rbcast setup (OfRbcast s) moment = kept OfRbcast (rbcast_step setup s moment)
kind_step Rbcast setup state moment = unmoved state
kind_step Cons setup (OfCons s) moment = kept OfCons (cons_step setup s moment)
kind_step Cons setup state moment = unmoved state
kind_step Abcast setup (OfAbcast s) moment = kept OfAbcast (abcast_step setup s moment)
kind_step Abcast setup state moment = unmoved state
kind_step Seqcast setup (OfSeqcast s) moment = kept OfSeqcast (seqcast_step setup s moment)
kind_step Seqcast setup state moment = unmoved state
kind_step Repl setup (OfRepl s) moment = kept OfRepl (repl_step setup s moment)
kind_step Repl setup state moment = unmoved state
kind_step Views setup (OfViews s) moment = kept OfViews (views_step setup s moment)
kind_step Views setup state moment = unmoved state

-- the state after being set up
abbrev pub opening : Kind → Setup → State
opening Prog setup = Registers (first_four setup.nums)
opening Link setup = OfLink (record { sent = 0; got = 0 })
opening Fd setup = OfFd (fd_opening setup)
opening Rbcast setup = OfRbcast (record { seq = 0; seen = [] })
opening Abcast setup = OfAbcast (record { next = 1; proposed = 0; pending = []; done = []; decisions = [] })
opening Seqcast setup = OfSeqcast (record { numbered = 0; keys = []; got = []; next = 1 })
opening Repl setup = OfRepl (record { epoch = 0; hold = 0; count = 0; mine = []; delivered = []; early = [] })
opening Views setup = OfViews (views_opening setup)
opening Cons setup = OfCons (record { instances = []; decisions = []; rounds = [] })

-- the words that a microprotocol shows
abbrev pub shown : Kind → State → List ℕ
shown Prog (Registers registers) = registers
shown Prog state = []
shown Link (OfLink s) = s.sent ∷ s.got ∷ []
shown Link state = []
shown Fd (OfFd s) = fd_mask s ∷ []
shown Fd state = []
shown Rbcast (OfRbcast s) = s.seq ∷ length s.seen ∷ []
shown Rbcast state = []
shown Abcast (OfAbcast s) = s.next ∷ length s.pending ∷ []
shown Abcast state = []
shown Seqcast (OfSeqcast s) = s.numbered ∷ s.next ∷ []
shown Seqcast state = []
shown Repl (OfRepl s) = s.epoch ∷ s.count ∷ length s.delivered ∷ s.hold ∷ []
shown Repl state = []
shown Views (OfViews s) = s.number ∷ s.mask ∷ []
shown Views state = []
shown Cons (OfCons s) = length s.decisions ∷ greatest_round s.instances ∷ []
shown Cons state = []

-- what contracts see of a microprotocol. Where it is still to be set up, its setup and its state say nothing
pub record Seen : Type 0 where
  pub kind : Kind
  pub fresh : Bool
  pub setup : Setup
  pub state : State

-- one of this kind that was just set up so
abbrev pub set_up_as : Kind → Setup → Seen
set_up_as kind setup = record { kind = kind; fresh = false; setup = setup; state = opening kind setup }

-- what a step leaves of it
abbrev pub after_step : Seen → Moment → Seen
after_step seen moment =
    record { kind = seen.kind; fresh = seen.fresh; setup = seen.setup; state = (kind_step seen.kind seen.setup seen.state moment).0 }

-- what a step gives
abbrev pub outcome_of : Seen → Moment → Outcome
outcome_of seen moment = (kind_step seen.kind seen.setup seen.state moment).1
