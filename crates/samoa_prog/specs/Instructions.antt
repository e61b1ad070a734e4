-- The instructions of a scripted handler, one at a time.
use Rattle.std.specs.Prelude.{ℕ, Bool, true, false, ◌+◌, ◌-◌, ◌%◌, ◌^◌, nat_lt, if◌then◌else◌, take, Option, Some, None}
use Rattle.samoa_model.specs.declared.handler.Outcome.{Outcome}
use Rattle.samoa_model.specs.declared.handler.Outcome.TheVariants as outcome
use Rattle.samoa_model.specs.declared.setup.Instr.{Instr}
use Rattle.samoa_model.specs.declared.setup.Instr.TheVariants as instr
use Rattle.samoa_model.specs.declared.setup.Setup.{Setup}
use Rattle.samoa_serial.specs.Kinds.{Numbers, number_at, with_number, port_at, change_at_place, dest_of, frame_at}

-- the numbers after an instruction
abbrev pub worked_by : Numbers → Instr → Numbers
worked_by n (instr.Set d x) = with_number n d x
worked_by n (instr.Copy d s) = with_number n d (number_at n s)
worked_by n (instr.Add d s) = with_number n d ((number_at n d + number_at n s) % 2 ^ 64)
worked_by n (instr.Sub d s) = with_number n d ((number_at n d + 2 ^ 64 - number_at n s) % 2 ^ 64)
worked_by n _ = n

-- how many instructions are skipped after it
abbrev pub skipped_by : Numbers → Instr → ℕ
skipped_by n (instr.Less s t j) = if nat_lt (number_at n s) (number_at n t) then j else 0
skipped_by n _ = 0

-- the outcome that it gives, where it gives one; the next instruction stands at `next`
abbrev pub given_by : Setup → ℕ → Numbers → Instr → Option Outcome
given_by setup next n (instr.Call port k) = Some (outcome.Call (port_at setup port) (take k n.locals) (frame_at next n))
given_by setup next n (instr.Later port k) = Some (outcome.Later (port_at setup port) (take k n.locals) (frame_at next n))
given_by setup next n (instr.Send s port k) =
    Some (outcome.Send (dest_of setup (number_at n s)) (port_at setup port) (take k n.locals) (frame_at next n))
given_by setup next n (instr.Deliver k) = Some (outcome.Deliver (take k n.locals) (frame_at next n))
given_by setup next n (instr.Change c k) =
    Some (outcome.Change (change_at_place setup c) (take k n.locals) (frame_at next n))
given_by setup next n (instr.Done k) = Some (outcome.Done (take k n.locals))
given_by setup next n _ = None

-- whether it gives an outcome
abbrev pub gives : Instr → Bool
gives (instr.Call port k) = true
gives (instr.Later port k) = true
gives (instr.Send s port k) = true
gives (instr.Deliver k) = true
gives (instr.Change c k) = true
gives (instr.Done k) = true
gives _ = false
