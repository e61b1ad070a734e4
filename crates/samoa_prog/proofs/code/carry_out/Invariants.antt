use Rattle.std.proofs.Common.{◌≡◌, ◌+◌, drop}
use Rattle.samoa_model.specs.declared.setup.Setup.{Setup}
use Rattle.samoa_serial.specs.Kinds.{carry_out}
use Rattle.samoa_prog.proofs.code.carry_out.Given as goal

-- what is left gives what the whole gives
abbrev pub invariant-loop-instr : goal.invariant-loop-instr
invariant-loop-instr l = record {
  place : l.next ≡ l.fn.at + l.instr-index;
  rest : (setup : Setup) → carry_out setup l.skip l.next (drop l.instr-index l.code) l.numbers ≡ carry_out setup 0 l.fn.at l.code l.fn.numbers;
}
