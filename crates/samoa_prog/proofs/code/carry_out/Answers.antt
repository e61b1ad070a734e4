use Rattle.std.proofs.Common.{◌≡◌, ◌<◌, ◌+◌, ◌-◌, ℕ, zero, suc, List, length, drop, refl, sym, ◌∙◌, arith}
use Rattle.std.proofs.Math.Seq.{drop-cons}
use Rattle.samoa_serial.specs.Kinds.{Numbers, carry_out}
use Rattle.samoa_model.specs.declared.setup.Instr.{Instr}
use Rattle.samoa_model.specs.declared.setup.Instr.TheVariants as instr
use Rattle.samoa_model.specs.declared.setup.Setup.{Setup}
use Rattle.samoa_prog.proofs.code.carry_out.Goals as goal

-- an instruction that is skipped changes nothing
skipped : (setup : Setup) (skip at : ℕ) (code : List Instr) (i : ℕ) (n : Numbers) → 0 < skip → i < length code
    → carry_out setup skip at (drop i code) n ≡ carry_out setup (skip - 1) (at + 1) (drop (i + 1) code) n
skipped setup zero at code i n more within = absurd (omega arith)
skipped setup (suc skip) at code i n more within =
    let less : suc skip - 1 ≡ skip = omega arith in
    let next : i + 1 ≡ suc i = omega arith in
    rw (less, next, drop-cons code i (instr.Done 0) within) refl

pub loop-instr-preserved-then-skip-gt0 : goal.loop-instr-preserved-then-skip-gt0
loop-instr-preserved-then-skip-gt0 c =
    let at = c.loop-instr in
    let more : 0 < at.skip = omega arith in
    let within : at.instr-index < length c.args.code.now = omega arith in
    record {
      place = omega arith;
      rest = λ setup. sym (skipped setup at.skip at.next c.args.code.now at.instr-index at.numbers more within) ∙ at.invariant.rest setup;
    }
