use Rattle.std.proofs.Common.{◌∙◌, ℕ, decimal, arith, length-drop}
use Rattle.std.proofs.lemmas.List.{take_all}
use Rattle.samoa_report.proofs.Cuts.{first_cut, if_none}
use Rattle.samoa_report.proofs.StepLines.{decimal_lacks, pair_cut}
use Rattle.samoa_report.proofs.reading.read_pair.Goals as goal

-- two numbers would be cut at the first space
pub returns-in_err-comp-clause-none : goal.returns-in_err-comp-clause-none
returns-in_err-comp-clause-none c =
    if_none c.from_residual-in_err-comp.result (λ m n fm fn e.
    let cut = first_cut 32 c.in_ok-at.at c.args.text.now (decimal m) (decimal n) c.in_ok-at.ensures (decimal_lacks 32 m (omega arith) fm) (e ∙ pair_cut m n) in
    c.in_err-comp.ensures.none m fm cut.0)

pub returns-in_err-micro-clause-none : goal.returns-in_err-micro-clause-none
returns-in_err-micro-clause-none c =
    if_none c.from_residual-in_err-micro.result (λ m n fm fn e.
    let cut = first_cut 32 c.in_ok-at.at c.args.text.now (decimal m) (decimal n) c.in_ok-at.ensures (decimal_lacks 32 m (omega arith) fm) (e ∙ pair_cut m n) in
    c.in_err-micro.ensures.none n fn (take_all _ _ (omega (arith, length-drop {A = ℕ})) ∙ cut.1))
