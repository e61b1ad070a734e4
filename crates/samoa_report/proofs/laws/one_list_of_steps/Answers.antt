use Rattle.std.proofs.Common.{[], ap, ◌++◌}
use Rattle.samoa_report.proofs.StepLines.{nothing_begins, same_steps}
use Rattle.samoa_report.proofs.laws.one_list_of_steps.Goals as goal

pub returns : goal.returns
returns c = λ a b fit fits e. (same_steps a b [] [] fit fits nothing_begins nothing_begins (ap (λ t. t ++ []) e)).0
