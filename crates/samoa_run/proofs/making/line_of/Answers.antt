use Rattle.std.proofs.Common.{◌≡◌, IfOk, ℕ, List, subst}
use Rattle.samoa_run.proofs.Counting.{counts_made}
use Rattle.samoa_run.proofs.making.line_of.Goals as goal

pub returns : goal.returns
returns g c =
    subst (λ (text : List ℕ). IfOk c.totals_line.result (λ line. line.items ≡ text))
    (counts_made c.args.n c.in_ok-script.script c.in_ok-totals.totals c.in_ok-script.ensures.exact c.in_ok-totals.ensures) c.totals_line.ensures
