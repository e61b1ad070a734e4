use Rattle.std.proofs.Common.{◌<◌}
use Rattle.std.proofs.lemmas.Fmt.{decimal_digit}
use Rattle.samoa_report.proofs.push.push_number.Goals as goal

pub returns-then-number-lt10-clause-ok : goal.returns-then-number-lt10-clause-ok
returns-then-number-lt10-clause-ok c =
    let few : c.args.number < 10 = c.if-number-lt10.true in
    rw (decimal_digit c.args.number few) c.push_byte.ensures.ok
