use Rattle.samoa_print.proofs.Round.{written_holds}
use Rattle.samoa_print.proofs.print_script.Goals as goal

pub returns-clause-holds : goal.returns-clause-holds
returns-clause-holds c = written_holds c.script_text.result c.args.script.now c.script_text.ensures.holds
