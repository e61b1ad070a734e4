use Rattle.samoa_serial.proofs.CodeLaws.{silent_is_still}
use Rattle.samoa_serial.proofs.StillLaws.{still_admitted, still_report, still_unlimited}
use Rattle.samoa_serial.proofs.laws.quiet_scripts_have_the_plain_history.Goals as goal

pub returns : goal.returns
returns c = record { still = silent_is_still; admitted = still_admitted; unlimited = still_unlimited; report = still_report }
