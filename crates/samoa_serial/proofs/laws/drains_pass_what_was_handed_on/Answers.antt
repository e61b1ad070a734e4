use Rattle.samoa_serial.proofs.DrainLaws.{drain_passes}
use Rattle.samoa_serial.proofs.laws.drains_pass_what_was_handed_on.Goals as goal

pub returns : goal.returns
returns c = record { passed = drain_passes }
