use Rattle.samoa_serial.specs.Known.{IsKnown}
use Rattle.samoa_serial.proofs.CodeLaws.{entries_are_known, steps_are_named}
use Rattle.samoa_serial.proofs.EntryLaws.{serial_entries}
use Rattle.samoa_serial.proofs.laws.outcomes_are_named.Goals as goal

pub returns : goal.returns
returns c = record {
  named = steps_are_named;
  known = λ script range exts. serial_entries (IsKnown script) script (entries_are_known script range) exts;
}
