-- The statuses as numbers.
use Rattle.std.specs.Prelude.{ℕ}
use Rattle.samoa_run.specs.declared.status.Status.{Status}
use Rattle.samoa_run.specs.declared.status.Status.TheVariants.{Done, Usage, Refused, SourceFailed, SinkFailed, Memory, NotReplayed, Limited}

abbrev pub number : Status → ℕ
number Done = 0
number Usage = 2
number Refused = 3
number SourceFailed = 4
number SinkFailed = 5
number Memory = 6
number NotReplayed = 7
number Limited = 8
