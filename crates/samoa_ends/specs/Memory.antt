-- Sources and sinks in memory.
use Rattle.std.specs.Prelude.{ℕ, ◌+◌, ◌-◌, ◌^◌, List, drop, min}
use Rattle.samoa_ends.specs.declared.memory.MemSource.{MemSource}
use Rattle.samoa_ends.specs.declared.memory.MemSink.{MemSink}

-- the number of the next call; it stands still at the end of its type
abbrev pub next_call : ℕ → ℕ
next_call calls = min (calls + 1) (2 ^ 64 - 1)

abbrev pub bytes_left : MemSource → List ℕ
bytes_left s = drop s.at s.bytes.items

-- the numbers of the reads that fail
abbrev pub failing_reads : MemSource → List ℕ
failing_reads s = s.failing.items

abbrev pub reads_made : MemSource → ℕ
reads_made s = s.calls

abbrev pub read_faults : MemSource → ℕ
read_faults s = s.faults

abbrev pub bytes_written : MemSink → List ℕ
bytes_written s = s.bytes.items

-- the numbers of the writes that fail
abbrev pub failing_writes : MemSink → List ℕ
failing_writes s = s.failing.items

abbrev pub writes_made : MemSink → ℕ
writes_made s = s.calls

abbrev pub write_faults : MemSink → ℕ
write_faults s = s.faults

-- how many more bytes the sink takes
abbrev pub room_left : MemSink → ℕ
room_left s = s.room
