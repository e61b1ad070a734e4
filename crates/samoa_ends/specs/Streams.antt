-- Sources and sinks over readers and writers.
use Rattle.std.specs.Prelude.{ℕ}
use Rattle.samoa_ends.specs.declared.streams.StdSource.{StdSource}
use Rattle.samoa_ends.specs.declared.streams.StdSink.{StdSink}

abbrev pub reader_of : {R : Type 0} → StdSource R → R
reader_of s = s.reader

abbrev pub source_faults : {R : Type 0} → StdSource R → ℕ
source_faults s = s.faults

abbrev pub writer_of : {W : Type 0} → StdSink W → W
writer_of s = s.writer

abbrev pub sink_faults : {W : Type 0} → StdSink W → ℕ
sink_faults s = s.faults
