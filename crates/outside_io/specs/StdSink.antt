-- The parts of a sink over an output stream.
use Rattle.std.specs.Prelude.{ℕ, List, Option}
use Rattle.outside_io.specs.declared.std_sink.StdSink.{StdSink}

-- the writer that a sink writes to
abbrev pub writer_of : {W : Type 0} → StdSink W → W
writer_of sink = sink.writer

-- the bytes that the writer of a sink took from it, by what its calls answered
abbrev pub passed_by : {W : Type 0} → StdSink W → List ℕ
passed_by sink = sink.passed

-- those of them that it took since its last flush that succeeded
abbrev pub unflushed_by : {W : Type 0} → StdSink W → List ℕ
unflushed_by sink = sink.unflushed

-- what the writer of a sink observes of its bytes
abbrev pub known_contents : {W : Type 0} → (W → Option (List ℕ)) → StdSink W → Option (List ℕ)
known_contents contents sink = contents (writer_of sink)

-- the number of failed writes and flushes of a sink over an output stream
abbrev pub std_sink_faults : {W : Type 0} → StdSink W → ℕ
std_sink_faults sink = sink.faults
