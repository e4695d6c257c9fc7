-- The count of a sink that never fails.
use Rattle.std.specs.Prelude.{ℕ}
use Rattle.outside_io.specs.declared.sure_sink.SureSink.{SureSink}

-- the number of bytes written to a sink that never fails
abbrev pub sure_sink_count : SureSink → ℕ
sure_sink_count sink = sink.count
