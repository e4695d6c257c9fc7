-- The parts of a sink that gathers bytes before it passes them on, and what it observes of them.
use Rattle.std.specs.Prelude.{◌≡◌, ℕ, List, Bool, ◌||◌, drop, Option, true}
use Rattle.std.specs.Io.KnownBytes.{append_known}
use Rattle.outside_io.specs.Counts.{counted}
use Rattle.outside_io.specs.declared.buffered_sink.BufferedSink.{BufferedSink}

-- the sink that the bytes are passed on to
abbrev pub sink_behind : {K : Type 0} → BufferedSink K → K
sink_behind sink = sink.behind

-- the bytes that were taken and not yet passed on
abbrev pub held_back : {K : Type 0} → BufferedSink K → List ℕ
held_back sink = drop sink.passed sink.buffer.items

-- whether a call has failed
abbrev pub is_closed : {K : Type 0} → BufferedSink K → Bool
is_closed sink = sink.closed

-- the number of failed calls
abbrev pub buffered_sink_faults : {K : Type 0} → BufferedSink K → ℕ
buffered_sink_faults sink = sink.faults

-- what the sink behind observes of its bytes, and then the bytes held back
abbrev pub and_held_back
    : {K : Type 0} → (K → Option (List ℕ)) → BufferedSink K → Option (List ℕ)
and_held_back known sink = append_known (known (sink_behind sink)) (held_back sink)

-- A call that failed closes the sink and is counted. A closed sink passes nothing on, and each of
-- its calls fails.
pub record ClosesAtFault {K : Type 0} (old new : BufferedSink K) (failed : Bool) : Type 0 where
  pub counted : buffered_sink_faults new ≡ counted failed (buffered_sink_faults old)
  pub closed : is_closed new ≡ (is_closed old || failed)
  pub fails : is_closed old ≡ true → failed ≡ true
  pub silent : is_closed old ≡ true → sink_behind new ≡ sink_behind old
