-- What a sink in memory holds, and which of its writes fail.
use Rattle.std.specs.Prelude.{if◌then◌else◌, List, ℕ, ◌-◌, Bool, ◌||◌, nat_lt, length, drop}
use Rattle.outside_io.specs.Failures.{next_fails}
use Rattle.outside_io.specs.declared.failures.Failures.{Failures}
use Rattle.outside_io.specs.declared.memory_sink.MemorySink.{MemorySink}
use Rattle.outside_io.specs.declared.sink.Took.{Took}
use Rattle.outside_io.specs.declared.sink.Took.TheVariants as took

-- all that was written to a sink in memory
abbrev pub written_to : MemorySink → List ℕ
written_to sink = sink.bytes.items

-- what was written to a sink in memory since its last flush
abbrev pub unsent_by : MemorySink → List ℕ
unsent_by sink = drop sink.sent (written_to sink)

-- the number of bytes that a sink in memory takes in all
abbrev pub room_of : MemorySink → ℕ
room_of sink = sink.room

-- the writes to a sink in memory, and which of them fail
abbrev pub memory_sink_failures : MemorySink → Failures
memory_sink_failures sink = sink.failures

-- the number of failed writes to a sink in memory
abbrev pub memory_sink_faults : MemorySink → ℕ
memory_sink_faults sink = sink.failures.faults

-- the number of bytes that a sink in memory still takes
abbrev pub room_left : MemorySink → ℕ
room_left sink = room_of sink - length (written_to sink)

-- a `write` of this many bytes fails if its number is listed or less room is left
abbrev pub write_fails : MemorySink → ℕ → Bool
write_fails sink size = next_fails (memory_sink_failures sink) || nat_lt (room_left sink) size

-- the answer to a `write` of this many bytes, which takes its whole piece unless it fails
abbrev pub write_answer : MemorySink → ℕ → Took
write_answer sink size = if write_fails sink size then took.Failed else took.Bytes size
