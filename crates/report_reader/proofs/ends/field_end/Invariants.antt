use Rattle.std.proofs.Common.{◌≡◌, ◌≤◌, ◌<◌, ◌≢◌, ◌-◌, ℕ, length, slice_index}
use Rattle.report_reader.specs.Ends.{piece}
use Rattle.report_reader.proofs.NumbersLemmas.{number_from}
use Rattle.report_reader.proofs.ends.field_end.Given as goal

abbrev pub invariant-loop-end : goal.invariant-loop-end
invariant-loop-end l = record {
  behind : l.at ≤ l.end;
  within : l.end ≤ length l.bytes;
  plain : (j : ℕ) → l.at ≤ j → j < l.end → (slice_index l.bytes j ≢ 32)
      × (slice_index l.bytes j ≢ 10);
  number : l.number ≡ number_from 0 (piece l.bytes l.at l.end);
}

abbrev pub decreases-loop-end : goal.decreases-loop-end
decreases-loop-end l = length l.bytes - l.end
