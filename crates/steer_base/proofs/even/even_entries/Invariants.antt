use Rattle.std.proofs.Common.{◌≡◌, ◌<◌, ◌%◌, ℕ, length, slice_index}
use Rattle.steer_base.proofs.even.even_entries.Given as goal

abbrev pub invariant-loop-i : goal.invariant-loop-i
invariant-loop-i l = record {
  size : length l.entries ≡ 128;
  given : (k : ℕ) → k < l.i → slice_index l.entries k ≡ k % l.queues;
}
