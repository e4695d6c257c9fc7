use Rattle.std.proofs.Common.{◌≡◌, ◌<◌, ◌/◌, ◌%◌, ℕ, length, slice_index}
use Rattle.toeplitz.specs.Tables.{word_of}
use Rattle.toeplitz.proofs.tabled_key.table.Given as goal

abbrev pub invariant-loop-at : goal.invariant-loop-at
invariant-loop-at l = record {
  size : length l.words.items ≡ l.at;
  word : (k : ℕ) → k < l.at → slice_index l.words.items k ≡ word_of l.key (k / 256) (k % 256);
}
