use Rattle.std.proofs.Common.{ℕ, ◌<◌, ◌≢◌, length, get_or}
use Rattle.hop_model.specs.Hop.{arrivals_of}
use Rattle.hop_core.proofs.hop.Hop.is_new.Given as goal

abbrev pub invariant-loop-p : goal.invariant-loop-p
invariant-loop-p l = (q i : ℕ) → q < l.p → i < length (arrivals_of l.self q)
    → get_or (arrivals_of l.self q) i 0 ≢ l.id

abbrev pub invariant-loop-n : goal.invariant-loop-n
invariant-loop-n l = record {
  others : (q i : ℕ) → q < l.p → i < length (arrivals_of l.self q)
      → get_or (arrivals_of l.self q) i 0 ≢ l.id;
  early : (i : ℕ) → i < l.n → get_or (arrivals_of l.self l.p) i 0 ≢ l.id;
}
