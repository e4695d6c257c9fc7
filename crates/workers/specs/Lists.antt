-- The rings of a run at its end.
use Rattle.std.specs.Prelude.{◌≡◌, ℕ, ◌++◌, List, Some, length, slice_get, slice_index_or}
use Rattle.rtrb.specs.Ring.{IsPair, received, sent}
use Rattle.workers.specs.declared.wire.Wire.{Wire}
use Rattle.run_workers.specs.declared.poller.Poller.{Poller}

-- There is a poller for each ring of the wire, and it has the other end of the ring.
pub record ArePairs (wire : Wire) (pollers : List Poller) : Type 0 where
  pub count : length wire.rings.items ≡ length pollers
  pub pair : (q : ℕ) (d : _) (p : Poller) → slice_get pollers q ≡ Some p
      → IsPair (slice_index_or wire.rings.items q d) p.ring

-- What came out of each ring, and what is left there, is what was given to it.
abbrev pub AreReceived : Wire → List Poller → Type 0
AreReceived wire pollers =
    (q : ℕ) (d : _) (p : Poller) → slice_get pollers q ≡ Some p
    → (left : List ℕ) × (received p.ring ++ left ≡ sent (slice_index_or wire.rings.items q d))
