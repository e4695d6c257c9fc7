-- The maps seen from their other side: for each place, a receive queue or a processor, the set of
-- the transmit queues that serve it.
use Rattle.std.specs.Prelude.{ℕ, ◌≡◌, ◌<◌, Bool, List, length, slice_index, slice_index_or, ◌==◌}
use Rattle.std.specs.Prelude.{◌&&◌, if◌then◌else◌}
use Rattle.steer_base.specs.Sets.{has, has_queue}
use Rattle.steer_base.specs.declared.cpu_mask.CpuMask.{CpuMask}
use Rattle.xps_map.specs.Maps.{no_cpus}
use Rattle.xps_map.specs.declared.inverse.Inverse.{Inverse}

-- whether one of these processor maps has a processor
abbrev pub serves_cpu_of : List CpuMask → ℕ → ℕ → Bool
serves_cpu_of cpus tx cpu = has (slice_index_or cpus tx no_cpus) cpu

-- whether one of these receive-queue maps has a receive queue
abbrev pub serves_queue_of : List ℕ → ℕ → ℕ → Bool
serves_queue_of queues tx rxq = has_queue (slice_index queues tx) rxq

-- whether the set of a place has a transmit queue
abbrev pub serving : List CpuMask → ℕ → ℕ → Bool
serving sets tx place = has (slice_index_or sets place no_cpus) tx

-- the set of each place has the transmit queues that serve it
abbrev pub IsInverseOf : (ℕ → ℕ → Bool) → List CpuMask → Type 0
IsInverseOf serves sets =
    (tx place : ℕ) → place < length sets → serving sets tx place ≡ serves tx place

-- the inverse of maps with these processors and these receive queues of each transmit queue
pub record Inverts (cpu_maps : List CpuMask) (queue_maps : List ℕ) (inverse : Inverse)
    : Type 0 where
  pub cpus : IsInverseOf (serves_cpu_of cpu_maps) inverse.by_cpu
  pub queues : IsInverseOf (serves_queue_of queue_maps) inverse.by_queue

-- in the sets of these places a transmit queue now stands, or it does not; all else is as it was
pub record Puts (tx : ℕ) (places : ℕ → Bool) (stands : Bool) (old new : List CpuMask) : Type 0 where
  pub len : length new ≡ length old
  pub sets : (other place : ℕ) → place < length old
      → serving new other place
      ≡ (if tx == other && places place then stands else serving old other place)
