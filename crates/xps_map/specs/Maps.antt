-- The maps of transmit packet steering (kernel scaling chapter, section XPS: `xps_cpus` and
-- `xps_rxqs`). The index by the hash, and all queues where no map has one, are this project's own.
use Rattle.std.specs.Prelude.{ℕ, Bool, List, Option, slice_index, slice_index_or, replicate}
use Rattle.steer_base.specs.Sends.{pick_of}
use Rattle.steer_base.specs.Sets.{has, has_queue}
use Rattle.steer_base.specs.declared.cpu_mask.CpuMask.{CpuMask}

-- the maps of transmit packet steering: for each transmit queue its processors and its receive
-- queues
pub record Maps : Type 0 where
  pub count : ℕ
  pub cpus : List CpuMask
  pub queues : List ℕ

-- the empty set of processors
abbrev pub no_cpus : CpuMask
no_cpus = record { 0 = 0 }

-- the maps of this many transmit queues, all of them empty
abbrev pub empty_maps : ℕ → Maps
empty_maps count =
    record { count = count; cpus = replicate count no_cpus; queues = replicate count 0 }

-- whether the receive-queue map of a transmit queue has a receive queue
abbrev pub serves_queue : Maps → ℕ → ℕ → Bool
serves_queue maps tx rxq = has_queue (slice_index maps.queues tx) rxq

-- whether the processor map of a transmit queue has a processor
abbrev pub serves_cpu : Maps → ℕ → ℕ → Bool
serves_cpu maps tx cpu = has (slice_index_or maps.cpus tx no_cpus) cpu

-- the transmit queue that the maps pick for a packet
abbrev pub picked : Maps → ℕ → ℕ → Option ℕ → ℕ
picked maps rxq cpu hash = pick_of maps.count (serves_queue maps) (serves_cpu maps) rxq cpu hash
