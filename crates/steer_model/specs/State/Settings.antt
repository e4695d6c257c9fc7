-- What commands change (kernel scaling chapter, sections RSS, RPS, RFS and XPS).
use Rattle.std.specs.Prelude.{ℕ, ◌<◌, ◌≤◌, ◌≡◌, true, List, Option, length}
use Rattle.std.specs.Prelude.{slice_index, slice_index_or, slice_set}
use Rattle.steer_base.specs.Choices.{class_of, rps_choice_of}
use Rattle.steer_base.specs.Counters.{rounded_up}
use Rattle.steer_base.specs.Sets.{with_cpu, without_cpu}
use Rattle.steer_base.specs.declared.command.Command.{Command}
use Rattle.steer_base.specs.declared.command.Command.TheVariants as give
use Rattle.steer_base.specs.declared.cpu_mask.CpuMask.{CpuMask}
use Rattle.steer_base.specs.declared.limits.TheConstants.{MAX_FLOW_COUNT, MAX_SOCKET_SIZE}
use Rattle.rss_table.specs.Redirection.{Redirection, is_in_range, with_entry}
use Rattle.xps_map.specs.Maps.{Maps}
use Rattle.steer_model.specs.State.Setup.{Setup, packet_hash}

-- The settings in force: each receive queue's processors and flow count, the socket flow table's
-- size, the online processors, the maps of the transmit queues, the redirection table, and the
-- processor of each application.
pub record Settings : Type 0 where
  pub masks : List CpuMask
  pub counts : List ℕ
  pub sock : ℕ
  pub online : CpuMask
  pub maps : Maps
  pub reta : Redirection
  pub stands : List ℕ

-- the processors of a receive queue
abbrev pub mask_of : Settings → ℕ → CpuMask
mask_of s q = slice_index_or s.masks q (record { 0 = 0 })

-- the class of a packet at a receive queue
abbrev pub class_at : Setup → Settings → ℕ → ℕ → Option ℕ
class_at p s q x = class_of (slice_index s.counts q) (packet_hash p x)

-- the RPS choice for a packet at a receive queue: the processor that it goes to without a class
abbrev pub plain_lane : Setup → Settings → ℕ → ℕ → ℕ
plain_lane p s q x =
    rps_choice_of (mask_of s q) (packet_hash p x) s.online (slice_index p.homes q)

-- The settings after a command that was done; flow counts and the size of the socket flow table are
-- rounded up to a power of two.
abbrev pub changed : Settings → Command → Settings
changed s (give.Mask q mask) = record s { masks = slice_set s.masks q mask }
changed s (give.Flows q count) = record s { counts = slice_set s.counts q (rounded_up count) }
changed s (give.Sock size) = record s { sock = rounded_up size }
changed s (give.Offline cpu) = record s { online = without_cpu s.online cpu }
changed s (give.Online cpu) = record s { online = with_cpu s.online cpu }
changed s (give.XCpus tx mask) =
    record s { maps = record s.maps { cpus = slice_set s.maps.cpus tx mask } }
changed s (give.XQueues tx queues) =
    record s { maps = record s.maps { queues = slice_set s.maps.queues tx queues } }
changed s (give.Reta place q) = record s { reta = with_entry s.reta place q }
changed s (give.Stand app cpu) = record s { stands = slice_set s.stands app cpu }
changed s give.Expire = s

-- A command names what these settings have, with numbers in range.
abbrev pub IsInRange : Settings → Command → Type 0
IsInRange s (give.Mask q mask) = q < length s.masks
IsInRange s (give.Flows q count) = (q < length s.counts) × (count ≤ MAX_FLOW_COUNT)
IsInRange s (give.Sock size) = size ≤ MAX_SOCKET_SIZE
IsInRange s (give.Offline cpu) = cpu < 32
IsInRange s (give.Online cpu) = cpu < 32
IsInRange s (give.XCpus tx mask) = tx < s.maps.count
IsInRange s (give.XQueues tx queues) = tx < s.maps.count
IsInRange s (give.Reta place q) = is_in_range s.reta place q ≡ true
IsInRange s (give.Stand app cpu) = app < length s.stands
IsInRange s give.Expire = Unit {0}
