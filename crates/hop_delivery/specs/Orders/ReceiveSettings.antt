-- How the settings of a receive board steer: the masks of the queues, their flow counts with their
-- generations, the socket size and the online mask (kernel scaling chapter, sections RPS and RFS).
use Rattle.std.specs.List.{list_any, range_with_len}
use Rattle.std.specs.Prelude.{◌≡◌, ℕ, ◌+◌, ◌*◌, ◌%◌, ◌^◌, ◌<◌, ◌==◌, ◌&&◌, ◌||◌, Bool, true, not}
use Rattle.std.specs.Prelude.{List, Option, Some, nat_lt, length, slice_index, if◌then◌else◌}
use Rattle.steer_base.specs.Choices.{class_of, rps_choice_of, desired_cpu}
use Rattle.steer_base.specs.{Sets.has, declared.cpu_mask.CpuMask.CpuMask}
use Rattle.hop_delivery.specs.Orders.Runs.{Steering, goal_of}

-- The home processor of each receive queue, the flow of each packet, and the hash and the
-- application of each flow. The producers are the queues, the lanes are the processors, and the out
-- lanes are the inboxes of the applications.
pub record Queues : Type 0 where
  pub homes : List ℕ
  pub flow : ℕ → ℕ
  pub hash : ℕ → Option ℕ
  pub app : ℕ → ℕ

-- A number as a set of processors.
abbrev pub mask : ℕ → CpuMask
mask n = record { 0 = n }

module _ (q : Queues) where
  -- The number of receive queues.
  abbrev pub queues : ℕ
  queues = length q.homes

  -- The setting word of a queue's processor mask.
  abbrev pub mask_word : ℕ → ℕ
  mask_word p = p

  -- The setting word of a queue's flow count, with its generation.
  abbrev pub flows_word : ℕ → ℕ
  flows_word p = queues + p

  -- The setting word of the size of the socket flow table.
  abbrev pub socket_word : ℕ
  socket_word = 2 * queues

  -- The setting word of the online processors.
  abbrev pub online_word : ℕ
  online_word = 2 * queues + 1

  -- The online processors by settings.
  abbrev pub online : (ℕ → ℕ) → CpuMask
  online s = mask (s online_word)

  -- The processor that receive packet steering chooses for a flow at a queue.
  abbrev pub rps : (ℕ → ℕ) → ℕ → ℕ → ℕ
  rps s p f = if nat_lt p queues
      then rps_choice_of (mask (s (mask_word p))) (q.hash f) (online s) (slice_index q.homes p)
      else 0

  -- Whether some processor comes online.
  abbrev pub came_on : CpuMask → CpuMask → Bool
  came_on old new = list_any (λ c. not (has old c) && has new c) (range_with_len 0 32)

  -- Whether a lane has to be empty for a new online mask: that of each processor that goes offline,
  -- and the homes of all queues if some processor comes online.
  abbrev pub empty_for_mask : CpuMask → CpuMask → ℕ → Bool
  empty_for_mask old new l = (has old l && not (has new l))
      || (list_any (λ home. home == l) q.homes && came_on old new)

  -- Whether a lane has to be empty for a change of a setting: for the online mask as
  -- `empty_for_mask` says, and each lane for any other word.
  abbrev pub must_be_empty : (ℕ → ℕ) → ℕ → ℕ → ℕ → Bool
  must_be_empty s w v l = if w == online_word then empty_for_mask (online s) (mask v) l else true

  -- How a receive board steers.
  abbrev pub receive_steering : Steering
  receive_steering = record {
    flow = q.flow;
    to = q.app;
    shape = λ s p. if nat_lt p queues then s (flows_word p) else 0;
    class = λ shape f. class_of (shape % 2 ^ 32) (q.hash f);
    plain = rps;
    desired = λ s p f want. desired_cpu (Some 0) want (online s) (rps s p f);
    online = λ s l. has (online s) l;
    affects = must_be_empty;
  }

-- A packet is to go to an online processor if its queue's home is online.
abbrev pub GoalsAreOnline : Type 0
GoalsAreOnline = (q : Queues) (s : ℕ → ℕ) (p f : ℕ) (class want : Option ℕ) → p < queues q
    → has (online q s) (slice_index q.homes p) ≡ true
    → has (online q s) (goal_of (receive_steering q) s p f class want) ≡ true
