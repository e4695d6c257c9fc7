-- The accepted packets of a lane, and those of them that wait.
use Rattle.std.specs.Prelude.{ℕ, ◌-◌, ◌≤◌, List, length}
use Rattle.steer_base.specs.Journals.{Journal}
use Rattle.backlog.specs.declared.limits.TheConstants.{MAX_LANE_ROOM}

-- a lane's accepted packets, how many were pulled, the limit on those that wait, and the room for
-- all
pub record QueueLists : Type 0 where
  pub accepted : List ℕ
  pub pulled : ℕ
  pub limit : ℕ
  pub room : ℕ

-- a lane's accepted packets with these numbers, from a journal
abbrev pub queue_lists : Journal ℕ → ℕ → ℕ → QueueLists
queue_lists accepted pulled limit =
    record { accepted = accepted.items; pulled = pulled; limit = limit; room = accepted.room }

-- Only accepted packets were pulled, no more wait than the limit, and all fit the room.
pub record IsQueue (queue : QueueLists) : Type 0 where
  pub pulled : queue.pulled ≤ length queue.accepted
  pub waiting : length queue.accepted - queue.pulled ≤ queue.limit
  pub fits : length queue.accepted ≤ queue.room
  pub room : queue.room ≤ MAX_LANE_ROOM
