-- What a put and a take do to a lane, and what they answer.
use Rattle.std.specs.Prelude.{ℕ, ◌≡◌, ◌+◌, ◌≤◌, Bool, [], ◌∷◌, ◌++◌, Option, Some, None, nat_lt}
use Rattle.std.specs.Prelude.{length, slice_get, if◌then◌else◌}
use Rattle.steer_base.specs.Counters.{number}
use Rattle.steer_base.specs.Drops.{bucket_of, lane_drop_cause}
use Rattle.steer_base.specs.Lanes.{LaneLists}
use Rattle.steer_base.specs.declared.put.DropCause.{DropCause}
use Rattle.steer_base.specs.declared.put.Put.{Put}
use Rattle.steer_base.specs.declared.put.Put.TheVariants.{At, Dropped}

-- an empty lane
abbrev pub new_lane : (limit room start : ℕ) → Bool → LaneLists
new_lane limit room start limited =
    record {
      accepted = [];
      offers = [];
      drops = [];
      pulled = 0;
      limit = limit;
      room = room;
      start = start;
      limited = limited;
    }

-- the lane after a packet was dropped for a cause, or accepted if there is none; either is an offer
abbrev pub put_by : Option DropCause → LaneLists → ℕ → Option ℕ → LaneLists
put_by None l id bucket =
    record l { accepted = l.accepted ++ id ∷ []; offers = l.offers ++ bucket ∷ [] }
put_by (Some cause) l id bucket =
    record l {
      drops = l.drops
          ++ record {
            id = id;
            accepted = length l.accepted;
            pulled = l.pulled;
            cause = cause;
          } ∷ [];
      offers = l.offers ++ bucket ∷ [];
    }

-- the lane after a put of a packet with this hash
abbrev pub after_put : LaneLists → ℕ → Option ℕ → LaneLists
after_put l id hash = put_by (lane_drop_cause l hash) l id (bucket_of hash)

-- the answer of a put: the new tail, or the number of the drop from 1, its two counts and its cause
abbrev pub answer_by : Option DropCause → LaneLists → Put
answer_by None l = At (number l.start (length l.accepted + 1))
answer_by (Some cause) l = Dropped (length l.drops + 1) (length l.accepted) l.pulled cause

-- the answer of a put to a lane
abbrev pub put_answer : LaneLists → Option ℕ → Put
put_answer l hash = answer_by (lane_drop_cause l hash) l

-- the lane after a take, which pulls the next packet if one waits
abbrev pub after_take : LaneLists → LaneLists
after_take l = if nat_lt l.pulled (length l.accepted) then record l { pulled = l.pulled + 1 } else l

-- the oldest packet that waits in a lane, if there is one
abbrev pub next_waiting : LaneLists → Option ℕ
next_waiting l = slice_get l.accepted l.pulled

-- The invariant of a lane: only accepted packets are pulled, no more wait than the limit, each
-- offer was accepted or dropped, and all offers fit the room.
pub record IsLane (l : LaneLists) : Type 0 where
  pub pulled : l.pulled ≤ length l.accepted
  pub waiting : length l.accepted ≤ l.pulled + l.limit
  pub offers : length l.offers ≡ length l.accepted + length l.drops
  pub fits : length l.offers ≤ l.room

-- Two states of a lane have the same limit, room, counter start and flow limit.
pub record SameShape (old new : LaneLists) : Type 0 where
  pub limit : new.limit ≡ old.limit
  pub room : new.room ≡ old.room
  pub start : new.start ≡ old.start
  pub limited : new.limited ≡ old.limited

-- how many packets were put to a lane, accepted and dropped together
abbrev pub put_count : LaneLists → ℕ
put_count l = length l.accepted + length l.drops
