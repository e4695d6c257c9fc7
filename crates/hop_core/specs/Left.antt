-- What the lanes of a hop leave when their lists are moved out of it.
use Rattle.std.specs.Prelude.{ℕ, List, length, map}
use Rattle.std.specs.List.{range_with_len}
use Rattle.steer_base.specs.Lanes.{LaneLists}
use Rattle.hop_model.specs.Hop.{Bare, accepted_at, delivered_at, drops_at, pulled_at, retired_at}
use Rattle.hop_core.specs.declared.left.LeftLane.{LeftLane}

-- what a lane leaves of which so many packets were delivered and retired
abbrev pub left_of : LaneLists → ℕ → ℕ → LeftLane
left_of l delivered retired =
    record {
      accepted = l.accepted;
      drops = l.drops;
      pulled = l.pulled;
      delivered = delivered;
      retired = retired;
    }

-- what the lane with this number leaves
abbrev pub left_lane : Bare → ℕ → LeftLane
left_lane b c =
    record {
      accepted = accepted_at b c;
      drops = drops_at b c;
      pulled = pulled_at b c;
      delivered = delivered_at b c;
      retired = retired_at b c;
    }

-- what all lanes leave
abbrev pub left_lanes : Bare → List LeftLane
left_lanes b = map (left_lane b) (range_with_len 0 (length b.accepted))
