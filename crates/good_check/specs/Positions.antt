-- The position of a packet at the lane of a choice, by what is known of the packet.
use Rattle.std.specs.Prelude.{ℕ, ◌==◌, Option, Some, None, if◌then◌else◌}
use Rattle.std.specs.Option.{option_map}
use Rattle.steer_base.specs.Counters.{number}

-- the position of a packet at a lane, if that is its own lane, by its place there
abbrev pub position_in : ℕ → Option ℕ → Option ℕ → ℕ → Option ℕ
position_in start None place lane = None
position_in start (Some own) place lane =
    if own == lane then option_map (number start) place else None
