-- What the lines of a history are made from.
use Rattle.std.specs.Prelude.{◌≤◌, length}
use Rattle.steer_base.specs.declared.limits.TheConstants.{MAX_PACKETS}
use Rattle.history.specs.Counted.{IsCounted}
use Rattle.history.specs.Regular.{Regular}
use Rattle.history.specs.Slots.{AreSlots}
use Rattle.history.specs.declared.lines.Lines.TheInside.{Inside}

-- a history that is regular for these packets, with the places of each packet and its arrivals
-- counted
pub record AreMade (l : Inside) : Type 0 where
  pub regular : Regular l.packets.now l.apps l.history.now
  pub apps : 1 ≤ l.apps
  pub few : length l.packets.now ≤ MAX_PACKETS
  pub slots : AreSlots l.history.now l.slots
  pub counted : IsCounted l.history.now l.counted
