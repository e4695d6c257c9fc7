-- Lines that were made from a history.
use Rattle.std.specs.Prelude.{ℕ, ◌≡◌, ◌≤◌, List, length}
use Rattle.steer_base.specs.declared.limits.TheConstants.{MAX_PACKETS}
use Rattle.steer_base.specs.declared.packet.Packet.{Packet}
use Rattle.history.specs.Lines.{LineLists, lines_of}
use Rattle.history.specs.declared.history.History.{History}

-- the lines were made from this history, for the packets of some capture and some number of
-- applications
pub record AreLinesOf (lines : LineLists) (h : History) : Type 0 where
  pub packets : List Packet
  pub apps : ℕ
  pub are : lines ≡ lines_of packets apps h
  pub few : length h.arrivals ≤ MAX_PACKETS
