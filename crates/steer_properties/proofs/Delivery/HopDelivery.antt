-- That the machine delivers each flow in order and drops for a cause, as each event of its hops has
-- to keep it.
use Rattle.std.specs.Prelude.{ℕ, ◌<◌, ◌≡◌, Bool, ◌&&◌, ◌==◌, nat_lt, length}
use Rattle.hop_model.specs.BareEvents.{LaneDropsRise}
use Rattle.hop_core.specs.Flows.{FlowOrdered}
use Rattle.hop_model.specs.Hop.{Fixed, HopState}
use Rattle.hop_core.specs.Laws.{DropsExplained}
use Rattle.steer_model.specs.State.Machine.{Machine}
use Rattle.steer_model.specs.State.Setup.{Setup, app_for, flow_number_of, packet_hash}

-- whether a packet of the capture has the flow of another
abbrev pub is_of : Setup → ℕ → ℕ → Bool
is_of p x y = nat_lt y (length p.packets) && flow_number_of p y == flow_number_of p x

-- The receive hop keeps each flow in order from each queue to the inbox of its application; each of
-- its drops has its cause, and along the drops of a lane the counts never fall.
pub record DeliversRx (p : Setup) (f : Fixed) (s : HopState) : Type 0 where
  pub fixed : s.fixed ≡ f
  pub order : (q x : ℕ) → x < length p.packets → FlowOrdered (is_of p x) q (app_for p x) s
  pub causes : DropsExplained (packet_hash p) s
  pub counts : LaneDropsRise s

-- The transmit hop keeps each flow in order from each application to the port.
abbrev pub DeliversTx : Setup → HopState → Type 0
DeliversTx p s = (a x : ℕ) → x < length p.packets → FlowOrdered (is_of p x) a 0 s

-- Both hops of a machine keep each flow in order.
pub record Delivers (f : Fixed) (m : Machine) : Type 0 where
  pub rx : DeliversRx m.setup f m.rx
  pub tx : DeliversTx m.setup m.tx
