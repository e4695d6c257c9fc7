-- A history beside its plan and its packets, in the words of the good history.
use Rattle.std.specs.Prelude.{ℕ, ◌≡◌, ◌≤◌, List, [], Option, length}
use Rattle.plan_reader.specs.declared.plan.Plan.{Plan}
use Rattle.steer_base.specs.declared.limits.TheConstants.{MAX_PACKETS}
use Rattle.steer_base.specs.declared.packet.Packet.{Packet}
use Rattle.history.specs.Regular.{Regular}
use Rattle.steer_model.specs.Good.Inputs.{Input}
use Rattle.steer_model.specs.State.Ranges.{AreOfFlows}
use Rattle.good_check.specs.declared.case.Case.{Case}

-- a plan, the packets of a capture, and the length of its cut record, as the input of a history
abbrev pub input : Plan → List Packet → Option ℕ → Input
input plan packets cut = record { plan = plan; packets = packets; cut = cut }

-- the input of a case
abbrev pub input_of : Case → Input
input_of c = input c.plan.now c.given.now.packets c.given.now.cut

-- The history of a case is regular and has no command, and its packets are those of a capture.
pub record IsPlain (c : Case) : Type 0 where
  pub few : length c.given.now.packets ≤ MAX_PACKETS
  pub flows : AreOfFlows c.given.now.packets
  pub regular : Regular c.given.now.packets (length c.plan.now.apps) c.h.now
  pub uncommanded : c.h.now.commands ≡ []
