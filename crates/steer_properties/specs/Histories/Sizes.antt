-- What the history of a replay has of its plan and its capture, in every state.
use Rattle.std.specs.Prelude.{◌≡◌, length}
use Rattle.history.specs.declared.history.History.{History}
use Rattle.steer_model.specs.Good.Inputs.{Input}

-- A history has the capture's number of packets and its cut, the plan's start, and lists for the
-- plan's queues, processors and transmit queues.
pub record IsOfItsInput (i : Input) (h : History) : Type 0 where
  pub total : h.total ≡ length i.packets
  pub cut : h.cut ≡ i.cut
  pub start : h.start ≡ i.plan.start
  pub queues : length h.taken ≡ length i.plan.queues
  pub cpus : length h.lanes ≡ i.plan.cpus
  pub txs : length h.tx_lanes ≡ length i.plan.tx
