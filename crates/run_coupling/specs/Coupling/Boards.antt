-- The two boards of a run: their sizes and first settings are the plan's, and the lists that they
-- leave are the history's.
use Rattle.std.specs.Prelude.{◌≡◌, [], length}
use Rattle.hop_model.specs.declared.shape.TheConstants.{MAX_HOP_ROOM}
use Rattle.history.specs.Lists.{list_at}
use Rattle.history.specs.declared.history.History.{History}
use Rattle.hop_rule.specs.Gates.{own_settings}
use Rattle.hop_rule.specs.declared.sizes.BoardSizes.{BoardSizes}
use Rattle.board_api.specs.declared.lists.BoardLists.{BoardLists}
use Rattle.steer_model.specs.Good.Inputs.{Input}
use Rattle.steer_model.specs.State.Start.{initial_settings}
use Rattle.run_coupling.specs.Coupling.Inputs.{AreReceiveWords, AreTransmitWords, receive_queues}

module _ (i : Input) (h : History) (about : BoardSizes) (lists : BoardLists) where
  -- The receive board: a middle lane for each processor and an out lane for each application, with
  -- the plan's limits and settings.
  pub record IsReceiveBoard : Type 0 where
    pub start : about.start ≡ h.start
    pub lane_count : about.lanes ≡ i.plan.cpus
    pub out_count : about.outs ≡ length i.plan.apps
    pub limit : about.limit ≡ i.plan.backlog
    pub room : about.room ≡ length i.packets
    pub limited : about.limited ≡ i.plan.limited
    pub settings : AreReceiveWords (receive_queues i) (initial_settings i.plan) (λ p. 0)
        (own_settings about [])
    pub lanes : h.lanes ≡ lists.lanes
    pub inboxes : h.inboxes ≡ lists.outs

  -- The transmit board: a middle lane for each transmit queue and one out lane, the port, with
  -- lanes that are never full and the plan's maps.
  pub record IsTransmitBoard : Type 0 where
    pub start : about.start ≡ h.start
    pub lane_count : about.lanes ≡ length i.plan.tx
    pub out_count : about.outs ≡ 1
    pub limit : about.limit ≡ MAX_HOP_ROOM
    pub limited : about.limited ≡ record { 0 = 0 }
    pub settings : AreTransmitWords (length i.plan.tx) (initial_settings i.plan)
        (own_settings about [])
    pub lanes : h.tx_lanes ≡ lists.lanes
    pub port : h.port ≡ list_at lists.outs 0
