-- What the workers keep of the applications that reply.
use Rattle.std.specs.Prelude.{◌≡◌, ℕ, ◌+◌, ◌^◌, ◌<◌, List, Some, length, map, slice_get}
use Rattle.history.specs.Lists.{list_at}
use Rattle.history.specs.declared.history.History.{History}
use Rattle.history.specs.declared.sent.Sent.{Sent}
use Rattle.hop_rule.specs.Moments.{nth_step}
use Rattle.hop_rule.specs.OutLanes.{OutList}
use Rattle.hop_rule.specs.declared.sizes.BoardSizes.{BoardSizes}
use Rattle.hop_rule.specs.declared.step.BoardStep.{BoardStep}
use Rattle.hop_rule.specs.declared.step.BoardStep.TheVariants.{Lane}
use Rattle.hop_rule.specs.declared.step.LaneStep.TheVariants.{OutHeld}
use Rattle.board_api.specs.OwnSteps.{Has}
use Rattle.hop_delivery.specs.Closings.TurnReads.{KnowsMaps}
use Rattle.hop_delivery.specs.Orders.Runs.{Execution, turns_of}
use Rattle.hop_delivery.specs.Orders.TransmitSettings.{pick_by, transmit_steering}
use Rattle.hop_delivery.specs.Orders.Turns.{Turn}
use Rattle.steer_model.specs.Good.Inputs.{Input, setup_in}
use Rattle.steer_model.specs.State.Setup.{flow_number_of, packet_hash}
use Rattle.run_coupling.specs.Coupling.OwnTables.{IsByTable}
use Rattle.run_coupling.specs.Coupling.Turns.{KeepsTurns}

-- A seat has held the out lane o of the receive board and found the packet at its index k.
pub record WasFoundAt (rx_own : ℕ → List BoardStep) (o k id : ℕ) : Type 0 where
  pub seat : ℕ
  pub step : ℕ
  pub word : ℕ
  pub found : OutList
  pub does : Has (rx_own seat) step (Lane (OutHeld o word found))
  pub there : slice_get found.items k ≡ Some id

-- The words of the maps are within the ranges of what they say: sets of the board's processors and
-- sets of the receive queues.
pub record FitTransmitWords (cpus queues count : ℕ) (s : ℕ → ℕ) : Type 0 where
  pub cpu_sets : (tx : ℕ) → tx < count → s tx < 2 ^ cpus
  pub queue_sets : (tx : ℕ) → tx < count → s (count + tx) < 2 ^ queues

module _ (i : Input) (h : History) (rx_own : ℕ → List BoardStep) (about : BoardSizes)
    (own : ℕ → List BoardStep) where
  -- The journals of the applications, by the turns that explain the workers' own lists at the
  -- transmit board. An application found its k-th reply's packet in its inbox. The k-th turn knows
  -- all maps; if they are within their ranges, it wants the queue that they pick. Its choice is by
  -- the application's own table. In the end each application has a list of each kind.
  pub record KeepsApplications (t : Execution) (seen : ℕ → ℕ → ℕ → ℕ) : Type 0 where
    pub turns : KeepsTurns own t
    pub sent_lists : length h.sent ≡ length i.plan.apps
    pub choice_lists : length h.tx_choices ≡ length i.plan.apps
    pub write_lists : length h.writes ≡ length i.plan.apps
    pub replies : (a : ℕ) → t.arrivals a ≡ map (λ (s : Sent). s.id) (list_at h.sent a)
    pub choices : (a : ℕ) → list_at h.tx_choices a ≡ t.choices a
    pub found : (a k : ℕ) (s : Sent) → slice_get (list_at h.sent a) k ≡ Some s
        → WasFoundAt rx_own a k s.id
    pub knows : (a k : ℕ) (u : Turn) → nth_step (turns_of t a) k ≡ Some u
        → KnowsMaps (own (t.seat a)) (length i.plan.tx) u (seen a k)
    pub picks : (a k : ℕ) (u : Turn) (s : Sent) → nth_step (turns_of t a) k ≡ Some u
        → slice_get (list_at h.sent a) k ≡ Some s
        → FitTransmitWords i.plan.cpus (length i.plan.queues) (length i.plan.tx) (seen a k)
        → u.chosen.choice.want
        ≡ Some (pick_by (length i.plan.tx) (seen a k) s.rxq s.cpu (packet_hash (setup_in i) s.id))
    pub by_table : (a k : ℕ) (u : Turn) → nth_step (turns_of t a) k ≡ Some u
        → IsByTable about.start t (transmit_steering (flow_number_of (setup_in i))) (seen a) a k u
