-- What the contracts of the controller, of the wire and of a ring say of what `RunEnds` asks for.
use Rattle.std.specs.Prelude.{◌≡◌, ℕ, ◌<◌, ◌++◌, List, None, All, length, map}
use Rattle.rtrb.specs.Ring.{received}
use Rattle.linearization.specs.Orders.{StepBy}
use Rattle.steer_base.specs.Orders.{IsPrefix}
use Rattle.steer_base.specs.declared.choice.Chosen.{Chosen}
use Rattle.hint_words.specs.declared.step.HintStep.{HintStep}
use Rattle.hop_rule.specs.declared.step.BoardStep.{BoardStep}
use Rattle.history.specs.Lists.{arrivals_at}
use Rattle.history.specs.declared.arrival.Arrival.{Arrival}
use Rattle.history.specs.declared.commanded.Commanded.{Commanded}
use Rattle.hop_rule.specs.Boards.{lane_steps}
use Rattle.hop_rule.specs.Owns.{puts_of}
use Rattle.board_api.specs.Seats.{BoardSeatView}
use Rattle.hop_delivery.specs.Orders.Turns.{Turn}
use Rattle.steer_model.specs.Good.Inputs.{Input, setup_in}
use Rattle.steer_model.specs.State.Setup.{Setup}
use Rattle.run_workers.specs.declared.poller.Poller.{Poller}
use Rattle.run_workers.specs.Records.Polling.{IsPolling}
use Rattle.run_workers.specs.Records.Words.{Mark}
use Rattle.run_crew.specs.Routes.{Ends}
use Rattle.run_words.specs.HintViews.{HintView}
use Rattle.run_controller.specs.Journals.{Attempted}
use Rattle.run_controller.specs.Settings.{KnownSettings}
use Rattle.run_controller.specs.Stages.{Stage}
use Rattle.run_words.specs.declared.seats.Seats.{Seats}

-- A seat has touched no lane since, so it put no packet.
pub record TouchesNoLane (old new : BoardSeatView) : Type 0 where
  pub lanes : lane_steps new.steps ≡ lane_steps old.steps
  pub puts : puts_of new.steps ≡ puts_of old.steps

-- The tries of a controller touch no lane at either board.
abbrev pub ControllersTouchNoLane : Type 0
ControllersTouchNoLane =
    (s : Stage) (before after : List Commanded) (first last : KnownSettings) (old new : Seats)
    → Attempted s before after first last old new
    → TouchesNoLane old.rx new.rx × TouchesNoLane old.tx new.tx

-- The wire sends each packet to a queue of the plan.
abbrev pub ArrivalsAreWithin : Type 0
ArrivalsAreWithin =
    (i : Input) (arrivals : List Arrival) (old new : HintView)
    → Ends (setup_in i) i.plan.filters
    (record { queues = length i.plan.queues; entries = i.plan.reta }) arrivals old new
    → All (λ (a : Arrival). a.queue < length i.plan.queues) arrivals

-- A poller with an empty hand has chosen for a front of what arrived at its queue, if what came out
-- of its ring, and what is left there, is what arrived.
abbrev pub FrontsAreChosen : Type 0
FrontsAreChosen =
    (given : Setup) (first start : ℕ) (p : Poller) (turns : List (StepBy Turn))
    (marks : List (StepBy Mark)) (rx : List BoardStep) (hints : List HintStep)
    (arrivals : List Arrival) (left : List ℕ)
    → IsPolling given first start p turns marks rx hints → p.hand ≡ None
    → arrivals_at arrivals p.queue ≡ received p.ring ++ left
    → All (λ x. x < p.choices.room) (arrivals_at arrivals p.queue)
    → IsPrefix (map (λ (c : Chosen). c.id) p.choices.items) (arrivals_at arrivals p.queue)
