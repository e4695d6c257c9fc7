-- Laws that carry a poller's record of its turns over its own calls and those of other actors.
use Rattle.std.specs.Prelude.{◌≡◌, ℕ, ◌==◌, false, List, [], None}
use Rattle.rtrb.specs.Ring.{received}
use Rattle.linearization.specs.Orders.{StepBy, steps_of}
use Rattle.linearization.specs.Seats.{SeatView}
use Rattle.steer_base.specs.Counters.{rounded_up}
use Rattle.dev_flow_table.specs.Tables.{cleared}
use Rattle.hint_words.specs.declared.step.HintStep.{HintStep}
use Rattle.board_api.specs.Seats.{BoardSeatView}
use Rattle.hop_rule.specs.declared.step.BoardStep.{BoardStep}
use Rattle.hop_delivery.specs.Orders.Turns.{Explained, Turn}
use Rattle.steer_model.specs.State.Setup.{Setup}
use Rattle.run_words.specs.Values.{flows_in}
use Rattle.run_workers.specs.Hands.Pollers.{IsPoller, Polls}
use Rattle.run_workers.specs.declared.poller.Poller.{Poller}
use Rattle.run_workers.specs.Records.Growth.{Grows, TurnsGrow}
use Rattle.run_workers.specs.Records.Polling.{IsPolling}
use Rattle.run_workers.specs.Records.Storing.{StoresAreFor}
use Rattle.run_workers.specs.Records.Words.{Mark, Note}

-- A poller that was made for a flow word and an empty ring keeps the record of no turns.
abbrev pub PollersBegin : Type 0
PollersBegin =
    (given : Setup) (first start : ℕ) (p : Poller) (turns : List (StepBy Turn))
    (marks : List (StepBy Mark)) (rx : List BoardStep) (hints : List HintStep)
    → p.hand ≡ None → p.flows ≡ first → p.choices.items ≡ [] → p.accepted ≡ 0
    → p.table ≡ cleared (rounded_up (flows_in first)) start false → received p.ring ≡ []
    → steps_of p.queue turns ≡ [] → steps_of p.queue marks ≡ []
    → IsPolling given first start p turns marks rx hints

-- What a poll leaves: the turns that explain the seat's list and their marks, with at most one more
-- of the queue, and the poller's record over them. If stores before were for these, so they are
-- after.
pub record PollsOn (given : Setup) (filters first start : ℕ) (p q : Poller)
    (turns : List (StepBy Turn)) (marks : List (StepBy Mark)) (new : BoardSeatView)
    (hint_old hint_new : SeatView HintStep) : Type 0 where
  pub more : List (StepBy Turn)
  pub grow : TurnsGrow p.queue turns more
  pub more_marks : List (StepBy Mark)
  pub marks_grow : TurnsGrow p.queue marks more_marks
  pub explained : Explained new.steps more
  pub keeps : IsPolling given first start q more more_marks new.steps hint_new.steps
  pub stores : (noted : List (StepBy Note))
      → StoresAreFor given filters turns marks noted hint_old.steps
      → StoresAreFor given filters more more_marks noted hint_new.steps

-- A poll keeps the record of its poller.
abbrev pub PollersGoOn : Type 0
PollersGoOn =
    (given : Setup) (cpus filters first start : ℕ) (p q : Poller) (turns : List (StepBy Turn))
    (marks : List (StepBy Mark)) (old new : BoardSeatView) (hint_old hint_new : SeatView HintStep)
    → Polls given filters p q old new hint_old hint_new → IsPoller cpus p
    → Explained old.steps turns
    → IsPolling given first start p turns marks old.steps hint_old.steps
    → PollsOn given filters first start p q turns marks new hint_old hint_new

-- A turn, mark or note of one producer leaves those of another.
abbrev pub OtherTurnsStay : Type 0 → Type 0
OtherTurnsStay A =
    (a p : ℕ) (turns more : List (StepBy A)) → (a == p) ≡ false → TurnsGrow a turns more
    → steps_of p more ≡ steps_of p turns

-- A poller's record stays while its seat makes no turn of its queue, and while the seat makes more
-- steps at the board and at the hint words.
abbrev pub PollersStay : Type 0
PollersStay =
    (given : Setup) (first start : ℕ) (p : Poller) (turns more : List (StepBy Turn))
    (marks more_marks : List (StepBy Mark)) (rx rx_after : List BoardStep)
    (hints after : List HintStep)
    → steps_of p.queue more ≡ steps_of p.queue turns
    → steps_of p.queue more_marks ≡ steps_of p.queue marks → Grows rx rx_after
    → Grows hints after → IsPolling given first start p turns marks rx hints
    → IsPolling given first start p more more_marks rx_after after
