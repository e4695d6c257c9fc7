-- Laws that carry an application's record of its packets and turns over its own calls and those of
-- other actors.
use Rattle.std.specs.Prelude.{◌≡◌, ◌⊎◌, ℕ, Bool, true, List, [], None}
use Rattle.linearization.specs.Orders.{StepBy, steps_of}
use Rattle.linearization.specs.Seats.{SeatView}
use Rattle.dev_flow_table.specs.Tables.{cleared}
use Rattle.history.specs.declared.arrival.Arrival.{Arrival}
use Rattle.hint_words.specs.declared.step.HintStep.{HintStep}
use Rattle.hop_rule.specs.declared.sizes.BoardSizes.{BoardSizes}
use Rattle.hop_rule.specs.declared.step.BoardStep.{BoardStep}
use Rattle.board_api.specs.Seats.{BoardSeatView}
use Rattle.hop_delivery.specs.Orders.Turns.{Explained, Turn}
use Rattle.steer_model.specs.State.Setup.{Setup}
use Rattle.run_workers.specs.Hands.Deltas.{Serves}
use Rattle.run_workers.specs.Hands.Pollers.{Polls}
use Rattle.run_workers.specs.Hands.Servers.{IsServer, RepliesOrKeeps, TakesOrLeaves}
use Rattle.run_workers.specs.declared.poller.Poller.{Poller}
use Rattle.run_workers.specs.declared.server.Server.{Server}
use Rattle.run_workers.specs.Records.Growth.{Grows, TurnsGrow}
use Rattle.run_workers.specs.Records.Replying.{IsReplying}
use Rattle.run_workers.specs.Records.Storing.{NotesGrow}
use Rattle.run_workers.specs.Records.Words.{Note}

-- A new application keeps the record of no packets and no turns.
abbrev pub ServersBegin : Type 0
ServersBegin =
    (given : Setup) (rows start : ℕ) (arrivals : List Arrival) (s : Server)
    (turns : List (StepBy Turn)) (noted : List (StepBy Note)) (rx tx : List BoardStep)
    (hints : List HintStep)
    → s.hand ≡ None → s.table ≡ cleared rows start true → s.sent.items ≡ []
    → s.choices.items ≡ [] → s.writes.items ≡ [] → steps_of s.app turns ≡ []
    → steps_of s.app noted ≡ [] → IsReplying given rows start arrivals s turns noted rx tx hints

-- What a call leaves by which an application takes a packet or none: the notes, with at most one
-- more of the application, and its record over them.
pub record TakesOn (given : Setup) (rows start : ℕ) (arrivals : List Arrival) (s t : Server)
    (turns : List (StepBy Turn)) (noted : List (StepBy Note)) (new : BoardSeatView)
    (tx : List BoardStep) (hint_new : SeatView HintStep) : Type 0 where
  pub more : List (StepBy Note)
  pub grow : NotesGrow s t noted more
  pub keeps : IsReplying given rows start arrivals t turns more new.steps tx hint_new.steps

-- A call by which an application takes a packet or none keeps its record.
abbrev pub TakesGoOn : Type 0
TakesGoOn =
    (about : BoardSizes) (given : Setup) (rows start : ℕ) (arrivals : List Arrival)
    (s t : Server) (took : Bool) (turns : List (StepBy Turn)) (noted : List (StepBy Note))
    (old new : BoardSeatView) (tx : List BoardStep) (hint_old hint_new : SeatView HintStep)
    → TakesOrLeaves about given s t old new hint_old hint_new took
    → IsReplying given rows start arrivals s turns noted old.steps tx hint_old.steps
    → TakesOn given rows start arrivals s t turns noted new tx hint_new

-- What a reply leaves: the turns that explain the seat's list at the transmit board, with at most
-- one more of the application, and the application's record over them.
pub record RepliesOn (given : Setup) (rows start : ℕ) (arrivals : List Arrival) (s t : Server)
    (turns : List (StepBy Turn)) (noted : List (StepBy Note)) (rx : List BoardStep)
    (new : BoardSeatView) (hint_new : SeatView HintStep) : Type 0 where
  pub more : List (StepBy Turn)
  pub grow : TurnsGrow s.app turns more
  pub explained : Explained new.steps more
  pub keeps : IsReplying given rows start arrivals t more noted rx new.steps hint_new.steps

-- A call by which an application replies or keeps its hand keeps its record, where its late
-- arrivals are none or all.
abbrev pub RepliesGoOn : Type 0
RepliesGoOn =
    (given : Setup) (rows start : ℕ) (arrivals late : List Arrival) (s t : Server) (sent : Bool)
    (turns : List (StepBy Turn)) (noted : List (StepBy Note)) (rx : List BoardStep)
    (old new : BoardSeatView) (hint_old hint_new : SeatView HintStep)
    → RepliesOrKeeps given late s t old new hint_old hint_new sent
    → IsServer given s → (late ≡ []) ⊎ (late ≡ arrivals) → Explained old.steps turns
    → IsReplying given rows start arrivals s turns noted rx old.steps hint_old.steps
    → RepliesOn given rows start arrivals s t turns noted rx new hint_new

-- An application's record stays while its seat makes no turn of it, and while its seats make more
-- steps at both boards and at the hint words.
abbrev pub ServersStay : Type 0
ServersStay =
    (given : Setup) (rows start : ℕ) (arrivals : List Arrival) (s : Server)
    (turns more : List (StepBy Turn)) (noted more_notes : List (StepBy Note))
    (rx rx_after tx tx_after : List BoardStep) (hints after : List HintStep)
    → steps_of s.app more ≡ steps_of s.app turns → steps_of s.app more_notes ≡ steps_of s.app noted
    → Grows rx rx_after → Grows tx tx_after → Grows hints after
    → IsReplying given rows start arrivals s turns noted rx tx hints
    → IsReplying given rows start arrivals s more more_notes rx_after tx_after after

-- A record that was kept before the arrivals were known is one with them.
abbrev pub ArrivalsComeLate : Type 0
ArrivalsComeLate =
    (given : Setup) (rows start : ℕ) (arrivals : List Arrival) (s : Server)
    (turns : List (StepBy Turn)) (noted : List (StepBy Note)) (rx tx : List BoardStep)
    (hints : List HintStep)
    → IsReplying given rows start [] s turns noted rx tx hints
    → IsReplying given rows start arrivals s turns noted rx tx hints

-- The lists of the seats that a call of a hand is given grow.
pub record CallsAddSteps : Type 0 where
  pub serves : (served : ℕ → Bool) (old new : BoardSeatView) → Serves served old new
      → Grows old.steps new.steps
  pub polls : (given : Setup) (filters : ℕ) (p q : Poller) (old new : BoardSeatView)
      (hint_old hint_new : SeatView HintStep)
      → Polls given filters p q old new hint_old hint_new
      → Grows old.steps new.steps × Grows hint_old.steps hint_new.steps
  pub takes : (about : BoardSizes) (given : Setup) (s t : Server) (took : Bool)
      (old new : BoardSeatView) (hint_old hint_new : SeatView HintStep)
      → TakesOrLeaves about given s t old new hint_old hint_new took
      → Grows old.steps new.steps × Grows hint_old.steps hint_new.steps
  pub replies : (given : Setup) (late : List Arrival) (s t : Server) (sent : Bool)
      (old new : BoardSeatView) (hint_old hint_new : SeatView HintStep)
      → RepliesOrKeeps given late s t old new hint_old hint_new sent
      → Grows old.steps new.steps × Grows hint_old.steps hint_new.steps
