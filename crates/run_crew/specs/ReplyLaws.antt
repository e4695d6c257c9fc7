-- What the workers' records say of the applications at the closing of the boards.
use Rattle.std.specs.Prelude.{◌≡◌, ℕ, ◌%◌, ◌≤◌, ◌<◌, List, [], Some, None, All, length, map}
use Rattle.std.specs.Prelude.{slice_get}
use Rattle.std.specs.List.{Contains}
use Rattle.linearization.specs.Orders.{steps_of}
use Rattle.linearization.specs.Seats.{SeatView}
use Rattle.hint_words.specs.declared.step.HintStep.{HintStep}
use Rattle.history.specs.Lists.{list_at}
use Rattle.history.specs.declared.history.History.{History}
use Rattle.history.specs.declared.sent.Sent.{Sent}
use Rattle.hop_rule.specs.Owns.{puts_of}
use Rattle.hop_rule.specs.declared.step.BoardStep.{BoardStep}
use Rattle.hop_delivery.specs.Orders.Runs.{Execution}
use Rattle.steer_model.specs.Good.Inputs.{Input, setup_in}
use Rattle.run_coupling.specs.Laws.SharedCodes.{AreShared}
use Rattle.run_coupling.specs.Coupling.Applications.{KeepsApplications}
use Rattle.run_coupling.specs.Coupling.Ends.{AllArrived}
use Rattle.run_coupling.specs.Coupling.Hints.{AreRecorded, CameBy, HintCodes, Stands}
use Rattle.run_words.specs.Lists.{oldest_first}
use Rattle.run_workers.specs.Actors.{Each}
use Rattle.run_workers.specs.Stages.{StageView}
use Rattle.run_crew.specs.Crews.{AreReceiveLists, AreTransmitLists, AreWorking, IsPlayed}
use Rattle.run_crew.specs.Crews.{servers_of}
use Rattle.run_crew.specs.ApplicationCoupling.{AreMadeFor}
use Rattle.run_crew.specs.declared.seated.Seated.{Seated}
use Rattle.run_crew.specs.Executions.{AreTurnsOf, SeatTurns, reply_execution}

-- An application's lists in a history are its journals, its home is the plan's, and its hand is
-- empty.
pub record HasJournals (i : Input) (h : History) (crew : List Seated) (a : ℕ)
    (p : IsPlayed crew servers_of a) : Type 0 where
  pub sent : list_at h.sent a ≡ p.actor.sent.items
  pub choices : list_at h.tx_choices a ≡ p.actor.choices.items
  pub writes : list_at h.writes a ≡ p.actor.writes.items
  pub home : slice_get i.plan.apps a ≡ Some p.actor.home
  pub hand : p.actor.hand ≡ None

-- What is given at the closing of the boards: all packets arrived, and the workers know it; their
-- turns, lists and journals; and no other seat has put anything at the transmit board.
pub record TransmitEnds (i : Input) (h : History) (t : StageView) (crew : List Seated)
    (turns : ℕ → SeatTurns) (rx_own own : ℕ → List BoardStep) : Type 0 where
  pub given : t.shared.given ≡ setup_in i
  pub late : t.late ≡ h.arrivals
  pub arrived : AllArrived i h
  pub work : AreWorking t crew (length i.plan.queues) (length i.plan.apps)
  pub turns_are : AreTurnsOf t crew turns
  pub rx_lists : AreReceiveLists crew rx_own
  pub lists : AreTransmitLists crew own
  pub others : (w : ℕ) → length crew ≤ w → puts_of (own w) ≡ []
  pub out_count : t.rx.sizes.outs ≡ length i.plan.apps
  pub sent_count : length h.sent ≡ length i.plan.apps
  pub choice_count : length h.tx_choices ≡ length i.plan.apps
  pub write_count : length h.writes ≡ length i.plan.apps
  pub journals : (a : ℕ) → a < length i.plan.apps → (p : IsPlayed crew servers_of a)
      → HasJournals i h crew a p

-- What the turns of the applications have seen, and the coupling invariants of the applications
-- with it. `reply` is the index of the reply for whose packet an application made a write.
pub record ApplicationsCoupled (i : Input) (h : History) (t : StageView) (crew : List Seated)
    (turns : ℕ → SeatTurns) (rx_own own : ℕ → List BoardStep) (c : HintCodes)
    (seats : List (SeatView HintStep)) (execution : Execution) : Type 0 where
  pub seen : ℕ → ℕ → ℕ → ℕ
  pub keeps : KeepsApplications i h rx_own t.tx.sizes own execution seen
  pub queues : (a : ℕ) → All (λ (s : Sent). CameBy i h c seats s.id s.rxq) (list_at h.sent a)
  pub stands : (a : ℕ) → All (λ (s : Sent). Stands i h c seats a s.cpu) (list_at h.sent a)
  pub writes : (a : ℕ) → AreRecorded i h c seats rx_own a
      (map (λ (s : Sent). s.id) (list_at h.sent a)) (list_at h.writes a)
  pub reply : (app write : ℕ) → ℕ
  pub made : (a : ℕ) → a < length i.plan.apps
      → AreMadeFor i h rx_own c seats (list_at h.sent a) (list_at h.writes a)
      (oldest_first (steps_of a (turns (a % length crew)).noted)) (reply a)

-- The applications keep their coupling invariants with a history that has their journals.
abbrev pub ApplicationsKeepCoupling : Type 0
ApplicationsKeepCoupling =
    (i : Input) (h : History) (t : StageView) (crew : List Seated) (turns : ℕ → SeatTurns)
    (rx_own own : ℕ → List BoardStep) (c : HintCodes) (seats : List (SeatView HintStep))
    → TransmitEnds i h t crew turns rx_own own → AreShared c
    → Each (λ w x. Contains seats x.seats.hint) crew
    → ApplicationsCoupled i h t crew turns rx_own own c seats
    (reply_execution crew turns h.tx_choices (λ a. map (λ (s : Sent). s.id) (list_at h.sent a)))
