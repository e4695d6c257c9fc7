-- What the workers' records say of the receive queues at the closing of the receive board.
use Rattle.std.specs.Prelude.{◌≡◌, ℕ, ◌%◌, ◌≤◌, ◌<◌, List, [], Some, length, map, slice_get}
use Rattle.std.specs.Prelude.{slice_index}
use Rattle.std.specs.List.{Contains}
use Rattle.linearization.specs.Seats.{SeatView}
use Rattle.steer_base.specs.declared.choice.Chosen.{Chosen}
use Rattle.hint_words.specs.declared.step.HintStep.{HintStep}
use Rattle.history.specs.Lists.{arrivals_at, list_at}
use Rattle.history.specs.declared.history.History.{History}
use Rattle.hop_rule.specs.Owns.{puts_of}
use Rattle.hop_rule.specs.declared.step.BoardStep.{BoardStep}
use Rattle.hop_delivery.specs.Orders.Runs.{Execution}
use Rattle.steer_model.specs.Good.Inputs.{Input, setup_in}
use Rattle.run_coupling.specs.Laws.SharedCodes.{AreShared}
use Rattle.run_coupling.specs.Coupling.Hints.{HintCodes, WantsAreLoaded}
use Rattle.run_coupling.specs.Coupling.Inputs.{FlowsHaveOneHash}
use Rattle.run_coupling.specs.Coupling.Queues.{KeepsQueues}
use Rattle.run_coupling.specs.Coupling.Turns.{KeepsTurns}
use Rattle.run_workers.specs.Actors.{Each}
use Rattle.run_workers.specs.Stages.{StageView}
use Rattle.run_crew.specs.Crews.{AreReceiveLists, AreWorking, IsPlayed, pollers_of}
use Rattle.run_crew.specs.declared.seated.Seated.{Seated}
use Rattle.run_crew.specs.Executions.{AreTurnsOf, SeatTurns, queue_execution}
use Rattle.run_crew.specs.QueueCoupling.{IsMarkedBy}

-- Each crew has turns.
abbrev pub CrewsHaveTurns : Type 0
CrewsHaveTurns =
    (t : StageView) (crew : List Seated) (queues apps : ℕ) → AreWorking t crew queues apps
    → (turns : ℕ → SeatTurns) × AreTurnsOf t crew turns

-- The lists of choices are the journals of the pollers, by queue.
pub record AreChoicesOf (crew : List Seated) (queues : ℕ) (choices : List (List Chosen))
    : Type 0 where
  pub count : length choices ≡ queues
  pub are : (q : ℕ) → q < queues → (p : IsPlayed crew pollers_of q)
      → list_at choices q ≡ p.actor.choices.items

-- What is given at the closing of the receive board: the workers, their turns and lists, and that
-- no other seat has put anything.
pub record ReceiveEnds (i : Input) (t : StageView) (crew : List Seated) (turns : ℕ → SeatTurns)
    (own : ℕ → List BoardStep) (choices : List (List Chosen)) : Type 0 where
  pub given : t.shared.given ≡ setup_in i
  pub hashes : FlowsHaveOneHash i
  pub room : t.rx.sizes.room ≤ length i.packets
  pub work : AreWorking t crew (length i.plan.queues) (length i.plan.apps)
  pub turns_are : AreTurnsOf t crew turns
  pub lists : AreReceiveLists crew own
  pub others : (w : ℕ) → length crew ≤ w → puts_of (own w) ≡ []
  pub choices_are : AreChoicesOf crew (length i.plan.queues) choices

-- The turns of the queues and their choices agree, for any arrivals that are the packets that were
-- chosen for.
abbrev pub QueuesKeepTurns : Type 0
QueuesKeepTurns =
    (i : Input) (t : StageView) (crew : List Seated) (turns : ℕ → SeatTurns)
    (own : ℕ → List BoardStep) (choices : List (List Chosen)) (arrivals : ℕ → List ℕ)
    → ReceiveEnds i t crew turns own choices
    → ((q : ℕ) → map (λ (c : Chosen). c.id) (list_at choices q) ≡ arrivals q)
    → KeepsTurns own (queue_execution crew turns choices arrivals)

-- What the turns of the queues have seen, and the coupling invariants of the queues with it. The
-- wants of a queue were looked up at the seat of its worker, whose marks are those of the turns.
pub record QueuesAreCoupled (i : Input) (h : History) (t : StageView) (crew : List Seated)
    (turns : ℕ → SeatTurns) (own : ℕ → List BoardStep) (c : HintCodes)
    (seats : List (SeatView HintStep)) (execution : Execution) : Type 0 where
  pub seen : ℕ → ℕ → ℕ → ℕ
  pub keeps : KeepsQueues i h t.rx.sizes own execution seen
  pub wants : WantsAreLoaded i h c seats execution seen
  pub marks : (q : ℕ) (less : q < length i.plan.queues) (x : Seated)
      → slice_get crew (q % length crew) ≡ Some x
      → IsMarkedBy i c seats execution q (seen q) (wants q less) x.seats.hint
      (turns (q % length crew)).marks

-- If each arrival has its choice, the queues keep their coupling invariants with a history that has
-- their choices.
abbrev pub QueuesKeepCoupling : Type 0
QueuesKeepCoupling =
    (i : Input) (h : History) (t : StageView) (crew : List Seated) (turns : ℕ → SeatTurns)
    (own : ℕ → List BoardStep) (c : HintCodes) (seats : List (SeatView HintStep))
    → ReceiveEnds i t crew turns own h.choices → AreShared c
    → Each (λ w x. Contains seats x.seats.hint) crew
    → length h.taken ≡ length i.plan.queues
    → ((q : ℕ) → slice_index h.taken q ≡ length (list_at h.choices q))
    → ((q : ℕ) → map (λ (c : Chosen). c.id) (list_at h.choices q) ≡ arrivals_at h.arrivals q)
    → QueuesAreCoupled i h t crew turns own c seats
    (queue_execution crew turns h.choices (arrivals_at h.arrivals))
