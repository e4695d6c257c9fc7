-- The workers of a run with their seats, and what they keep together. Lists have the worker with
-- number 0 first.
use Rattle.std.specs.Prelude.{◌≡◌, ℕ, ◌+◌, ◌/◌, ◌%◌, ◌<◌, List, Some, length, slice_get}
use Rattle.hop_rule.specs.declared.step.BoardStep.{BoardStep}
use Rattle.run_workers.specs.declared.drain.Drain.{Drain}
use Rattle.run_workers.specs.declared.poller.Poller.{Poller}
use Rattle.run_workers.specs.declared.server.Server.{Server}
use Rattle.run_workers.specs.Actors.{Each}
use Rattle.run_workers.specs.Stages.{StageView}
use Rattle.run_workers.specs.Workers.{IsWorking}
use Rattle.run_crew.specs.declared.seated.Seated.{Seated}

-- The actors of a worker, by their kinds.
abbrev pub pollers_of : Seated → List Poller
pollers_of x = x.worker.pollers.items

abbrev pub servers_of : Seated → List Server
servers_of x = x.worker.servers.items

-- What empties the backlogs of a worker's processors, and what empties its transmit queues.
abbrev pub drains_of : Seated → List Drain
drains_of x = x.worker.drains.items

abbrev pub ships_of : Seated → List Drain
ships_of x = x.worker.ships.items

-- Where an actor is played: by this worker, as this one of its kind.
pub record IsPlayed {A : Type 0} (crew : List Seated) (kind : Seated → List A) (n : ℕ)
    : Type 0 where
  pub by : Seated
  pub actor : A
  pub worker : slice_get crew (n % length crew) ≡ Some by
  pub is : slice_get (kind by) (n / length crew) ≡ Some actor

-- The workers of a stage: each has the seats of its number and keeps what a worker keeps, and
-- together they play so many queues and applications, and each lane of both boards. At each board
-- there is one seat more, the closer's.
pub record AreWorking (t : StageView) (crew : List Seated) (queues apps : ℕ) : Type 0 where
  pub some : 0 < length crew
  pub rx_count : t.rx.sizes.seats ≡ length crew + 1
  pub tx_count : t.tx.sizes.seats ≡ length crew + 1
  pub rx_numbers : Each (λ w x. x.seats.rx.number ≡ w) crew
  pub tx_numbers : Each (λ w x. x.seats.tx.number ≡ w) crew
  pub work : Each (λ w x. IsWorking t x.worker x.seats) crew
  pub pollers : (q : ℕ) → q < queues → IsPlayed crew pollers_of q
  pub servers : (a : ℕ) → a < apps → IsPlayed crew servers_of a
  pub drains : (l : ℕ) → l < t.rx.sizes.lanes → IsPlayed crew drains_of l
  pub ships : (l : ℕ) → l < t.tx.sizes.lanes → IsPlayed crew ships_of l

-- The seats' own lists at the receive board, and at the transmit board, are those of the workers.
abbrev pub AreReceiveLists : List Seated → (ℕ → List BoardStep) → Type 0
AreReceiveLists crew own = Each (λ w x. own w ≡ x.seats.rx.steps) crew

abbrev pub AreTransmitLists : List Seated → (ℕ → List BoardStep) → Type 0
AreTransmitLists crew own = Each (λ w x. own w ≡ x.seats.tx.steps) crew
