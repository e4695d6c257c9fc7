-- How all workers of a run go on, one after the other, and when none has a packet in hand.
use Rattle.std.specs.Prelude.{◌≡◌, ℕ, Bool, List, [], Some, length, slice_get}
use Rattle.std.specs.List.{list_all}
use Rattle.run_workers.specs.Actors.{Each}
use Rattle.rtrb.specs.Ring.{SameConsumer}
use Rattle.history.specs.declared.arrival.Arrival.{Arrival}
use Rattle.board_api.specs.Views.{BoardView}
use Rattle.run_words.specs.declared.shared.Shared.{Shared}
use Rattle.run_workers.specs.Stages.{StageView, stage_view}
use Rattle.run_workers.specs.Workers.{GoesOn, IsWorking, is_free}
use Rattle.run_crew.specs.Crews.{AreWorking, IsPlayed, pollers_of, servers_of}
use Rattle.run_crew.specs.declared.seated.Seated.{Seated}

-- Each worker keeps its records.
abbrev pub AllWork : StageView → List Seated → Type 0
AllWork t crew = Each (λ w x. IsWorking t x.worker x.seats) crew

-- Each worker went on, and there are as many.
pub record GoOn (t : StageView) (before after : List Seated) : Type 0 where
  pub count : length after ≡ length before
  pub each : Each (λ w y. (x : Seated) → slice_get before w ≡ Some x
      → GoesOn t x.worker y.worker x.seats y.seats) after

-- whether no worker has a packet in hand
abbrev pub all_free : List Seated → Bool
all_free crew = list_all (λ (x : Seated). is_free x.worker) crew

-- Workers that go on play the same actors at the same seats, and keep what they keep together.
abbrev pub CrewsGoOn : Type 0
CrewsGoOn =
    (t : StageView) (before after : List Seated) (queues apps : ℕ)
    → AreWorking t before queues apps → GoOn t before after → AreWorking t after queues apps

-- What is played by workers that went on was played by them before: a receive queue by a poller
-- with the same ring, and an application with the same home.
pub record PlayOn (before after : List Seated) : Type 0 where
  pub rings : (q : ℕ) (p : IsPlayed after pollers_of q)
      → (o : IsPlayed before pollers_of q) × SameConsumer o.actor.ring p.actor.ring
  pub homes : (a : ℕ) (p : IsPlayed after servers_of a)
      → (o : IsPlayed before servers_of a) × (p.actor.home ≡ o.actor.home)

abbrev pub CrewsPlayOn : Type 0
CrewsPlayOn =
    (t : StageView) (before after : List Seated) → GoOn t before after → PlayOn before after

-- What workers kept together before the arrivals were known, they keep with all of them.
abbrev pub CrewsLearnArrivals : Type 0
CrewsLearnArrivals =
    (rx tx : BoardView) (shared : Shared) (arrivals : List Arrival) (crew : List Seated)
    (queues apps : ℕ) → AreWorking (stage_view rx tx shared []) crew queues apps
    → AreWorking (stage_view rx tx shared arrivals) crew queues apps
