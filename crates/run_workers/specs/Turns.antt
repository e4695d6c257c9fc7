-- A turn of a worker: each of its actors has its call, and what these calls find.
use Rattle.std.specs.Prelude.{◌≡◌, ◌≢◌, ◌⊎◌, ◌||◌, ℕ, ◌<◌, ◌≤◌, Bool, false, List, Some, slice_get}
use Rattle.std.specs.Prelude.{slice_set}
use Rattle.run_words.specs.declared.seats.Seats.{Seats}
use Rattle.run_workers.specs.Actors.{Each}
use Rattle.run_workers.specs.Hands.Drains.{Moves, Stops}
use Rattle.run_workers.specs.Hands.Pollers.{DoesNothing, Polls}
use Rattle.run_workers.specs.Hands.Servers.{RepliesOrKeeps, TakesOrLeaves}
use Rattle.run_workers.specs.Records.Growth.{Grows}
use Rattle.run_workers.specs.Stages.{StageView}
use Rattle.run_workers.specs.Workers.{GoesOn}
use Rattle.run_workers.specs.declared.drain.Drain.{Drain}
use Rattle.run_workers.specs.declared.poller.Poller.{Poller}
use Rattle.run_workers.specs.declared.server.Server.{Server}
use Rattle.run_workers.specs.declared.worker.Part.{Part}
use Rattle.run_workers.specs.declared.worker.Part.TheVariants as part
use Rattle.run_workers.specs.declared.worker.Worker.{Worker}

-- ---- the call of one actor, from what it was to what it is, with its answer

abbrev pub Polled : StageView → Poller → Poller → Bool → Seats → Seats → Type 0
Polled t p q did old new =
    Polls t.shared.given t.shared.filters p q old.rx new.rx old.hint new.hint
    × (did ≡ false → DoesNothing p q)

abbrev pub Drained : StageView → Drain → Drain → Bool → Seats → Seats → Type 0
Drained t d e did old new = Stops t.rx.sizes t.shared.given e old.rx new.rx × Moves d e did

abbrev pub Shipped : StageView → Drain → Drain → Bool → Seats → Seats → Type 0
Shipped t d e did old new = Stops t.tx.sizes t.shared.given e old.tx new.tx × Moves d e did

abbrev pub Took : StageView → Server → Server → Bool → Seats → Seats → Type 0
Took t s u did old new =
    TakesOrLeaves t.rx.sizes t.shared.given s u old.rx new.rx old.hint new.hint did

abbrev pub Replied : StageView → Server → Server → Bool → Seats → Seats → Type 0
Replied t s u did old new =
    RepliesOrKeeps t.shared.given t.late s u old.tx new.tx old.hint new.hint did

-- An application takes a packet or none, and then replies or not.
pub record Served (t : StageView) (s u : Server) (did : Bool) (old new : Seats) : Type 0 where
  pub mid : Server
  pub between : Seats
  pub took : Bool
  pub sent : Bool
  pub takes : Took t s mid took old between
  pub replies : Replied t mid u sent between new
  pub is : did ≡ (took || sent)

-- ---- the actors of a part of a turn

-- what has its turn in a part
abbrev pub Actor : Part → Type 0
Actor part.Poll = Poller
Actor part.Drain = Drain
Actor part.Serve = Server
Actor part.Ship = Drain

-- the actors of a worker that have their turn in a part
abbrev pub actors : (p : Part) → Worker → List (Actor p)
actors part.Poll w = w.pollers.items
actors part.Drain w = w.drains.items
actors part.Serve w = w.servers.items
actors part.Ship w = w.ships.items

-- the call of an actor in its part
abbrev pub Plays : StageView → (p : Part) → Actor p → Actor p → Bool → Seats → Seats → Type 0
Plays t part.Poll x y did old new = Polled t x y did old new
Plays t part.Drain x y did old new = Drained t x y did old new
Plays t part.Serve x y did old new = Served t x y did old new
Plays t part.Ship x y did old new = Shipped t x y did old new

-- The actors of the other parts are as they were.
abbrev pub OthersStay : Part → Worker → Worker → Type 0
OthersStay p before after = (q : Part) → q ≢ p → actors q after ≡ actors q before

-- ---- the calls of all actors

-- The seats made their steps and then perhaps more.
pub record SeatsGrow (old new : Seats) : Type 0 where
  pub rx : Grows old.rx.steps new.rx.steps
  pub tx : Grows old.tx.steps new.tx.steps
  pub hint : Grows old.hint.steps new.hint.steps

-- The actor x became y by its call, which the seats made on their way from old to new, and which
-- did nothing if nothing was done in all.
pub record HasCall {A : Type 0} (Call : A → A → Bool → Seats → Seats → Type 0) (did : Bool)
    (x y : A) (old new : Seats) : Type 0 where
  pub own : Bool
  pub none : did ≡ false → own ≡ false
  pub begins : Seats
  pub ends : Seats
  pub early : SeatsGrow old begins
  pub call : Call x y own begins ends
  pub late : SeatsGrow ends new

-- The actor at index i of a list had its call, and the others are as they were.
pub record CallsOne {A : Type 0} (Call : A → A → Bool → Seats → Seats → Type 0) (i : ℕ) (did : Bool)
    (xs ys : List A) (old new : Seats) : Type 0 where
  pub x : A
  pub y : A
  pub there : slice_get xs i ≡ Some x
  pub are : ys ≡ slice_set xs i y
  pub call : Call x y did old new

-- The first n actors of a list had their calls, and the others are as they were.
abbrev pub CallsFirst : {A : Type 0} → (A → A → Bool → Seats → Seats → Type 0) → (n : ℕ)
    → (did : Bool) → (xs ys : List A) → (old new : Seats) → Type 0
CallsFirst {A} Call n did xs ys old new =
    Each (λ k y.
    ((k < n) × (x : A) × (slice_get xs k ≡ Some x) × HasCall Call did x y old new)
    ⊎ ((n ≤ k) × (slice_get xs k ≡ Some y))) ys

-- Each actor of a list had its call.
abbrev pub AllHaveCalls : {A : Type 0} → (A → A → Bool → Seats → Seats → Type 0) → (did : Bool)
    → (xs ys : List A) → (old new : Seats) → Type 0
AllHaveCalls {A} Call did xs ys old new =
    Each (λ k y. (x : A) × (slice_get xs k ≡ Some x) × HasCall Call did x y old new) ys

-- A worker's turn: in each part each of its actors had its call.
abbrev pub HasTurn : StageView → (did : Bool) → (before after : Worker) → (old new : Seats)
    → Type 0
HasTurn t did before after old new =
    (p : Part) → AllHaveCalls (Plays t p) did (actors p before) (actors p after) old new

-- A worker went on, and its last turn did nothing.
pub record EndsIdle (t : StageView) (before after : Worker) (old new : Seats) : Type 0 where
  pub last : Worker
  pub begins : Seats
  pub goes : GoesOn t before last old begins
  pub turn : HasTurn t false last after begins new
