-- The posts of the workers while their threads run, and how they have stayed there.
use Rattle.std.specs.Prelude.{◌≡◌, ◌⊎◌, ℕ, ◌+◌, ◌<◌, ◌≤◌, List, [], Some, true, length, map}
use Rattle.std.specs.Prelude.{slice_get}
use Rattle.linearization.specs.Seats.{SeatView}
use Rattle.steer_base.specs.Journals.{journal}
use Rattle.hint_words.specs.declared.step.HintStep.{HintStep}
use Rattle.run_words.specs.declared.seats.Seats.{Seats}
use Rattle.run_workers.specs.Actors.{Each}
use Rattle.run_workers.specs.Looks.{look_count}
use Rattle.run_workers.specs.Stages.{StageView}
use Rattle.run_workers.specs.Tally.{CountsOn, IsCounter, IsTally, SawFinished, finished_by}
use Rattle.run_workers.specs.Workers.{GoesOn, IsWorking, is_free}
use Rattle.run_workers.specs.declared.tally.Counter.{Counter}
use Rattle.run_workers.specs.declared.tally.Tally.{Tally}
use Rattle.run_workers.specs.declared.work.TheConstants.{MAX_IDLE_TURNS}
use Rattle.run_crew.specs.Finished.{finished_by_all}
use Rattle.run_crew.specs.declared.seated.Seated.{Seated}
use Rattle.workers.specs.declared.posts.Post.{Post}
use Rattle.workers.specs.declared.posts.Posts.{Posts}

-- ---- the posts

-- Each seat has a counter, which has its place as its number.
pub record AreFirstCounters (seats : List (SeatView HintStep)) (counters : List Counter)
    : Type 0 where
  pub seats_are : map (λ (c : Counter). c.seat) counters ≡ seats
  pub numbers : Each (λ k (c : Counter). c.number ≡ k) counters

-- A counter for each of so many workers, which has told nothing, and empty lists with room.
pub record ArePosts (workers : ℕ) (p : Posts) : Type 0 where
  pub is_tally : IsTally p.tally
  pub count : length p.counters.items ≡ workers
  pub workers_are : p.tally.workers ≡ workers
  pub counters : Each (λ k (c : Counter). (c.number ≡ k) × IsCounter p.tally c 0) p.counters.items
  pub posts : p.posts ≡ journal [] workers
  pub crew : p.crew ≡ journal [] workers
  pub seats : p.seats ≡ journal [] workers

-- ---- the threads

-- A worker at its post keeps its records, and has told no more than it has finished.
pub record IsPosted (t : StageView) (tally : Tally) (p : Post) : Type 0 where
  pub work : IsWorking t p.seated.worker p.seated.seats
  pub counts : IsCounter tally p.counter (finished_by p.seated.worker)

-- It saw that all packets are finished, or it looked `MAX_IDLE_TURNS` times.
abbrev pub HasSeenOrLooked : ℕ → ℕ → Seats → Seats → Counter → Type 0
HasSeenOrLooked workers packets old new counter =
    SawFinished workers packets counter.seat.steps
    ⊎ (look_count old.hint.steps + MAX_IDLE_TURNS ≤ look_count new.hint.steps)

-- A worker has worked at its post, until all packets were finished or it had looked so often.
pub record HasWorked (t : StageView) (tally : Tally) (before after : Post) : Type 0 where
  pub goes : GoesOn t before.seated.worker after.seated.worker before.seated.seats
      after.seated.seats
  pub counts : CountsOn tally before.counter after.counter (finished_by after.seated.worker)
  pub free : is_free after.seated.worker ≡ true
  pub ended : HasSeenOrLooked tally.workers (length t.shared.given.packets) before.seated.seats
      after.seated.seats after.counter

-- All workers can run at their posts, by their numbers.
pub record CanBeManned (t : StageView) (tally : Tally) (posts : List Post) : Type 0 where
  pub some : 0 < length posts
  pub count : length posts ≡ tally.workers
  pub each : Each (λ k (p : Post). (p.counter.number ≡ k) × IsPosted t tally p) posts

-- All workers have run.
pub record HaveWorked (t : StageView) (tally : Tally) (before after : List Post) : Type 0 where
  pub count : length after ≡ length before
  pub each : Each (λ k q. (p : Post) → slice_get before k ≡ Some p → HasWorked t tally p q) after

-- ---- the end

-- The workers stayed until all packets were finished, or each of them looked `MAX_IDLE_TURNS`
-- times whether all had arrived.
abbrev pub HaveStayed : List Seated → ℕ → Type 0
HaveStayed crew packets =
    (packets ≤ finished_by_all crew)
    ⊎ Each (λ w (x : Seated). MAX_IDLE_TURNS ≤ look_count x.seats.hint.steps) crew
