-- What a worker keeps of its drains at a board after one of them went on.
use Rattle.run_workers.proofs.Names.{◌≡◌, ◌≢◌, ℕ, ◌==◌, false, List, Some, ap, ◌∙◌, length}
use Rattle.run_workers.proofs.Names.{length-set, slice_get, slice_set, slice_get_within, StepBy}
use Rattle.run_workers.proofs.Names.{BoardSeatView, BoardView, Turn, Setup, Serves, this_lane}
use Rattle.run_workers.proofs.Names.{IsDrain, Drain, Exit, Each, IsForeign, KeepsDrain}
use Rattle.run_workers.proofs.Hands.DrainLemmas.{serves_leave}
use Rattle.run_workers.proofs.Hands.VisitLemmas.{serves_explain}
use Rattle.run_workers.proofs.Records.AddedLemmas.{calls_add_steps}
use Rattle.run_workers.proofs.EachLemmas.{actors_differ, differs, each_same, each_set, turns_stay}
use Rattle.run_workers.proofs.KeepLemmas.{KeepsBoard}
use Rattle.run_workers.proofs.SameLemmas.{SameSeat}
use Rattle.run_workers.proofs.SeatLemmas.{between_calls, serves_move, serves_open, serves_outside}
use Rattle.run_workers.proofs.StayLemmas.{drain_keeps, drain_stays}

-- a seat that served a lane
pub same_seat : (old new : BoardSeatView) (lane : ℕ) → Serves (this_lane lane) old new
    → SameSeat old new
same_seat old new lane serves =
    record {
      table = ap (λ (z : BoardSeatView). z.table) serves.adds;
      number = ap (λ (z : BoardSeatView). z.number) serves.adds;
      steps = calls_add_steps.serves (this_lane lane) old new serves;
    }

-- the drain d of a board, at index i of ds, has become e, and so the drains es; the board's actors
-- were these before, and are these after
module _ {A : Type 0} (board : BoardView) (given : Setup) (exit : Exit) (old new : BoardSeatView)
    (ds es : List Drain) (before after : List A) (Was Is : ℕ → A → Type 0)
    (turns : List (StepBy Turn)) (i : ℕ) (d e : Drain) (set : es ≡ slice_set ds i e)
    (there : slice_get ds i ≡ Some d) (serves : Serves (this_lane d.lane) old new)
    (is : IsDrain given e new.steps) (lane : e.lane ≡ d.lane) (way : e.exit ≡ d.exit)
    (start : e.start ≡ d.start) (k : KeepsBoard board given exit old ds before Was turns) where
  was : KeepsDrain board.sizes given exit old i d
  was = k.each_drain i d there

  number : new.number ≡ old.number
  number = ap (λ (z : BoardSeatView). z.number) serves.adds

  as_many_drains : length es ≡ length ds
  as_many_drains = ap length set ∙ length-set ds i e

  foreign : (l : ℕ) → IsForeign board.sizes old.number (length ds) l → (d.lane == l) ≡ false
  foreign l far =
      differs d.lane l (λ (q : l ≡ d.lane). far i (slice_get_within ds i d there) (q ∙ was.own))

  other_drain : (l : ℕ) (y : Drain) → l ≢ i → KeepsDrain board.sizes given exit old l y
      → KeepsDrain board.sizes given exit new l y
  other_drain l y apart kept =
      drain_stays board.sizes given exit old new l y number
      (serves_leave given y (this_lane d.lane) old new serves
      (actors_differ board.sizes old.number i l d.lane y.lane was.own kept.own apart)) kept

  pub lane_goes_on : length after ≡ length before → Each Is after
      → KeepsBoard board given exit new es after Is turns
  lane_goes_on many each =
      record {
        between = between_calls board (length es) (length ds) (this_lane d.lane) old new
            as_many_drains (serves_move (this_lane d.lane) old new serves) foreign
            (serves_outside (this_lane d.lane) old new serves k.between.outside)
            (serves_open (this_lane d.lane) old new serves k.between.gate) k.between;
        explained = serves_explain (this_lane d.lane) old new serves turns k.explained;
        by_actors = turns_stay board.sizes new.number old.number (length after) (length before)
            turns number many k.by_actors;
        each = each;
        each_drain = each_same (KeepsDrain board.sizes given exit new) (slice_set ds i e) es set
            (each_set (KeepsDrain board.sizes given exit new)
            (KeepsDrain board.sizes given exit old) ds i e
            (drain_keeps board.sizes given exit old new i d e number lane way start is was)
            other_drain k.each_drain);
      }
