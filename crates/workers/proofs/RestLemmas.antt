-- The seats of a run that is over: they are all of its boards' and of its words', and they rest.
use Rattle.std.proofs.Common.{◌&&◌}
use Rattle.std.specs.List.{list_all}
use Rattle.std.proofs.lemmas.List.Elements.{All-map}
use Rattle.hop_rule.specs.Boards.{lane_steps}
use Rattle.hop_rule.specs.Lanes.{holding, out_holding, phase}
use Rattle.board_api.specs.Closings.Closings.{IsAtRest}
use Rattle.board_api.specs.Views.{BoardView}
use Rattle.run_controller.specs.Stages.{IsSeated}
use Rattle.run_workers.specs.Laws.{FreeWorkersRest}
use Rattle.run_crew.specs.ThreadLaws.{ControllersTouchNoLane, TouchesNoLane}
use Rattle.workers.specs.BoardEnds.{FillBoard, FillWords, IsLast}
use Rattle.workers.proofs.Names.{◌≡◌, ℕ, zero, suc, ◌+◌, Bool, true, false, Some, List, [], ◌∷◌}
use Rattle.workers.proofs.Names.{All, length, map, slice_get, refl, sym, ap, ◌∙◌, subst, arith}
use Rattle.workers.proofs.Names.{length-map, slice_get-get_or, SeatView, Journal, journal, HintStep}
use Rattle.workers.proofs.Names.{BoardSeatView, Input, Seats, Each, is_free, Seated, Run, IsOver}
use Rattle.workers.proofs.Names.{stage_of}

-- ---- lists

each-all : {X : Type 0} (P : X → Type 0) (xs : List X) → Each (λ k x. P x) xs → All P xs
each-all P xs each k d less = each k _ (slice_get-get_or xs k d less)

both-true : (a b : Bool) → (a && b) ≡ true → (a ≡ true) × (b ≡ true)
both-true true b is = (refl, is)
both-true false b is = absurd cc

list-all-at : {X : Type 0} (p : X → Bool) (xs : List X) (k : ℕ) (x : X)
    → list_all p xs ≡ true → slice_get xs k ≡ Some x → p x ≡ true
list-all-at p [] k x all there = absurd cc
list-all-at p (y ∷ xs) zero x all there =
    let first = (both-true (p y) (list_all p xs) all).0 in cc
list-all-at p (y ∷ xs) (suc k) x all there =
    list-all-at p xs k x (both-true (p y) (list_all p xs) all).1 there

-- ---- boards

-- a seat that touched no lane since it was made rests once it is outside
untouched-rests : (board : BoardView) (old own : BoardSeatView) → old.steps ≡ []
    → TouchesNoLane old own → IsSeated board own → IsLast board own
untouched-rests board old own fresh touches seated =
    let none : lane_steps own.steps ≡ [] = touches.lanes ∙ ap lane_steps fresh in
    record {
      table = seated.table;
      rests = record {
        visit = seated.outside;
        lanes = λ l less. ap (holding l) none;
        hands = λ l less. ap (phase l) none;
        outs = λ o less. ap (out_holding o) none;
      };
    }

fills : (board : BoardView) (seat_of : Seated → BoardSeatView) (crew : List Seated)
    (own : BoardSeatView) → board.sizes.seats ≡ length crew + 1
    → Each (λ w x. IsLast board (seat_of x)) crew → IsLast board own
    → (seats : Journal BoardSeatView) → seats ≡ journal (map seat_of crew) (length crew + 1)
    → FillBoard board seats own
fills board seat_of crew own count each last seats are =
    let size = ap (λ (j : Journal BoardSeatView). length j.items) are
    ∙ length-map crew seat_of in
    let room = ap (λ (j : Journal BoardSeatView). j.room) are in
    record {
      room = omega (arith, size, room);
      all = omega (arith, size, count);
      are_last =
          subst (λ (j : Journal BoardSeatView). All (λ t. IsLast board t) j.items) (sym are)
          (All-map (IsLast board) seat_of crew
          (each-all (λ x. IsLast board (seat_of x)) crew each));
      is_last = last;
    }

-- ---- a run

module _ (i : Input) (s : Run) (over : IsOver i s) where
  abbrev crew : List Seated
  crew = s.crew.items

  abbrev own : Seats
  own = s.controller.seats

  free-at : (w : ℕ) (x : Seated) → slice_get crew w ≡ Some x → is_free x.worker ≡ true
  free-at w x there =
      list-all-at (λ (y : Seated). is_free y.worker) crew w x over.free there

  module _ (rest : FreeWorkersRest) (touch : ControllersTouchNoLane) where
    at-rest : (w : ℕ) (x : Seated) → slice_get crew w ≡ Some x
        → IsAtRest s.stage.rx.sizes x.seats.rx.steps
        × IsAtRest s.stage.tx.sizes x.seats.tx.steps
    at-rest w x there =
        rest (stage_of s) x.worker x.seats (over.back.work.work w x there) (free-at w x there)

    abbrev control : TouchesNoLane over.back.controller.old.rx own.rx
        × TouchesNoLane over.back.controller.old.tx own.tx
    control = touch _ _ _ _ _ _ _ over.back.controller.attempted

    pub rx-fills : (seats : Journal BoardSeatView)
        → seats ≡ journal (map (λ (x : Seated). x.seats.rx) crew) (length crew + 1)
        → FillBoard s.stage.rx seats own.rx
    rx-fills =
        fills s.stage.rx (λ x. x.seats.rx) crew own.rx over.back.work.rx_count
        (λ w x there. record {
          table = (over.back.work.work w x there).rx.table;
          rests = (at-rest w x there).0;
        })
        (untouched-rests s.stage.rx over.back.controller.old.rx own.rx over.back.controller.rx_fresh
        control.0 over.back.controller.seated.rx)

    pub tx-fills : (seats : Journal BoardSeatView)
        → seats ≡ journal (map (λ (x : Seated). x.seats.tx) crew) (length crew + 1)
        → FillBoard s.stage.tx seats own.tx
    tx-fills =
        fills s.stage.tx (λ x. x.seats.tx) crew own.tx over.back.work.tx_count
        (λ w x there. record {
          table = (over.back.work.work w x there).tx.table;
          rests = (at-rest w x there).1;
        })
        (untouched-rests s.stage.tx over.back.controller.old.tx own.tx over.back.controller.tx_fresh
        control.1 over.back.controller.seated.tx)

  pub words-fill : (seats : Journal (SeatView HintStep))
      → seats ≡ journal (map (λ (x : Seated). x.seats.hint) crew) (length crew + 2)
      → FillWords s.stage.shared.hints seats own.hint s.wire.seat
  words-fill seats are =
      let size = ap (λ (j : Journal (SeatView HintStep)). length j.items) are
      ∙ length-map crew (λ (x : Seated). x.seats.hint) in
      let room = ap (λ (j : Journal (SeatView HintStep)). j.room) are in
      let words = over.back.boards.word_seats in
      let workers = over.back.count in
      record {
        room = omega (arith, size, room);
        all = omega (arith, size, words, workers);
        workers =
            subst (λ (j : Journal (SeatView HintStep)). All
            (λ (t : SeatView HintStep). t.table ≡ s.stage.shared.hints.table) j.items) (sym are)
            (All-map (λ (t : SeatView HintStep). t.table ≡ s.stage.shared.hints.table)
            (λ (x : Seated). x.seats.hint) crew
            (each-all (λ (x : Seated). x.seats.hint.table ≡ s.stage.shared.hints.table) crew
            (λ w x there. (over.back.work.work w x there).hint_table)));
        by_controller = over.back.controller.seated.hint;
        by_wire = over.back.wire.table;
      }
