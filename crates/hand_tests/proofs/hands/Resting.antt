-- Seats that rest, between calls.
use Rattle.std.proofs.Common.{◌≡◌, ◌≢◌, ◌⊎◌, inl, inr, ℕ, Bool, true, false, ◌==◌, List, [], ◌∷◌}
use Rattle.std.proofs.Common.{◌++◌, None, Some, All, refl, sym, ap, subst, ◌∙◌, slice_index_or}
use Rattle.std.proofs.lemmas.Bool.{eqb-true}
use Rattle.std.proofs.lemmas.List.Elements.{All-append, All-cons, All-nil}
use Rattle.linearization.specs.Seats.{SeatView}
use Rattle.hint_words.specs.declared.step.HintStep.{HintStep}
use Rattle.hop_rule.specs.Boards.{gate_steps, lane_steps}
use Rattle.hop_rule.specs.Gates.{closed, visit}
use Rattle.hop_rule.specs.Lanes.{holding, idle, out_holding, phase}
use Rattle.hop_rule.specs.declared.sizes.BoardSizes.{BoardSizes}
use Rattle.hop_rule.specs.declared.step.BoardStep.{BoardStep}
use Rattle.hop_rule.specs.declared.step.BoardStep.TheVariants.{Gate}
use Rattle.hop_rule.specs.declared.step.GateStep.TheVariants.{Entered, Left, Turned}
use Rattle.board_api.specs.Calls.HeldLanes.{Holds, HoldsKind}
use Rattle.board_api.specs.Calls.Results.{BackTells, MissedAt, Took}
use Rattle.board_api.specs.Calls.Rights.{HasOpen, IsOutside}
use Rattle.board_api.specs.Closings.Closings.{IsAtRest}
use Rattle.board_api.specs.Seats.{BoardSeatView, Adds}
use Rattle.board_api.specs.declared.held_lane.HeldLane.{HeldLane}
use Rattle.board_api.specs.declared.held_lane.HeldLane.TheVariants as held
use Rattle.board_api.specs.declared.held_lane.LaneId.{LaneId}
use Rattle.board_api.specs.declared.held_lane.LaneId.TheVariants as id
use Rattle.board_api.specs.Views.{BoardView}
use Rattle.board_api.proofs.AddedSteps.{quiet_steps_stay}
use Rattle.hop_delivery.specs.Orders.Turns.{visit_with}
use Rattle.steer_model.specs.State.Setup.{Setup}
use Rattle.run_workers.specs.Hands.Deltas.{Serves, no_lane, this_lane}
use Rattle.run_workers.specs.Hands.Drains.{IsDrain, hand_phase}
use Rattle.run_workers.specs.Hands.Pollers.{FindsClosed, LoadsQueue, Polls, SteersHand, Waits}
use Rattle.run_workers.specs.declared.drain.Drain.{Drain}
use Rattle.run_workers.specs.declared.poller.Poller.{Poller}
use Rattle.run_workers.proofs.Hands.DeltaLemmas.{serves_back, serves_missed, serves_out_back}
use Rattle.run_workers.proofs.Hands.DeltaLemmas.{serves_out_missed}
use Rattle.hand_tests.specs.Benches.{IsDone, IsFresh, Rests, RestsBut}

abbrev Seat : Type 0
Seat = BoardSeatView

-- ---- the same seat after more steps

module _ (own : ℕ → Bool) (board : BoardView) (number : ℕ) (old new : Seat) where
  -- steps that hold nothing more and leave the gate and other lanes
  pub rests_on : (added : List BoardStep) → RestsBut own board number old → Adds added old new
      → IsOutside new.steps → HasOpen new.steps
      → ((l : ℕ) → holding l (lane_steps (added ++ old.steps)) ≡ None)
      → ((o : ℕ) → out_holding o (lane_steps (added ++ old.steps)) ≡ None)
      → ((l : ℕ) → own l ≡ false
      → phase l (lane_steps (added ++ old.steps)) ≡ phase l (lane_steps old.steps))
      → RestsBut own board number new
  rests_on added r e outside unclosed lanes outs hands =
      let steps : new.steps ≡ added ++ old.steps = ap (λ (s : Seat). s.steps) e in
      record {
        table = ap (λ (s : Seat). s.table) e ∙ r.table;
        number_is = ap (λ (s : Seat). s.number) e ∙ r.number_is;
        outside = outside;
        gate = unclosed;
        lanes = λ l. ap (λ xs. holding l (lane_steps xs)) steps ∙ lanes l;
        outs = λ o. ap (λ xs. out_holding o (lane_steps xs)) steps ∙ outs o;
        hands = λ l other. ap (λ xs. phase l (lane_steps xs)) steps
            ∙ (hands l other ∙ r.hands l other);
      }

  -- a drain, or a lane that was taken and given back
  pub serves_rest : RestsBut own board number old → Serves own old new
      → RestsBut own board number new
  serves_rest r s =
      let steps : new.steps ≡ s.added ++ old.steps = ap (λ (x : Seat). x.steps) s.adds in
      let stay = quiet_steps_stay s.added old.steps s.only.quiet.visits in
      rests_on s.added r s.adds
      (ap (λ xs. visit (gate_steps xs)) steps ∙ (stay.place ∙ r.outside))
      (ap (λ xs. closed (gate_steps xs)) steps ∙ (stay.gate ∙ r.gate))
      (λ l. s.only.holds.lanes l old.steps (r.lanes l))
      (λ o. s.only.holds.outs o old.steps (r.outs o))
      (λ l other. (s.only.others l other).hand old.steps)

  -- a poll
  pub polls_rest : (given : Setup) (filters : ℕ) (p q : Poller)
      (hint_old hint_new : SeatView HintStep) → RestsBut own board number old
      → Polls given filters p q old new hint_old hint_new
      → IsOutside new.steps → HasOpen new.steps → RestsBut own board number new
  polls_rest given filters p q hint_old hint_new r polls outside unclosed = by_case polls.steers
    where
      by_steps : ((polls.mid.hand ≡ None) × (hint_new ≡ hint_old) × (new ≡ old))
          ⊎ ((id : ℕ) × (polls.mid.hand ≡ Some id) × LoadsQueue id 0 hint_old hint_new
          × (new ≡ old))
          ⊎ ((id : ℕ) × (word : ℕ) × (polls.mid.hand ≡ Some id)
          × LoadsQueue id word hint_old hint_new × (word ≢ 0) × FindsClosed old new)
          → RestsBut own board number new
      by_steps (inl (none, hint, same)) = subst (RestsBut own board number) (sym same) r
      by_steps (inr (inl (id, hand, loads, same))) =
          subst (RestsBut own board number) (sym same) r
      by_steps (inr (inr (id, found, hand, loads, set, (word, adds)))) =
          rests_on (Gate Left ∷ Gate (Turned word) ∷ []) r adds outside unclosed r.lanes r.outs
          (λ l other. refl)

      by_case : Waits polls.mid q old new hint_old hint_new
          ⊎ ((id : ℕ) × (polls.mid.hand ≡ Some id)
          × SteersHand given filters id polls.mid q old new hint_old hint_new)
          → RestsBut own board number new
      by_case (inl waits) = by_steps waits.steps
      by_case (inr (id, hand, steers)) =
          let v = steers.visit in
          rests_on (visit_with steers.turn [] []) r v.adds outside unclosed
          (λ l. v.holds.lanes l old.steps (r.lanes l))
          (λ o. v.holds.outs o old.steps (r.outs o))
          (λ l other. (v.leaves l).hand old.steps)

-- ---- the first and the last

pub fresh_rests : (own : ℕ → Bool) (board : BoardView) (number : ℕ) (seat : Seat)
    → IsFresh board number seat → RestsBut own board number seat
fresh_rests own board number seat f =
    let steps = f.steps in
    record {
      table = f.table;
      number_is = f.number_is;
      outside = ap (λ xs. visit (gate_steps xs)) steps;
      gate = ap (λ xs. closed (gate_steps xs)) steps;
      lanes = λ l. ap (λ xs. holding l (lane_steps xs)) steps;
      outs = λ o. ap (λ xs. out_holding o (lane_steps xs)) steps;
      hands = λ l other. ap (λ xs. phase l (lane_steps xs)) steps;
    }

-- a worker's seat, when its drain has nothing in hand
pub worker_done : (board : BoardView) (given : Setup) (drain : Drain) (number : ℕ) (seat : Seat)
    → RestsBut (this_lane drain.lane) board number seat → IsDrain given drain seat.steps
    → drain.hand ≡ None → IsDone board seat
worker_done board given drain number seat r is none =
    record {
      table = r.table;
      number_is = refl;
      outside = r.outside;
      gate = r.gate;
      lanes = r.lanes;
      outs = r.outs;
      hands = λ l other. by_lane l (drain.lane == l) refl;
    }
  where
    mine : phase drain.lane (lane_steps seat.steps) ≡ idle
    mine = is.hand ∙ ap hand_phase none

    by_lane : (l : ℕ) (b : Bool) → (drain.lane == l) ≡ b → phase l (lane_steps seat.steps) ≡ idle
    by_lane l true e =
        subst (λ (i : ℕ). phase i (lane_steps seat.steps) ≡ idle) (eqb-true drain.lane l e) mine
    by_lane l false e = r.hands l e

pub is_done : (board : BoardView) (number : ℕ) (seat : Seat) → Rests board number seat
    → IsDone board seat
is_done board number seat r =
    record {
      table = r.table;
      number_is = refl;
      outside = r.outside;
      gate = r.gate;
      lanes = r.lanes;
      outs = r.outs;
      hands = r.hands;
    }

-- ---- all seats of a board

pub all_done : (board : BoardView) (seats : List Seat) (seat : Seat)
    → All (IsDone board) seats → IsDone board seat → All (IsDone board) (seats ++ seat ∷ [])
all_done board seats seat all one =
    All-append (IsDone board) seats (seat ∷ []) all
    (All-cons (IsDone board) seat [] one (All-nil (IsDone board)))

pub done_at_rest : (about : BoardSizes) (board : BoardView) (seat : Seat) → IsDone board seat
    → IsAtRest about seat.steps
done_at_rest about board seat r =
    record {
      visit = r.outside;
      lanes = λ l less. r.lanes l;
      hands = λ l less. r.hands l refl;
      outs = λ o less. r.outs o;
    }

-- ---- a lane that was taken and given back

pub kind_holds : (about : BoardSizes) (steps : List BoardStep) (lane : LaneId) (h : HeldLane)
    → HoldsKind about steps lane h → Holds about steps h
kind_holds about steps (id.Middle l) (held.Middle i x) is = is
kind_holds about steps (id.Middle l) (held.Out i x) is = absurd is
kind_holds about steps (id.Out o) (held.Out i x) is = is
kind_holds about steps (id.Out o) (held.Middle i x) is = absurd is

pub took_there : (about : BoardSizes) (lane : LaneId) (a b : Seat) (h : HeldLane)
    → Took about lane a b h → b.table ≡ a.table
took_there about (id.Middle l) a b (held.Middle i x) t = ap (λ (s : Seat). s.table) t.1.step
took_there about (id.Out o) a b (held.Out i x) t = ap (λ (s : Seat). s.table) t.1.step
took_there about (id.Middle l) a b (held.Out i x) t = absurd t
took_there about (id.Out o) a b (held.Middle i x) t = absurd t

module _ (board : BoardView) (number : ℕ) (a b c : Seat) where
  pub back_rests : (lane : LaneId) (h : HeldLane) → Rests board number a
      → Took board.sizes lane a b h → BackTells board.sizes h b c → Rests board number c
  back_rests (id.Middle l) h r took told =
      serves_rest no_lane board number a c r
      (serves_back no_lane board.sizes l a b c h took told)
  back_rests (id.Out o) h r took told =
      serves_rest no_lane board number a c r
      (serves_out_back no_lane board.sizes o a b c h took told)

  pub missed_rests : (lane : LaneId) (word : ℕ) → Rests board number a
      → Adds (MissedAt lane word ∷ []) a c → Rests board number c
  missed_rests (id.Middle l) word r e =
      serves_rest no_lane board number a c r (serves_missed no_lane l word a c e)
  missed_rests (id.Out o) word r e =
      serves_rest no_lane board number a c r (serves_out_missed no_lane o word a c e)

  -- a visit without a put
  pub visit_rests : (word : ℕ) → Rests board number a → Adds (Gate (Entered word) ∷ []) a b
      → Adds (Gate Left ∷ []) b c → Rests board number c
  visit_rests word r e l =
      rests_on no_lane board number a c (Gate Left ∷ Gate (Entered word) ∷ []) r both
      (ap (λ (s : Seat). visit (gate_steps s.steps)) both)
      (ap (λ (s : Seat). closed (gate_steps s.steps)) both ∙ r.gate)
      r.lanes r.outs (λ i other. refl)
    where
      both : Adds (Gate Left ∷ Gate (Entered word) ∷ []) a c
      both = l ∙ ap (λ (s : Seat). record s { steps = Gate Left ∷ s.steps }) e

pub all_rest : (board : BoardView) (seats : List Seat) → All (IsDone board) seats
    → All (λ (s : Seat). IsAtRest board.sizes s.steps) seats
all_rest board seats all k d less =
    done_at_rest board.sizes board (slice_index_or seats k d) (all k d less)
