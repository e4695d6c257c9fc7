-- What calls leave of where a seat stands.
use Rattle.std.proofs.Common.{◌≡◌, ℕ, ◌+◌, ◌*◌, ◌^◌, ◌==◌, Bool, true, false, List, [], ◌∷◌, ◌++◌}
use Rattle.std.proofs.Common.{Option, Some, None, if◌then◌else◌}
use Rattle.std.proofs.Common.{sym, refl, ap, ◌∙◌, subst}
use Rattle.linearization.proofs.ListLemmas.{if_same}
use Rattle.hop_rule.specs.Boards.{gate_steps, lane_steps}
use Rattle.hop_rule.specs.Gates.{Visit, closed, inside, openings, outside, visit}
use Rattle.hop_rule.specs.Lanes.{Phase, freed_phase, gave, has_pulled, holding, idle, out_holding}
use Rattle.hop_rule.specs.Lanes.{phase}
use Rattle.hop_rule.specs.declared.sizes.BoardSizes.{BoardSizes}
use Rattle.hop_rule.specs.declared.step.BoardStep.{BoardStep}
use Rattle.hop_rule.specs.declared.step.BoardStep.TheVariants.{Lane, Gate, Weighed, Counted, LaneIn}
use Rattle.hop_rule.specs.declared.step.BoardStep.TheVariants.{OutCounted}
use Rattle.hop_rule.specs.declared.step.Change.{Change}
use Rattle.hop_rule.specs.declared.step.Change.TheVariants.{Nothing, Offered, Pulled}
use Rattle.hop_rule.specs.declared.step.GateStep.TheVariants.{Entered, Turned, Left, Read, Shut}
use Rattle.hop_rule.specs.declared.step.GateStep.TheVariants.{NotShut, Opened, Set}
use Rattle.hop_rule.specs.declared.step.LaneStep.TheVariants.{Given, OutFreed}
use Rattle.board_api.specs.Closings.Closings.{IsAtRest}
use Rattle.board_api.specs.Calls.HeldLanes.{HasNoneOf, PullsFrom}
use Rattle.board_api.specs.Calls.Rights.{HasPulled, Pulls}
use Rattle.board_api.specs.Seats.{BoardSeatView, Adds}
use Rattle.steer_base.specs.Lanes.{LaneLists}
use Rattle.steer_base.specs.declared.cpu_mask.CpuMask.{CpuMask}
use Rattle.steer_base.specs.declared.put.Put.{Put}
use Rattle.hop_rule.specs.OutLanes.{OutList}
use Rattle.board_api.specs.Calls.Results.{TookMiddle, TookOut, released, BackTells, CloseTells}
use Rattle.board_api.specs.Calls.Results.{DeliverTells}
use Rattle.board_api.specs.Calls.Results.{EmptiedTells, EnterTells, Looked, MissedAt, OpenTells}
use Rattle.board_api.specs.Calls.Results.{PullTells}
use Rattle.board_api.specs.Calls.Results.{PutTells, RetireTells, TailTells, Took, WeighTells}
use Rattle.board_api.specs.Calls.Results.{looking}
use Rattle.board_api.specs.Views.{BoardView}
use Rattle.board_api.specs.declared.answers.CloseAnswer.TheVariants as close
use Rattle.board_api.specs.declared.answers.Emptied.{Emptied}
use Rattle.board_api.specs.declared.answers.Emptied.TheVariants as emptied
use Rattle.board_api.specs.declared.answers.EnterAnswer.TheVariants as enter
use Rattle.board_api.specs.declared.answers.Pull.TheVariants as pull
use Rattle.board_api.specs.declared.held_lane.HeldLane.{HeldLane}
use Rattle.board_api.specs.declared.held_lane.HeldLane.TheVariants as held
use Rattle.board_api.specs.declared.held_lane.LaneId.{LaneId}
use Rattle.board_api.specs.declared.held_lane.LaneId.TheVariants as id
use Rattle.board_tests.specs.Stands.{IsIn, SeatIsOutside, SeatIs, hand_of, no_hand, opened_by}

abbrev Seat : Type 0
Seat = BoardSeatView

-- ---- by cases on whether it is the same lane

free_by : {X : Type 0} (b : Bool) (x : X) (o : Option X) → o ≡ None
    → (if b then None else (if b then Some x else o)) ≡ None
free_by true x o e = refl
free_by false x o e = e

gave_by : (b : Bool) (o p : Phase) → o ≡ (if b then p else idle)
    → (if b then gave else o) ≡ (if b then gave else idle)
gave_by true o p e = refl
gave_by false o p e = e

idle_by : (b : Bool) (o p : Phase) → o ≡ (if b then p else idle) → (if b then idle else o) ≡ idle
idle_by true o p e = refl
idle_by false o p e = e

-- ---- lanes that are looked at

lanes-looking : (xs : List Looked) (steps : List BoardStep)
    → lane_steps (looking xs steps) ≡ lane_steps steps
lanes-looking [] steps = refl
lanes-looking (x ∷ xs) steps =
    lanes-looking xs (Counted x.lane x.tail ∷ Weighed x.lane x.head ∷ steps)

gates-looking : (xs : List Looked) (steps : List BoardStep)
    → gate_steps (looking xs steps) ≡ gate_steps steps
gates-looking [] steps = refl
gates-looking (x ∷ xs) steps =
    gates-looking xs (Counted x.lane x.tail ∷ Weighed x.lane x.head ∷ steps)

-- a look at lanes opens no gate
pub opened-looking : (about : BoardSizes) (mask : CpuMask) (e : Emptied) (old new : Seat)
    → EmptiedTells about mask old new e → opened_by new ≡ opened_by old
opened-looking about mask emptied.Ok old new t =
    ap opened_by t.step ∙ ap openings (gates-looking t.looked old.steps)
opened-looking about mask (emptied.NotEmpty lane head tail) old new t =
    ap opened_by t.step ∙ ap openings (gates-looking (t.looked ++ t.last ∷ []) old.steps)

-- ---- a lane that is held

-- a hold leaves a seat at its place, with the packets that it has in hand
pub record Keeps (old new : Seat) : Type 0 where
  pub table : new.table ≡ old.table
  pub number : new.number ≡ old.number
  pub place : visit (gate_steps new.steps) ≡ visit (gate_steps old.steps)
  pub hands : (l : ℕ) → phase l (lane_steps new.steps) ≡ phase l (lane_steps old.steps)

module _ (about : BoardSizes) (old mid : Seat) where
  pub took_keeps : (lane : LaneId) (h : HeldLane) → Took about lane old mid h → Keeps old mid
  took_keeps (id.Middle l) (held.Middle i x) t =
      subst (Keeps old) (sym t.1.step)
      record { table = refl; number = refl; place = refl; hands = λ l. refl }
  took_keeps (id.Out o) (held.Out i x) t =
      subst (Keeps old) (sym t.1.step)
      record { table = refl; number = refl; place = refl; hands = λ l. refl }
  took_keeps (id.Middle l) (held.Out i x) t = absurd t
  took_keeps (id.Out o) (held.Middle i x) t = absurd t

  -- what a pull asks of the lane
  pub took_pulls : (l : ℕ) (h : HeldLane) → Took about (id.Middle l) old mid h
      → Pulls about old.number l → PullsFrom about mid.number h
  took_pulls l (held.Middle i x) t mine =
      let same = ap (λ (s : Seat). s.number) t.1.step in
      subst (λ (z : ℕ). Pulls about mid.number z) (sym t.0) (mine ∙ sym same)
  took_pulls l (held.Out i x) t mine = absurd t

  pub took_none : (l : ℕ) (h : HeldLane) → Took about (id.Middle l) old mid h
      → ((i : ℕ) → phase i (lane_steps old.steps) ≡ idle) → HasNoneOf mid.steps h
  took_none l (held.Middle i x) t none =
      ap (λ (s : Seat). phase i (lane_steps s.steps)) t.1.step ∙ none i
  took_none l (held.Out i x) t none = absurd t

-- the lane that was asked for is the one in hand
middle_at : (l i : ℕ) (x : LaneLists) (old mid : Seat) → i ≡ l → TookMiddle l x old mid
    → TookMiddle i x old mid
middle_at l i x old mid e t = subst (λ (z : ℕ). TookMiddle z x old mid) (sym e) t

out_at : (about : BoardSizes) (o i : ℕ) (x : OutList) (old mid : Seat) → i ≡ o
    → TookOut about o x old mid → TookOut about i x old mid
out_at about o i x old mid e t = subst (λ (z : ℕ). TookOut about z x old mid) (sym e) t

-- ---- where a seat stands

module _ (board : BoardView) (number : ℕ) where
  At : Visit → ℕ → (ℕ → Phase) → Seat → Type 0
  At place gate hand seat = SeatIs board number place gate hand seat

  -- steps at the gate, and loads, leave lanes and hands as they were
  at_gate : (from place : Visit) (before gate : ℕ) (hand : ℕ → Phase) (old new : Seat)
      (steps : List BoardStep) (found : Bool) → SeatIs board number from before hand old
      → new ≡ record old { steps = steps; has_emptied = found }
      → lane_steps steps ≡ lane_steps old.steps → visit (gate_steps steps) ≡ place
      → closed (gate_steps steps) ≡ gate → SeatIs board number place gate hand new
  at_gate from place before gate hand old new steps found s e same v c =
      subst (SeatIs board number place gate hand) (sym e)
      record {
        table = s.table;
        number_is = s.number_is;
        place_is = v;
        gate_is = c;
        lanes = λ l. ap (holding l) same ∙ s.lanes l;
        hands = λ l. ap (phase l) same ∙ s.hands l;
        outs = λ o. ap (out_holding o) same ∙ s.outs o;
      }

  module _ (hand : ℕ → Phase) (old new : Seat) where
    pub entered : SeatIs board number outside 0 hand old → EnterTells old new enter.Ok
        → SeatIs board number inside 0 hand new
    entered s t =
        at_gate outside inside 0 0 hand old new (Gate (Entered t.0) ∷ old.steps) old.has_emptied s
        t.2 refl refl s.gate_is

    pub refused : (word : ℕ) → SeatIs board number outside 0 hand old
        → EnterTells old new (enter.Closed word) → SeatIs board number outside 0 hand new
    refused word s t =
        at_gate outside outside 0 0 hand old new (Gate Left ∷ Gate (Turned word) ∷ old.steps)
        old.has_emptied s t.1 refl refl s.gate_is

    pub has_read : (place : Visit) (gate i value : ℕ) → SeatIs board number place gate hand old
        → Adds (Gate (Read i value) ∷ []) old new → SeatIs board number place gate hand new
    has_read place gate i value s t =
        at_gate place place gate gate hand old new (Gate (Read i value) ∷ old.steps)
        old.has_emptied s t refl s.place_is s.gate_is

    pub weighed : (place : Visit) (gate lane head : ℕ) → SeatIs board number place gate hand old
        → WeighTells lane old new head → SeatIs board number place gate hand new
    weighed place gate lane head s t =
        at_gate place place gate gate hand old new (Weighed lane t.0 ∷ old.steps) old.has_emptied s
        t.2 refl s.place_is s.gate_is

    pub counted : (lane : LaneId) (tail : ℕ) → SeatIs board number outside 0 hand old
        → TailTells lane old new tail → SeatIs board number outside 0 hand new
    counted (id.Middle l) tail s t =
        at_gate outside outside 0 0 hand old new (Counted l t.0 ∷ old.steps) old.has_emptied s t.2
        refl s.place_is s.gate_is
    counted (id.Out o) tail s t =
        at_gate outside outside 0 0 hand old new (OutCounted o t.0 ∷ old.steps) old.has_emptied s
        t.2 refl s.place_is s.gate_is

    pub has_left : SeatIs board number inside 0 hand old → Adds (Gate Left ∷ []) old new
        → SeatIs board number outside 0 hand new
    has_left s t =
        at_gate inside outside 0 0 hand old new (Gate Left ∷ old.steps) old.has_emptied s t refl
        refl s.gate_is

    pub has_shut : SeatIs board number outside 0 hand old
        → CloseTells board.sizes old new close.Ok → SeatIs board number outside 1 hand new
    has_shut s t =
        at_gate outside outside 0 1 hand old new
        (Gate (Shut (openings (gate_steps old.steps) * 2 ^ 32)) ∷ old.steps) false s t refl
        s.place_is refl

    pub has_not_shut : (n : ℕ) → SeatIs board number outside 0 hand old
        → CloseTells board.sizes old new (close.Inside n) → SeatIs board number outside 0 hand new
    has_not_shut n s t =
        at_gate outside outside 0 0 hand old new (Gate (NotShut t.0) ∷ old.steps) old.has_emptied
        s t.4 refl s.place_is s.gate_is

    pub has_looked : (mask : CpuMask) (e : Emptied) → SeatIs board number outside 1 hand old
        → EmptiedTells board.sizes mask old new e → SeatIs board number outside 1 hand new
    has_looked mask emptied.Ok s t =
        at_gate outside outside 1 1 hand old new (looking t.looked old.steps) true s t.step
        (lanes-looking t.looked old.steps)
        (ap visit (gates-looking t.looked old.steps) ∙ s.place_is)
        (ap closed (gates-looking t.looked old.steps) ∙ s.gate_is)
    has_looked mask (emptied.NotEmpty lane head tail) s t =
        let looked = t.looked ++ t.last ∷ [] in
        at_gate outside outside 1 1 hand old new (looking looked old.steps) old.has_emptied s t.step
        (lanes-looking looked old.steps)
        (ap visit (gates-looking looked old.steps) ∙ s.place_is)
        (ap closed (gates-looking looked old.steps) ∙ s.gate_is)

    pub has_set : (i value : ℕ) → SeatIs board number outside 1 hand old
        → Adds (Gate (Set i value) ∷ []) old new → SeatIs board number outside 1 hand new
    has_set i value s t =
        at_gate outside outside 1 1 hand old new (Gate (Set i value) ∷ old.steps) old.has_emptied
        s t refl s.place_is s.gate_is

    pub has_opened : SeatIs board number outside 1 hand old → OpenTells old new
        → SeatIs board number outside 0 hand new
    has_opened s t =
        at_gate outside outside 1 0 hand old new (Gate Opened ∷ old.steps) false s t refl
        s.place_is refl

    -- a lane that another seat holds
    pub missed : (place : Visit) (lane : LaneId) (word : ℕ) → SeatIs board number place 0 hand old
        → Adds (MissedAt lane word ∷ []) old new → SeatIs board number place 0 hand new
    missed place (id.Middle l) word s t =
        subst (SeatIs board number place 0 hand) (sym t)
        record {
          table = s.table;
          number_is = s.number_is;
          place_is = s.place_is;
          gate_is = s.gate_is;
          lanes = s.lanes;
          hands = s.hands;
          outs = s.outs;
        }
    missed place (id.Out o) word s t =
        subst (SeatIs board number place 0 hand) (sym t)
        record {
          table = s.table;
          number_is = s.number_is;
          place_is = s.place_is;
          gate_is = s.gate_is;
          lanes = s.lanes;
          hands = s.hands;
          outs = s.outs;
        }

  -- ---- a lane that was taken and is given back

  module _ (place : Visit) (old mid new : Seat) where
    -- a middle lane, with a change
    freed : (hand after : ℕ → Phase) (i : ℕ) (x : LaneLists) (change : Change)
        → SeatIs board number place 0 hand old → TookMiddle i x old mid
        → Adds (released i change) mid new
        → ((l : ℕ) → freed_phase l i change (phase l (lane_steps old.steps)) ≡ after l)
        → SeatIs board number place 0 after new
    freed hand after i x change s t e hands =
        subst (SeatIs board number place 0 after) (sym e)
        (subst
        (λ (m : Seat).
        SeatIs board number place 0 after (record m { steps = released i change ++ m.steps }))
        (sym t.step)
        record {
          table = s.table;
          number_is = s.number_is;
          place_is = s.place_is;
          gate_is = s.gate_is;
          lanes = λ l. free_by (i == l) x (holding l (lane_steps old.steps)) (s.lanes l);
          hands = hands;
          outs = s.outs;
        })

    -- an out lane, as it was
    out_freed : (hand : ℕ → Phase) (o k : ℕ) (x : OutList) (about : BoardSizes)
        → SeatIs board number place 0 hand old → TookOut about o x old mid
        → Adds (Lane (OutFreed o) ∷ LaneIn k ∷ []) mid new → SeatIs board number place 0 hand new
    out_freed hand o k x about s t e =
        subst (SeatIs board number place 0 hand) (sym e)
        (subst
        (λ (m : Seat).
        SeatIs board number place 0 hand
        (record m { steps = Lane (OutFreed o) ∷ LaneIn k ∷ m.steps }))
        (sym t.step)
        record {
          table = s.table;
          number_is = s.number_is;
          place_is = s.place_is;
          gate_is = s.gate_is;
          lanes = s.lanes;
          hands = s.hands;
          outs = λ l. free_by (o == l) x (out_holding l (lane_steps old.steps)) (s.outs l);
        })

    -- an out lane, with one packet more
    out_given : (o k from packet count : ℕ) (p : Phase) (x : OutList) (about : BoardSizes)
        → SeatIs board number place 0 (hand_of from p) old → TookOut about o x old mid
        → Adds (Lane (Given o from packet count) ∷ LaneIn k ∷ []) mid new
        → SeatIs board number place 0 (hand_of from gave) new
    out_given o k from packet count p x about s t e =
        subst (SeatIs board number place 0 (hand_of from gave)) (sym e)
        (subst
        (λ (m : Seat).
        SeatIs board number place 0 (hand_of from gave)
        (record m { steps = Lane (Given o from packet count) ∷ LaneIn k ∷ m.steps }))
        (sym t.step)
        record {
          table = s.table;
          number_is = s.number_is;
          place_is = s.place_is;
          gate_is = s.gate_is;
          lanes = s.lanes;
          hands = λ l. gave_by (from == l) (phase l (lane_steps old.steps)) p (s.hands l);
          outs = λ l. free_by (o == l) x (out_holding l (lane_steps old.steps)) (s.outs l);
        })

    pub given_back : (hand : ℕ → Phase) (lane : LaneId) (h : HeldLane)
        → SeatIs board number place 0 hand old → Took board.sizes lane old mid h
        → BackTells board.sizes h mid new → SeatIs board number place 0 hand new
    given_back hand (id.Middle l) (held.Middle i x) s t e =
        freed hand hand i x Nothing s (middle_at l i x old mid t.0 t.1) e s.hands
    given_back hand (id.Out o) (held.Out i x) s t e =
        out_freed hand i (board.sizes.lanes + i) x board.sizes s
        (out_at board.sizes o i x old mid t.0 t.1) e
    given_back hand (id.Middle l) (held.Out i x) s t e = absurd t
    given_back hand (id.Out o) (held.Middle i x) s t e = absurd t

    pub has_put : (hand : ℕ → Phase) (l packet : ℕ) (hash : Option ℕ) (answer : Put)
        (h : HeldLane) → SeatIs board number place 0 hand old
        → Took board.sizes (id.Middle l) old mid h → PutTells h packet hash mid new answer
        → SeatIs board number place 0 hand new
    has_put hand l packet hash answer (held.Middle i x) s t e =
        freed hand hand i x (Offered packet hash answer) s
        (middle_at l i x old mid t.0 t.1) e.1 s.hands
    has_put hand l packet hash answer (held.Out i x) s t e = absurd t

    pub pulled_none : (l : ℕ) (h : HeldLane) → SeatIs board number place 0 no_hand old
        → Took board.sizes (id.Middle l) old mid h → PullTells board.sizes h mid new pull.Empty
        → SeatIs board number place 0 no_hand new
    pulled_none l (held.Middle i x) s t e =
        freed no_hand no_hand i x Nothing s (middle_at l i x old mid t.0 t.1) e.1 s.hands
    pulled_none l (held.Out i x) s t e = absurd t

    pub pulled_one : (l packet : ℕ) (h : HeldLane) → SeatIs board number place 0 no_hand old
        → Took board.sizes (id.Middle l) old mid h
        → PullTells board.sizes h mid new (pull.Took packet)
        → SeatIs board number place 0 (hand_of l (has_pulled packet)) new
    pulled_one l packet (held.Middle i x) s t e =
        subst (λ (z : ℕ). SeatIs board number place 0 (hand_of z (has_pulled packet)) new) t.0
        (freed no_hand (hand_of i (has_pulled packet)) i x (Pulled packet) s
        (middle_at l i x old mid t.0 t.1) e.2
        (λ z. ap (λ o. if i == z then has_pulled packet else o) (s.hands z)))
    pulled_one l packet (held.Out i x) s t e = absurd t

    pub delivered : (from o count : ℕ) (p : Phase) (h : HeldLane)
        → SeatIs board number place 0 (hand_of from p) old → Took board.sizes (id.Out o) old mid h
        → DeliverTells board.sizes h from mid new count
        → SeatIs board number place 0 (hand_of from gave) new
    delivered from o count p (held.Out i x) s t e =
        out_given i (board.sizes.lanes + i) from e.0 count p x board.sizes s
        (out_at board.sizes o i x old mid t.0 t.1) e.3
    delivered from o count p (held.Middle i x) s t e = absurd t

  -- the packet was retired
  pub raised : (place : Visit) (lane : ℕ) (p : Phase) (old new : Seat)
      → SeatIs board number place 0 (hand_of lane p) old → RetireTells lane old new
      → SeatIs board number place 0 no_hand new
  raised place lane p old new s t =
      subst (SeatIs board number place 0 no_hand) (sym t.1)
      record {
        table = s.table;
        number_is = s.number_is;
        place_is = s.place_is;
        gate_is = s.gate_is;
        lanes = s.lanes;
        hands = λ l. idle_by (lane == l) (phase l (lane_steps old.steps)) p (s.hands l);
        outs = s.outs;
      }

-- the same seat by an equal number
pub by_number : (board : BoardView) (m n : ℕ) (place : Visit) (gate : ℕ) (hand : ℕ → Phase)
    (seat : Seat) → m ≡ n → SeatIs board m place gate hand seat
    → SeatIs board n place gate hand seat
by_number board m n place gate hand seat e s =
    record {
      table = s.table;
      number_is = s.number_is ∙ e;
      place_is = s.place_is;
      gate_is = s.gate_is;
      lanes = s.lanes;
      hands = s.hands;
      outs = s.outs;
    }

-- a visit up to its second load
pub has_seen : (board : BoardView) (old in_visit read new : Seat) (value lane head : ℕ)
    → SeatIsOutside board old.number old → EnterTells old in_visit enter.Ok
    → Adds (Gate (Read 0 value) ∷ []) in_visit read → WeighTells lane read new head
    → IsIn board old.number new
has_seen board old in_visit read new value lane head s enters reads weighs =
    weighed board old.number no_hand read new inside 0 lane head
    (has_read board old.number no_hand in_visit read inside 0 0 value
    (entered board old.number no_hand old in_visit s enters) reads)
    weighs

-- the packet that a seat has pulled
pub pulled_here : (board : BoardView) (number : ℕ) (place : Visit) (lane packet : ℕ)
    (old mid : Seat) → SeatIs board number place 0 (hand_of lane (has_pulled packet)) old
    → Keeps old mid → HasPulled mid.steps lane
pulled_here board number place lane packet old mid s k =
    (packet, k.hands lane ∙ (s.hands lane ∙ if_same lane lane (has_pulled packet) idle refl))

-- a seat outside, with nothing in hand, is at rest
pub rests : (board : BoardView) (number : ℕ) (seat : Seat) → SeatIsOutside board number seat
    → IsAtRest board.sizes seat.steps
rests board number seat s =
    record {
      visit = s.place_is;
      lanes = λ l less. s.lanes l;
      hands = λ l less. s.hands l;
      outs = λ o less. s.outs o;
    }
