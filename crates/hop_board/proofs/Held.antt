-- Lanes that seats take and give back, as the calls tell it.
use Rattle.std.proofs.Common.{Option}
use Rattle.std.specs.Prelude.{slice_get}
use Rattle.std.proofs.lemmas.Bool.{le-ltb, lt-ltb}
use Rattle.steer_base.specs.Drops.{bucket_of, lane_drop_cause}
use Rattle.steer_base.specs.declared.put.DropCause.{DropCause}
use Rattle.steer_base.specs.declared.put.Put.{Put}
use Rattle.steer_base.specs.declared.put.Put.TheVariants.{At, Dropped}
use Rattle.backlog.specs.Puts.{after_put, after_take, answer_by, next_waiting, put_answer, put_by}
use Rattle.backlog.specs.Puts.{put_count}
use Rattle.hop_rule.specs.declared.step.Change.TheVariants as change
use Rattle.hop_rule.specs.declared.step.Slot.TheVariants as slot
use Rattle.hop_rule.specs.Boards.{empty}
use Rattle.hop_rule.specs.Gates as gates
use Rattle.hop_rule.specs.Lanes as lanes
use Rattle.hop_rule.proofs.Lists.{get-inside, none-some}
use Rattle.hop_rule.proofs.Owns.{lane_room}
use Rattle.board_api.specs.Calls.HeldLanes.{Holds}
use Rattle.board_api.specs.Calls.Results.{HoldTells, Took}
use Rattle.board_api.specs.declared.answers.Hold.TheVariants as hold
use Rattle.board_api.specs.declared.held_lane.HeldLane.TheVariants as held
use Rattle.board_api.specs.declared.held_lane.LaneId.TheVariants as id
use Rattle.board_api.proofs.AddedSteps.{taken_lanes_are_held}
use Rattle.hop_board.specs.Makings.{TookSlot}
use Rattle.hop_board.specs.Named.{held_by, held_lane_id, content_of}
use Rattle.hop_board.specs.Releases.{rises_by}
use Rattle.hop_board.specs.declared.release.Release.TheVariants.{Offered, Pulled, Given}
use Rattle.hop_board.proofs.Names.{◌≡◌, ℕ, zero, suc, if◌then◌else◌, ◌+◌, ◌<◌, ◌≤◌, List, [], ◌∷◌}
use Rattle.hop_board.proofs.Names.{◌++◌, Bool, true, false, Some, None, length, sym, refl, ap, ◌∙◌}
use Rattle.hop_board.proofs.Names.{subst, arith, length-append, LaneLists, SeatView, BoardSizes}
use Rattle.hop_board.proofs.Names.{BoardStep, LaneOut, Slot, gate_steps, lane_steps, lanes_of}
use Rattle.hop_board.proofs.Names.{own_state, OutList, out_list, puller, FitsLane, IsMiddle, IsOut}
use Rattle.hop_board.proofs.Names.{HeldLane, LaneId, board_seat, is_told, step_in, MayGive, slot_of}
use Rattle.hop_board.proofs.Names.{Unchanged}
use Rattle.hop_board.proofs.Releases.{gives_middle, gives_out, gives_packet, risen}
use Rattle.hop_board.proofs.Told.{accepted_below, out_below}

-- ---- what waits in a lane

past_end : (xs : List ℕ) (k : ℕ) → slice_get xs k ≡ None → length xs ≤ k
past_end [] k e = omega arith
past_end (x ∷ xs) zero e = absurd (none-some x (sym e))
past_end (x ∷ xs) (suc k) e = let t = past_end xs k e in omega arith

-- a take pulls the packet that waits
pub taken_is : (y : LaneLists) (packet : ℕ) → next_waiting y ≡ Some packet
    → after_take y ≡ record y { pulled = y.pulled + 1 }
taken_is y packet e =
    ap (λ b. if b then record y { pulled = y.pulled + 1 } else y)
    (lt-ltb y.pulled (length y.accepted) (get-inside y.accepted y.pulled packet e).0)

-- and leaves a lane as it is where none waits
pub none_taken : (y : LaneLists) → next_waiting y ≡ None → after_take y ≡ y
none_taken y e =
    ap (λ b. if b then record y { pulled = y.pulled + 1 } else y)
    (le-ltb y.pulled (length y.accepted) (past_end y.accepted y.pulled e))

module _ (about : BoardSizes) where
  -- ---- holds

  took : (x : LaneId) (old new : SeatView BoardStep) (e : Bool) (found : Slot)
      → TookSlot about x old new found
      → Took about x (board_seat old e) (board_seat new e) (held_by x found)
  took (id.Middle l) old new e (slot.Middle y) t = (
    refl,
    record {
      word = t.word;
      free = t.free;
      step = ap (λ s. board_seat s e) t.step
          ∙ ap (λ d. board_seat (record old { steps = LaneOut l ∷ d ∷ old.steps }) e) t.is_hold;
    },
  )
  took (id.Out o) old new e (slot.Out y) t = (
    refl,
    record {
      word = t.word;
      free = t.free;
      step = ap (λ s. board_seat s e) t.step
          ∙ ap (λ d. board_seat (record old {
            steps = LaneOut (slot_of about (id.Out o)) ∷ d
                ∷ old.steps;
          }) e) t.is_hold;
    },
  )
  took (id.Middle l) old new e (slot.Out y) t = absurd t.is_hold
  took (id.Out o) old new e (slot.Middle y) t = absurd t.is_hold

  pub took_lane : (x : LaneId) (old new : SeatView BoardStep) (e : Bool) (found : Slot)
      → FitsLane about x
      → TookSlot about x old new found
      → HoldTells about x (board_seat old e) (board_seat new e) (hold.Ok (held_by x found))
  took_lane x old new e found fits t = let taken = took x old new e found t in (
    taken,
    taken_lanes_are_held about x (board_seat old e) (board_seat new e) (held_by x found) fits taken,
  )

  -- ---- what a seat that holds a lane may do

  pub held_within : (steps : List BoardStep) (h : HeldLane) → Holds about steps h
      → FitsLane about (held_lane_id h)
  held_within steps (held.Middle l y) h = h.within
  held_within steps (held.Out o y) h = h.within

  pub held_empty : (steps : List BoardStep) (h : HeldLane) → Holds about steps h
      → own_state about (slot_of about (held_lane_id h)) steps ≡ empty
  held_empty steps (held.Middle l y) h = h.slot
  held_empty steps (held.Out o y) h = h.slot

  pub may_return : (seat : SeatView BoardStep) (h : HeldLane) → Holds about seat.steps h
      → MayGive about seat (held_lane_id h) false (content_of h)
      (step_in (Unchanged (held_lane_id h)))
      (is_told about (Unchanged (held_lane_id h)) (content_of h))
  may_return seat (held.Middle l y) h =
      gives_middle about seat l y change.Nothing false (Unit {0}) h.within h.holds
      (λ order lawful is. (tt, tt, tt)) refl
  may_return seat (held.Out o y) h =
      gives_out about seat o y (is_told about (Unchanged (id.Out o)) (slot.Out y)) h.within h.holds
      (λ order lawful is n packet at. out_below about order lawful o n packet
      (ap (λ (z : OutList). slice_get z.items n) is ∙ at))

  abbrev kind : Put → ℕ
  kind (At n) = 1
  kind (Dropped number accepted pulled cause) = 0

  -- the tail rises where the packet was accepted
  put_rises : (y : LaneLists) (packet : ℕ) (hash : Option ℕ)
      → length (after_put y packet hash).accepted ≡ risen (rises_by (put_answer y hash))
      (length y.accepted)
  put_rises y packet hash = by_cause (lane_drop_cause y hash)
    where
      by_cause : (cause : Option DropCause)
          → length (put_by cause y packet (bucket_of hash)).accepted ≡ risen
          (rises_by (answer_by cause y)) (length y.accepted)
      by_cause None = let more = length-append y.accepted (packet ∷ []) in omega arith
      by_cause (Some cause) = refl

  pub may_put : (seat : SeatView BoardStep) (l packet : ℕ) (y : LaneLists) (hash : Option ℕ)
      (answer : Put)
      → IsMiddle about seat.steps l y → gates.visit (gate_steps seat.steps) ≡ gates.inside
      → packet < about.room → put_count y < y.room → answer ≡ put_answer y hash
      → MayGive about seat (id.Middle l) (rises_by answer) (slot.Middle (after_put y packet hash))
      (step_in (Offered l packet hash answer)) (Unit {0})
  may_put seat l packet y hash answer h inside small some_room is =
      gives_middle about seat l y (change.Offered packet hash answer) (rises_by answer)
      (Unit {0}) h.within h.holds
      (λ order lawful found.
      let room_is : about.room ≡ y.room = sym (lane_room about (lanes_of order) l)
      ∙ ap (λ (x : LaneLists). x.room) found in
      ((small, omega arith, is), inside, tt))
      (put_rises y packet hash ∙ ap (λ a. risen (rises_by a) (length y.accepted)) (sym is))

  pub may_pull : (seat : SeatView BoardStep) (l packet : ℕ) (y : LaneLists)
      → IsMiddle about seat.steps l y → puller about l ≡ seat.number
      → lanes.phase l (lane_steps seat.steps) ≡ lanes.idle → next_waiting y ≡ Some packet
      → MayGive about seat (id.Middle l) false (slot.Middle (record y { pulled = y.pulled + 1 }))
      (step_in (Pulled l packet)) (packet < about.room)
  may_pull seat l packet y h mine none waits =
      gives_middle about seat l y (change.Pulled packet) false
      (packet < about.room) h.within h.holds
      (λ order lawful found. (
        (mine, waits, none),
        tt,
        accepted_below about order lawful l y.pulled packet
            (ap (λ (x : LaneLists). slice_get x.accepted y.pulled) found ∙ waits),
      )) refl

  pub may_deliver : (seat : SeatView BoardStep) (o from packet place : ℕ) (y : OutList)
      → IsOut about seat.steps o y → from < about.lanes → length y.items < y.room
      → puller about from ≡ seat.number
      → lanes.phase from (lane_steps seat.steps) ≡ lanes.has_pulled packet
      → place ≡ length y.items + 1
      → MayGive about seat (id.Out o) true (slot.Out (out_list (y.items ++ packet ∷ []) y.room))
      (step_in (Given o from packet place)) (Unit {0})
  may_deliver seat o from packet place y h inside some_room mine pulled_ place_is =
      subst (λ (k : ℕ). MayGive about seat (id.Out o) true
      (slot.Out (out_list (y.items ++ packet ∷ []) y.room))
      (step_in (Given o from packet k)) (Unit {0})) (sym place_is)
      (gives_packet about seat o from packet y h.within inside h.holds some_room mine pulled_)
