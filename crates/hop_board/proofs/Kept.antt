-- What a seat keeps besides its steps, after more of them.
use Rattle.std.proofs.Common.{Result, Ok, Err, MatchResult}
use Rattle.steer_base.specs.declared.cpu_mask.CpuMask.{CpuMask}
use Rattle.hop_rule.specs.declared.step.Change.TheVariants.{Pulled}
use Rattle.hop_rule.specs.declared.step.LaneStep.TheVariants.{Freed, Given}
use Rattle.hop_rule.specs.declared.step.LaneStep.TheVariants.{Retired}
use Rattle.hop_rule.specs.declared.step.Slot.TheVariants as slot
use Rattle.hop_rule.specs.Lanes.{Phase, gave, has_pulled, idle}
use Rattle.board_api.specs.Seats.{KeepsSteps}
use Rattle.board_api.specs.Calls.Results.{EmptiedTells, Looked, MissedAt, looking}
use Rattle.board_api.specs.declared.answers.Emptied.{Emptied}
use Rattle.board_api.specs.declared.answers.Emptied.TheVariants as emptied
use Rattle.board_api.specs.declared.held_lane.LaneId.TheVariants as id
use Rattle.hop_board.specs.Emptying.{emptied_after}
use Rattle.hop_board.specs.Makings.{TookSlot, MissedSlot}
use Rattle.hop_board.proofs.Names.{◌≡◌, ◌≢◌, ℕ, ◌<◌, Bool, List, [], ◌∷◌, ◌++◌, set, slice_index}
use Rattle.hop_board.proofs.Names.{length, sym, ap, ◌∙◌, subst, arith, get_or-set_same}
use Rattle.hop_board.proofs.Names.{get_or-set_other, dite, ℕ_discrete, SeatView, if_same, if_other}
use Rattle.hop_board.proofs.Names.{BoardSizes, BoardStep, Lane, LaneIn, LaneOut, Slot, lane_steps}
use Rattle.hop_board.proofs.Names.{phase, BoardSeatView, LaneId, board_seat, HeldAt, slot_of}

module _ (pulled : List ℕ) (opened visit : ℕ) where
  abbrev Keeps : List BoardStep → Type 0
  Keeps steps = KeepsSteps steps pulled opened visit

  held_kept : (k : ℕ) (x : LaneId) (w : ℕ) (found : Slot) (d : BoardStep) (ds : List BoardStep)
      → HeldAt x w found d → Keeps ds → Keeps (LaneOut k ∷ d ∷ ds)
  held_kept k (id.Middle l) w (slot.Middle y) d ds is t = subst (λ z. Keeps (LaneOut k ∷ z ∷ ds))
      (sym is)
      record {
        in_hand = λ lane packet inside at. t.in_hand lane packet inside at;
        opens = t.opens;
        number = t.number;
      }
  held_kept k (id.Out o) w (slot.Out y) d ds is t = subst (λ z. Keeps (LaneOut k ∷ z ∷ ds)) (sym is)
      record {
        in_hand = λ lane packet inside at. t.in_hand lane packet inside at;
        opens = t.opens;
        number = t.number;
      }
  held_kept k (id.Middle l) w (slot.Out y) d ds is t = absurd is
  held_kept k (id.Out o) w (slot.Middle y) d ds is t = absurd is

  missed_kept : (x : LaneId) (w : ℕ) (ds : List BoardStep) → Keeps ds → Keeps (MissedAt x w ∷ ds)
  missed_kept (id.Middle l) w ds t =
      record {
        in_hand = λ lane packet inside at. t.in_hand lane packet inside at;
        opens = t.opens;
        number = t.number;
      }
  missed_kept (id.Out o) w ds t =
      record {
        in_hand = λ lane packet inside at. t.in_hand lane packet inside at;
        opens = t.opens;
        number = t.number;
      }

  -- a lane was taken, or missed
  pub taken_kept : (about : BoardSizes) (x : LaneId) (old new : SeatView BoardStep)
      (result : Result Slot ℕ)
      → MatchResult result (λ found. TookSlot about x old new found)
      (λ word. MissedSlot x old new word)
      → Keeps old.steps → Keeps new.steps
  taken_kept about x old new (Ok found) t k =
      subst Keeps (sym (ap (λ (s : SeatView BoardStep). s.steps) t.step))
      (held_kept (slot_of about x) x t.word found t.held old.steps t.is_hold k)
  taken_kept about x old new (Err word) t k =
      subst Keeps (sym (ap (λ (s : SeatView BoardStep). s.steps) t.step))
      (missed_kept x word old.steps k)

  abbrev kind : Phase → ℕ
  kind idle = 0
  kind (has_pulled packet) = 1
  kind gave = 2

  abbrev packet_in : Phase → ℕ
  packet_in idle = 0
  packet_in (has_pulled packet) = packet
  packet_in gave = 0

  -- the hand of one lane goes on from a packet that was pulled
  other_hand : (l lane packet : ℕ) (now before : Phase) → kind now ≢ 1 → (if_ : Phase)
      → ((l ≡ lane) → if_ ≡ now)
      → ((l ≢ lane) → if_ ≡ before) → if_ ≡ has_pulled packet → (l ≢ lane)
      × (before ≡ has_pulled packet)
  other_hand l lane packet now before ne if_ same other at = dite (ℕ_discrete l lane)
      (λ e. absurd (ne (ap kind (sym (same e) ∙ at))))
      (λ n. (n, sym (other n) ∙ at))

  pub given_kept : (k o from id place : ℕ) (ds : List BoardStep) → Keeps ds
      → Keeps (Lane (Given o from id place) ∷ LaneIn k ∷ ds)
  given_kept k o from id place ds t = record {
    in_hand = λ lane packet inside at. (
        let before : Phase = phase lane (lane_steps ds) in
        let h = other_hand from lane packet gave before (λ e. absurd (omega arith))
        (phase lane (lane_steps (Lane (Given o from id place) ∷ LaneIn k ∷ ds)))
        (λ e. if_same from lane gave before e) (λ ne. if_other from lane gave before ne) at in
        t.in_hand lane packet inside h.1);
    opens = t.opens;
    number = t.number;
  }

  pub retired_kept : (l word : ℕ) (ds : List BoardStep) → Keeps ds → Keeps (Lane (Retired l word)
      ∷ ds)
  retired_kept l word ds t = record {
    in_hand = λ lane packet inside at. (
        let before : Phase = phase lane (lane_steps ds) in
        let h = other_hand l lane packet idle before (λ e. absurd (omega arith))
        (phase lane (lane_steps (Lane (Retired l word) ∷ ds)))
        (λ e. if_same l lane idle before e) (λ ne. if_other l lane idle before ne) at in
        t.in_hand lane packet inside h.1);
    opens = t.opens;
    number = t.number;
  }

  -- the packet that was pulled is noted
  pub pulled_kept : (k l id : ℕ) (ds : List BoardStep) → l < length pulled → Keeps ds
      → KeepsSteps (Lane (Freed l (Pulled id)) ∷ LaneIn k ∷ ds) (set pulled l id) opened visit
  pulled_kept k l id ds room t = record {
    in_hand = λ lane packet inside at. dite (ℕ_discrete l lane)
        (λ e. subst (λ (z : ℕ). slice_index (set pulled l id) z ≡ packet) e
        (get_or-set_same pulled l id 0 room
        ∙ ap packet_in (sym (if_same l lane (has_pulled id) (phase lane (lane_steps ds)) e) ∙ at)))
        (λ ne. get_or-set_other pulled l lane id 0 (λ e. ne (sym e))
        ∙ t.in_hand lane packet inside
        (sym (if_other l lane (has_pulled id) (phase lane (lane_steps ds)) ne) ∙ at));
    opens = t.opens;
    number = t.number;
  }

  -- lanes were looked at
  looked_kept : (xs : List Looked) (ds : List BoardStep) → Keeps ds → Keeps (looking xs ds)
  looked_kept [] ds t = t
  looked_kept (x ∷ xs) ds t = looked_kept xs (looking (x ∷ []) ds)
      record {
        in_hand = λ lane packet inside at. t.in_hand lane packet inside at;
        opens = t.opens;
        number = t.number;
      }

  pub emptied_kept : (about : BoardSizes) (mask : CpuMask) (old new : SeatView BoardStep) (e : Bool)
      (answer : Emptied)
      → EmptiedTells about mask (board_seat old e) (board_seat new (emptied_after e answer)) answer
      → Keeps old.steps → Keeps new.steps
  emptied_kept about mask old new e emptied.Ok t k =
      subst Keeps (sym (ap (λ (s : BoardSeatView). s.steps) t.step))
      (looked_kept t.looked old.steps k)
  emptied_kept about mask old new e (emptied.NotEmpty lane head tail) t k =
      subst Keeps (sym (ap (λ (s : BoardSeatView). s.steps) t.step))
      (looked_kept (t.looked ++ t.last ∷ []) old.steps k)
