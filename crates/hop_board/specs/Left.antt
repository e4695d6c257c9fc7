-- The lists that a closed board's slots leave.
use Rattle.std.specs.Prelude.{◌≡◌, ℕ, ◌+◌, ◌<◌, ◌≤◌, Bool, true, false, List, [], Some, None, All}
use Rattle.std.specs.Prelude.{length, map}
use Rattle.std.specs.Prelude.{slice_index_or}
use Rattle.steer_base.specs.Journals.{Journal, journal}
use Rattle.std.specs.List.{range_with_len}
use Rattle.steer_base.specs.Lanes.{LaneLists}
use Rattle.backlog.specs.Puts.{put_count}
use Rattle.history.specs.Lists.{no_lane}
use Rattle.history.specs.declared.lane_list.LaneList.{LaneList}
use Rattle.hop_rule.specs.declared.sizes.BoardSizes.{BoardSizes}
use Rattle.hop_rule.specs.declared.step.Slot.TheVariants as slot
use Rattle.board_api.specs.Calls.HeldLanes.{FitsLane}
use Rattle.board_api.specs.declared.held_lane.LaneId.{LaneId}
use Rattle.board_api.specs.declared.held_lane.LaneId.TheVariants as id
use Rattle.board_api.specs.declared.lists.BoardLists.{BoardLists}
use Rattle.hop_board.specs.Tables.{InSlot, home_of}

-- What is left of a middle lane of which nobody has a packet in hand: each packet that was pulled
-- was delivered and retired.
abbrev pub left_of : LaneLists → LaneList
left_of y =
    record {
      accepted = y.accepted;
      drops = y.drops;
      pulled = y.pulled;
      delivered = y.pulled;
      retired = y.pulled;
    }

-- What is left of the middle lane in a slot.
abbrev pub middle_left : InSlot → LaneList
middle_left (Some (slot.Middle y)) = left_of y
middle_left (Some (slot.Out y)) = no_lane
middle_left None = no_lane

-- What is left of the out lane in a slot.
abbrev pub out_left : InSlot → List ℕ
out_left (Some (slot.Middle y)) = []
out_left (Some (slot.Out y)) = y.items
out_left None = []

module _ (about : BoardSizes) where
  -- The lane x is in its slot, with no more packets than there is room for.
  abbrev pub LiesIn : LaneId → InSlot → Type 0
  LiesIn (id.Middle l) (Some (slot.Middle y)) = put_count y ≤ about.room
  LiesIn (id.Middle l) (Some (slot.Out y)) = ⊥
  LiesIn (id.Middle l) None = ⊥
  LiesIn (id.Out o) (Some (slot.Middle y)) = ⊥
  LiesIn (id.Out o) (Some (slot.Out y)) = Unit {0}
  LiesIn (id.Out o) None = ⊥

  -- Each lane is in its slot.
  abbrev pub AllLie : List InSlot → Type 0
  AllLie items =
      (x : LaneId) → FitsLane about x → LiesIn x (slice_index_or items (home_of about x) None)

  -- What is left of the first n middle lanes.
  abbrev pub middles_left : ℕ → List InSlot → List LaneList
  middles_left n items =
      map (λ l. middle_left (slice_index_or items (home_of about (id.Middle l)) None))
      (range_with_len 0 n)

  -- What is left of the first n out lanes.
  abbrev pub outs_left : ℕ → List InSlot → List (List ℕ)
  outs_left n items =
      map (λ o. out_left (slice_index_or items (home_of about (id.Out o)) None))
      (range_with_len 0 n)

  -- The lists of all lanes that the slots of a board leave.
  abbrev pub lists_left : List InSlot → BoardLists
  lists_left items =
      record { lanes = middles_left about.lanes items; outs = outs_left about.outs items }

-- The slot has a middle lane with no more packets than this room.
abbrev pub IsMiddleOf : ℕ → InSlot → Type 0
IsMiddleOf room (Some (slot.Middle y)) = put_count y ≤ room
IsMiddleOf room (Some (slot.Out y)) = ⊥
IsMiddleOf room None = ⊥

-- The slot has an out lane.
abbrev pub IsOutLane : InSlot → Type 0
IsOutLane (Some (slot.Middle y)) = ⊥
IsOutLane (Some (slot.Out y)) = Unit {0}
IsOutLane None = ⊥

-- ---- slots whose values were taken one by one

-- There are this many empty lists with this room.
pub record AreSpare {X : Type 0} (count room : ℕ) (all : List (Journal X)) : Type 0 where
  pub count_is : length all ≡ count
  pub each : All (λ (j : Journal X). j ≡ journal [] room) all

-- Of this many slots, those from the n-th have their values.
abbrev pub AreFullFrom : ℕ → ℕ → List Bool → Type 0
AreFullFrom n count filled =
    (k : ℕ) → n ≤ k → k < count → slice_index_or filled k false ≡ true

-- The values of the slots below n were taken, and the others have theirs.
pub record AreTakenTo (n count : ℕ) (filled : List Bool) : Type 0 where
  pub taken : (k : ℕ) → k < n → slice_index_or filled k false ≡ false
  pub left : AreFullFrom n count filled

-- The values of m slots from the n-th were taken, and the slots below are as they were.
pub record AreTakenFrom (n m : ℕ) (old filled : List Bool) : Type 0 where
  pub taken : (k : ℕ) → n ≤ k → k < n + m → slice_index_or filled k false ≡ false
  pub below : (k : ℕ) → k < n → slice_index_or filled k false ≡ slice_index_or old k false
