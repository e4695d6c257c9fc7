-- A board before any step.
use Rattle.std.specs.Prelude.{ℕ, zero, suc, ◌+◌, ◌*◌, ◌-◌, false, List, [], ◌∷◌, ◌++◌, None, Some}
use Rattle.std.specs.Prelude.{map, replicate}
use Rattle.std.specs.List.{range_with_len}
use Rattle.steer_base.specs.Sets.{has}
use Rattle.atomic_table.specs.Seated.{TableId}
use Rattle.backlog.specs.Puts.{new_lane}
use Rattle.linearization.specs.Seats.{new_seats}
use Rattle.hop_model.specs.declared.shape.HopShape.{HopShape}
use Rattle.hop_rule.specs.OutLanes.{out_list}
use Rattle.hop_rule.specs.declared.sizes.BoardSizes.{BoardSizes}
use Rattle.hop_rule.specs.declared.step.Slot.TheVariants as slot
use Rattle.board_api.specs.Seats.{BoardSeatView}
use Rattle.hop_board.specs.Named.{board_seat}
use Rattle.hop_board.specs.Tables.{InSlot}
use Rattle.hop_board.specs.declared.places.TheConstants.{SLOTS_PER_LANE, WORDS_PER_LINE}

-- The sizes of a board of this shape, with these settings and this many seats.
abbrev pub sizes_of : HopShape → List ℕ → ℕ → BoardSizes
sizes_of shape settings seats =
    record {
      lanes = shape.lanes;
      outs = shape.outs;
      limit = shape.limit;
      room = shape.room;
      start = shape.start;
      limited = shape.limited;
      settings = settings;
      seats = seats;
    }

-- All seats of a board before any step.
abbrev pub new_board_seats : TableId → ℕ → List BoardSeatView
new_board_seats table seats = map (λ s. board_seat s false) (new_seats table 0 seats)

-- This value, with zeros behind it to the length of a cache line.
abbrev pub line_of : ℕ → List ℕ
line_of n = n ∷ replicate (WORDS_PER_LINE - 1) 0

-- So many of these, with one value.
abbrev pub lines_of : ℕ → ℕ → List ℕ
lines_of n zero = []
lines_of n (suc count) = lines_of n count ++ line_of n

-- A slot, with empty ones behind it that no call uses.
abbrev pub apart_of : InSlot → List InSlot
apart_of x = x ∷ replicate (SLOTS_PER_LANE - 1) None

-- Slots, each with empty ones behind it.
abbrev pub spaced : List InSlot → List InSlot
spaced [] = []
spaced (x ∷ xs) = apart_of x ++ spaced xs

module _ (about : BoardSizes) where
  -- The words of the lanes before any step: each lane is free and without packets.
  abbrev pub lane_words : List ℕ
  lane_words = lines_of (2 * (about.start + 0)) (about.lanes + about.outs)

  -- The words of the heads before any step.
  abbrev pub head_words : List ℕ
  head_words = lines_of about.start about.lanes

  -- The words of a board before any step: lanes, heads, an open gate with nobody inside, and
  -- settings.
  abbrev pub new_words : List ℕ
  new_words = ((lane_words ++ head_words) ++ lines_of 0 1) ++ about.settings

  -- The slot of the middle lane l before any step.
  abbrev pub new_middle : ℕ → InSlot
  new_middle l =
      Some (slot.Middle (new_lane about.limit about.room about.start (has about.limited l)))

  -- The slots of the middle lanes before any step.
  abbrev pub new_middles : List InSlot
  new_middles = map new_middle (range_with_len 0 about.lanes)

  -- The slots of the out lanes before any step.
  abbrev pub new_outs : List InSlot
  new_outs = replicate about.outs (Some (slot.Out (out_list [] about.room)))

  -- The slots of all lanes before any step.
  abbrev pub lane_slots : List InSlot
  lane_slots = new_middles ++ new_outs

  -- The slots of a board before any step.
  abbrev pub new_slots : List InSlot
  new_slots = spaced lane_slots
