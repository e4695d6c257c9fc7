-- What a seat has delivered and not yet retired is in its hand.
use Rattle.std.specs.Prelude.{◌≡◌, ℕ, ◌+◌, ◌<◌, List}
use Rattle.hop_rule.specs.Boards.{lane_steps}
use Rattle.hop_rule.specs.Lanes.{Phase, gave, has_pulled, idle, phase}
use Rattle.hop_rule.specs.Sizes.{puller}
use Rattle.hop_rule.specs.declared.sizes.BoardSizes.{BoardSizes}
use Rattle.hop_rule.specs.declared.step.BoardStep.{BoardStep}
use Rattle.board_api.specs.declared.lists.BoardLists.{BoardLists}
use Rattle.run_coupling.specs.Laws.OneCount.{DeliveriesAreRetired, delivered_count}
use Rattle.run_coupling.specs.Coupling.Ends.{retired_count}

-- The packets in a hand that were delivered and are not retired: one or none.
abbrev pub unretired : Phase → ℕ
unretired idle = 0
unretired (has_pulled id) = 0
unretired gave = 1

module _ (about : BoardSizes) (own : ℕ → List BoardStep) where
  -- The hand of the lane's seat for the lane, by its own list.
  abbrev pub hand_for : ℕ → Phase
  hand_for l = phase l (lane_steps (own (puller about l)))

  -- No seat has a packet in hand of a lane that it serves.
  abbrev pub HandsAreEmpty : Type 0
  HandsAreEmpty = (l : ℕ) → l < about.lanes → hand_for l ≡ idle

  module _ (lists : BoardLists) where
    -- Of each lane its seat has delivered what it retired and what is in its hand unretired.
    abbrev pub DeliveriesAreCounted : Type 0
    DeliveriesAreCounted =
        (l : ℕ) → l < about.lanes
        → delivered_count about own l ≡ retired_count about own l + unretired (hand_for l)

    -- If all hands are empty, each delivery is retired.
    abbrev pub EmptyHandsRetired : Type 0
    EmptyHandsRetired = HandsAreEmpty → DeliveriesAreRetired about own
