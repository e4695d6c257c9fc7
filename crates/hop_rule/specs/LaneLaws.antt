-- What a lawful order of steps shows of its lanes and their heads.
use Rattle.std.specs.Prelude.{◌≡◌, ◌≢◌, ℕ, ◌+◌, ◌*◌, ◌%◌, ◌<◌, ◌≤◌, List, Some, None, length}
use Rattle.steer_base.specs.Lanes.{LaneLists}
use Rattle.linearization.specs.Orders.{StepBy}
use Rattle.hop_rule.specs.Boards.{IsLawful, full, lane_at, lane_steps, lanes_of, out, out_slot}
use Rattle.hop_rule.specs.Boards.{own_state, retired, slot_state}
use Rattle.hop_rule.specs.Deliveries.{delivered_from}
use Rattle.hop_rule.specs.Lanes.{holding, lane_word, out_holding, out_word, head_word}
use Rattle.hop_rule.specs.Moments.{IsStep, past}
use Rattle.hop_rule.specs.OutLanes.{OutList}
use Rattle.hop_rule.specs.Owns.{own_of}
use Rattle.hop_rule.specs.Sizes.{puller}
use Rattle.hop_rule.specs.declared.sizes.BoardSizes.{BoardSizes}
use Rattle.hop_rule.specs.declared.step.BoardStep.{BoardStep}
use Rattle.hop_rule.specs.declared.step.BoardStep.TheVariants.{Lane}
use Rattle.hop_rule.specs.declared.step.LaneStep.TheVariants.{Retired}

-- ---- who holds a lane

-- The seat q holds the middle lane l by its own steps, in which it found x there.
abbrev pub HoldsByOwnSteps : List (StepBy BoardStep) → ℕ → ℕ → LaneLists → Type 0
HoldsByOwnSteps order l q x = holding l (lane_steps (own_of order q)) ≡ Some x

-- The seat q holds the out lane o by its own steps, in which it found x there.
abbrev pub OutHolds : List (StepBy BoardStep) → ℕ → ℕ → OutList → Type 0
OutHolds order o q x = out_holding o (lane_steps (own_of order q)) ≡ Some x

-- A middle lane is held by at most one seat. While one holds it, the lane is as that seat found it,
-- its word is marked, and its slot is not full but as that seat's steps say; while none does, its
-- word is not marked and the lane is in its slot.
pub record IsHeldByOne (about : BoardSizes) (order : List (StepBy BoardStep)) (l : ℕ)
    : Type 0 where
  pub one : (p q : ℕ) (x y : LaneLists) → HoldsByOwnSteps order l p x → HoldsByOwnSteps order l q y
      → p ≡ q
  pub found : (q : ℕ) (x : LaneLists) → HoldsByOwnSteps order l q x → lane_at about order l ≡ x
  pub marked : (q : ℕ) (x : LaneLists) → HoldsByOwnSteps order l q x
      → lane_word about l (lanes_of order)
      ≡ 2 * (about.start + length (lane_at about order l).accepted) + 1
  pub out : (q : ℕ) (x : LaneLists) → HoldsByOwnSteps order l q x
      → (slot_state about l order ≢ full)
      × (slot_state about l order ≡ own_state about l (own_of order q))
  pub unmarked : ((q : ℕ) → holding l (lane_steps (own_of order q)) ≡ None)
      → lane_word about l (lanes_of order)
      ≡ 2 * (about.start + length (lane_at about order l).accepted)
  pub home : ((q : ℕ) → holding l (lane_steps (own_of order q)) ≡ None)
      → slot_state about l order ≡ full
  pub some_holder : lane_word about l (lanes_of order) % 2 ≡ 1
      → (q : ℕ) × (x : LaneLists) × HoldsByOwnSteps order l q x

-- In each lawful order each middle lane is held by at most one seat, as `IsHeldByOne` says.
abbrev pub MiddleLanesAreHeldByOne : Type 0
MiddleLanesAreHeldByOne =
    (about : BoardSizes) (order : List (StepBy BoardStep)) → IsLawful about order
    → (l : ℕ) → l < about.lanes → IsHeldByOne about order l

-- An out lane is held by at most one seat. While one holds it, the lane is as that seat found it,
-- its word is marked, and its slot is not full but as that seat's steps say; while none does, its
-- word is not marked and the lane is in its slot.
pub record IsOutHeldByOne (about : BoardSizes) (order : List (StepBy BoardStep)) (o : ℕ)
    : Type 0 where
  pub one : (p q : ℕ) (x y : OutList) → OutHolds order o p x → OutHolds order o q y → p ≡ q
  pub found : (q : ℕ) (x : OutList) → OutHolds order o q x → out about order o ≡ x.items
  pub marked : (q : ℕ) (x : OutList) → OutHolds order o q x
      → out_word about o (lanes_of order) ≡ 2 * (about.start + length (out about order o)) + 1
  pub away : (q : ℕ) (x : OutList) → OutHolds order o q x
      → (slot_state about (out_slot about o) order ≢ full)
      × (slot_state about (out_slot about o) order
      ≡ own_state about (out_slot about o) (own_of order q))
  pub unmarked : ((q : ℕ) → out_holding o (lane_steps (own_of order q)) ≡ None)
      → out_word about o (lanes_of order) ≡ 2 * (about.start + length (out about order o))
  pub home : ((q : ℕ) → out_holding o (lane_steps (own_of order q)) ≡ None)
      → slot_state about (out_slot about o) order ≡ full
  pub some_holder : out_word about o (lanes_of order) % 2 ≡ 1
      → (q : ℕ) × (x : OutList) × OutHolds order o q x

-- In each lawful order each out lane is held by at most one seat, as `IsOutHeldByOne` says.
abbrev pub OutLanesAreHeldByOne : Type 0
OutLanesAreHeldByOne =
    (about : BoardSizes) (order : List (StepBy BoardStep)) → IsLawful about order
    → (o : ℕ) → IsOutHeldByOne about order o

-- ---- heads

-- Of the accepted packets of a lane some were pulled, of these some delivered, and of these some
-- retired; at most one is between its pull and its retire, and all puts fit the room.
pub record AreInTurn (about : BoardSizes) (order : List (StepBy BoardStep)) (l : ℕ)
    : Type 0 where
  pub of_delivered : retired about order l ≤ length (delivered_from l (lanes_of order))
  pub of_pulled : length (delivered_from l (lanes_of order)) ≤ (lane_at about order l).pulled
  pub one_at_most : (lane_at about order l).pulled ≤ retired about order l + 1
  pub of_accepted : (lane_at about order l).pulled ≤ length (lane_at about order l).accepted
  pub fits : length (lane_at about order l).accepted + length (lane_at about order l).drops
      ≤ about.room

-- In each lawful order the packets of each lane are accepted, pulled, delivered and retired in
-- turn, as `AreInTurn` says.
abbrev pub HeadsFollowDeliveries : Type 0
HeadsFollowDeliveries =
    (about : BoardSizes) (order : List (StepBy BoardStep)) → IsLawful about order
    → (l : ℕ) → AreInTurn about order l

-- A step that raises the head of a lane is by the seat that pulls there, found the current word of
-- the head, and came when one more packet was delivered than retired.
pub record RetiresOne (about : BoardSizes) (order : List (StepBy BoardStep)) (n q l w : ℕ)
    : Type 0 where
  pub by_puller : q ≡ puller about l
  pub word : w ≡ head_word about l (lanes_of (past n order))
  pub delivered : retired about (past n order) l < length
      (delivered_from l (lanes_of (past n order)))

-- In each lawful order each step that raises a head follows a delivery, as `RetiresOne` says.
abbrev pub EachRetireFollows : Type 0
EachRetireFollows =
    (about : BoardSizes) (order : List (StepBy BoardStep)) → IsLawful about order
    → (n q l w : ℕ) → IsStep order n q (Lane (Retired l w)) → RetiresOne about order n q l w
