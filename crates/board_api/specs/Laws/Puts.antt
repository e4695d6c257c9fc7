-- How the seats' own puts and the lists at the closing agree.
use Rattle.std.specs.Prelude.{◌≡◌, ◌⊎◌, ℕ, ◌<◌, List, Option, Some, None, length, slice_get}
use Rattle.steer_base.specs.Drops.{lane_drop_cause}
use Rattle.steer_base.specs.Lanes.{LaneLists}
use Rattle.steer_base.specs.declared.put.LaneDrop.{LaneDrop}
use Rattle.steer_base.specs.declared.put.Put.{Put}
use Rattle.backlog.specs.Offers.{AllExplained}
use Rattle.backlog.specs.Puts.{after_put, put_answer, put_count}
use Rattle.backlog.specs.Rising.{AreRising}
use Rattle.history.specs.Lists.{lane_at}
use Rattle.hop_rule.specs.Events.{sum_below}
use Rattle.hop_rule.specs.Fronts.{IsEarlier}
use Rattle.hop_rule.specs.declared.sizes.BoardSizes.{BoardSizes}
use Rattle.hop_rule.specs.declared.step.BoardStep.{BoardStep}
use Rattle.board_api.specs.Lists.{IsFrontOf, IsLaneOf, as_lane}
use Rattle.board_api.specs.OwnSteps.{Has, accepted_by, dropped_by, held_before, put_step}
use Rattle.board_api.specs.declared.lists.BoardLists.{BoardLists}

module _ (about : BoardSizes) (own : ℕ → List BoardStep) (lists : BoardLists) where
  -- A put by what its seat's own hold found: the lane had room and gave this answer, and what the
  -- put made of the lane is a front of what is left of it.
  pub record PutStands (q k l id : ℕ) (hash : Option ℕ) (answer : Put) : Type 0 where
    pub found : LaneLists
    pub finds : held_before (own q) k l ≡ Some found
    pub lane : IsLaneOf about l found
    pub small : id < about.room
    pub room : put_count found < about.room
    pub answers : answer ≡ put_answer found hash
    pub stands : IsFrontOf (after_put found id hash) (lane_at lists.lanes l)

  -- Each own put is in what is left of its lane, as `PutStands` says.
  abbrev pub PutsStand : Type 0
  PutsStand =
      (q k l id : ℕ) (hash : Option ℕ) (answer : Put) → Has (own q) k (put_step l id hash answer)
      → PutStands q k l id hash answer

  -- Of two different puts to one lane, one found what the other made of the lane or a later state,
  -- so neither has the other's position or drop number.
  abbrev pub PutsTakeTurns : Type 0
  PutsTakeTurns =
      (p q j k l x y : ℕ) (hash other : Option ℕ) (answer reply : Put)
      → Has (own p) j (put_step l x hash answer) → Has (own q) k (put_step l y other reply)
      → (a b : LaneLists) → held_before (own p) j l ≡ Some a → held_before (own q) k l ≡ Some b
      → ((p ≡ q) × (j ≡ k)) ⊎ (IsEarlier (after_put a x hash) b ⊎ IsEarlier (after_put b y other) a)

  -- Along one seat's list each put to a lane found what the previous one made of the lane or a
  -- later state, so its accepted packets are in the lane in the order of its puts.
  abbrev pub PutsKeepOrder : Type 0
  PutsKeepOrder =
      (q j k l x y : ℕ) (hash other : Option ℕ) (answer reply : Put) → j < k
      → Has (own q) j (put_step l x hash answer) → Has (own q) k (put_step l y other reply)
      → (a b : LaneLists) → held_before (own q) j l ≡ Some a → held_before (own q) k l ≡ Some b
      → IsEarlier (after_put a x hash) b

  -- The accepted packet at index j of a lane came by a put that found j accepted packets and no
  -- cause to drop it.
  pub record WasPut (l j id : ℕ) : Type 0 where
    pub seat : ℕ
    pub step : ℕ
    pub hash : Option ℕ
    pub answer : Put
    pub found : LaneLists
    pub does : Has (own seat) step (put_step l id hash answer)
    pub finds : held_before (own seat) step l ≡ Some found
    pub count : length found.accepted ≡ j
    pub accepts : lane_drop_cause found hash ≡ None

  -- The drop at index j of a lane came by a put that found j drops, and keeps the counts that it
  -- found and the cause.
  pub record WasDropped (l j : ℕ) (d : LaneDrop) : Type 0 where
    pub seat : ℕ
    pub step : ℕ
    pub hash : Option ℕ
    pub answer : Put
    pub found : LaneLists
    pub does : Has (own seat) step (put_step l d.id hash answer)
    pub finds : held_before (own seat) step l ≡ Some found
    pub count : length found.drops ≡ j
    pub accepted : d.accepted ≡ length found.accepted
    pub pulled : d.pulled ≡ found.pulled
    pub cause : lane_drop_cause found hash ≡ Some d.cause

  -- Each accepted packet that is left came by an own put of a seat.
  abbrev pub AcceptedWerePut : Type 0
  AcceptedWerePut =
      (l j id : ℕ) → slice_get (lane_at lists.lanes l).accepted j ≡ Some id → WasPut l j id

  -- Each drop that is left came by an own put of a seat.
  abbrev pub DropsWerePut : Type 0
  DropsWerePut =
      (l j : ℕ) (d : LaneDrop) → slice_get (lane_at lists.lanes l).drops j ≡ Some d
      → WasDropped l j d

  -- A lane accepted, and dropped, as many packets as all seats' own puts to it had that answer.
  pub record AreSums (l : ℕ) : Type 0 where
    pub accepted : length (lane_at lists.lanes l).accepted
        ≡ sum_below (λ q. length (accepted_by l (own q))) about.seats
    pub dropped : length (lane_at lists.lanes l).drops
        ≡ sum_below (λ q. length (dropped_by l (own q))) about.seats

  -- The counts of each lane are the sums over all seats' own puts, as `AreSums` says.
  abbrev pub CountsAreSums : Type 0
  CountsAreSums = (l : ℕ) → l < about.lanes → AreSums l

  -- If each packet is put with its own hash, each drop has the cause that its two counts and the
  -- offers before it give.
  abbrev pub DropsHaveCauses : Type 0
  DropsHaveCauses =
      (hash_of : ℕ → Option ℕ)
      → ((q k l id : ℕ) (hash : Option ℕ) (answer : Put)
      → Has (own q) k (put_step l id hash answer) → hash ≡ hash_of id)
      → (l : ℕ) → AllExplained hash_of (as_lane about lists l)

  -- Along the drops of a lane neither of their counts falls, and none is above that of the lane.
  abbrev pub DropsRise : Type 0
  DropsRise = (l : ℕ) → l < about.lanes → AreRising (as_lane about lists l)
