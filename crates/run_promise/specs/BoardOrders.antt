-- The one order of a board's steps, by counts and moments, for the seats' own lists and the lists
-- that the board leaves.
use Rattle.std.specs.Prelude.{◌≡◌, ℕ, suc, ◌+◌, ◌-◌, ◌/◌, ◌^◌, ◌<◌, ◌≤◌, List, Option, Some, None}
use Rattle.std.specs.Prelude.{length, slice_get, take}
use Rattle.history.specs.Lists.{lane_at, list_at}
use Rattle.history.specs.declared.lane_list.LaneList.{LaneList}
use Rattle.steer_base.specs.Drops.{drop_cause, offers_of}
use Rattle.steer_base.specs.Sets.{has}
use Rattle.steer_base.specs.declared.put.LaneDrop.{LaneDrop}
use Rattle.steer_base.specs.declared.put.Put.{Put}
use Rattle.backlog.specs.Offers.{buckets_of}
use Rattle.hop_rule.specs.Boards.{gate_steps}
use Rattle.hop_rule.specs.Gates as gates
use Rattle.hop_rule.specs.Sizes.{closer}
use Rattle.hop_rule.specs.declared.sizes.BoardSizes.{BoardSizes}
use Rattle.hop_rule.specs.declared.step.BoardStep.{BoardStep}
use Rattle.hop_rule.specs.declared.step.BoardStep.TheVariants.{Gate, Lane, Weighed}
use Rattle.hop_rule.specs.declared.step.GateStep.TheVariants.{Entered, Left}
use Rattle.hop_rule.specs.declared.step.LaneStep.TheVariants.{Given}
use Rattle.board_api.specs.Laws.Puts.{WasDropped, WasPut}
use Rattle.board_api.specs.OwnSteps.{Has, put_step}
use Rattle.board_api.specs.declared.lists.BoardLists.{BoardLists}
use Rattle.headline.specs.HopOrders.{AcceptsAt, DeliversAt, DropsAt, HopCounts, IsServed, NoneFalls}

-- A packet is the one that a lane accepted with so many before it, and at some moment the lane
-- delivers it.
pub record GivesAt (lists : BoardLists) (at : ℕ → HopCounts) (from out id place : ℕ)
    : Type 0 where
  pub index : ℕ
  pub stands : slice_get (lane_at lists.lanes from).accepted index ≡ Some id
  pub delivers : DeliversAt at from index out place

-- Each packet is put with its own hash.
abbrev pub PutsHaveHashes : (ℕ → List BoardStep) → (ℕ → Option ℕ) → Type 0
PutsHaveHashes own hash_of =
    (q k l id : ℕ) (hash : Option ℕ) (answer : Put) → Has (own q) k (put_step l id hash answer)
    → hash ≡ hash_of id

-- When these were the counts, the lane l had no cause to drop a packet.
abbrev pub LaneHasNoCause : BoardSizes → (ℕ → Option ℕ) → (lane : ℕ) → LaneList → HopCounts
    → (packet : ℕ) → Type 0
LaneHasNoCause about hash_of l lane now id =
    drop_cause (has about.limited l) about.limit (now.accepted l - now.pulled l)
    (buckets_of hash_of
    (offers_of (take (now.accepted l) lane.accepted) (take (now.dropped l) lane.drops)))
    (hash_of id)
    ≡ None

-- Each own step has its moment, in the order of its seat's list, and the counts at each moment are
-- those of the board then: each put, each load of a head and each delivery is as they say. The
-- number of a visit is that of the gate's openings before each put in it.
pub record BoardOrder (about : BoardSizes) (own : ℕ → List BoardStep) (lists : BoardLists)
    : Type 0 where
  pub at : ℕ → HopCounts
  pub rise : (m n : ℕ) → m ≤ n → NoneFalls (at m) (at n)
  pub served : (m l : ℕ) → IsServed (at m) l
  pub room : (m l : ℕ) → (at m).accepted l ≤ (at m).pulled l + about.limit
  pub accepted_within : (m l : ℕ) → l < about.lanes
      → (at m).accepted l ≤ length (lane_at lists.lanes l).accepted
  pub dropped_within : (m l : ℕ) → l < about.lanes
      → (at m).dropped l ≤ length (lane_at lists.lanes l).drops
  pub delivered_within : (m out : ℕ) → out < about.outs
      → (at m).delivered out ≤ length (list_at lists.outs out)
  pub moment : (seat step : ℕ) → ℕ
  pub in_turn : (q j k : ℕ) (d : BoardStep) → j < k → Has (own q) k d → moment q j < moment q k
  pub accepts : (l n id : ℕ) (u : WasPut about own lists l n id)
      → AcceptsAt at (moment u.seat u.step) l n
  pub drops : (l j : ℕ) (d : LaneDrop) (u : WasDropped about own lists l j d)
      → DropsAt at (moment u.seat u.step) l j d
  pub due : (hash_of : ℕ → Option ℕ) → PutsHaveHashes own hash_of
      → (l n id : ℕ) (u : WasPut about own lists l n id)
      → LaneHasNoCause about hash_of l (lane_at lists.lanes l) (at (moment u.seat u.step)) id
  pub loads : (q k l word : ℕ) → Has (own q) k (Weighed l word)
      → word ≡ about.start + (at (moment q k)).retired l
  pub gives : (q k out from id place : ℕ) → Has (own q) k (Lane (Given out from id (suc place)))
      → GivesAt lists at from out id place
  pub openings : ℕ → ℕ
  pub openings_rise : (m n : ℕ) → m ≤ n → openings m ≤ openings n
  pub openings_within : (m : ℕ) → openings m ≤ gates.openings (gate_steps (own (closer about)))
  pub visits : (q entry put l id word : ℕ) (hash : Option ℕ) (answer : Put) → entry < put
      → Has (own q) entry (Gate (Entered word)) → Has (own q) put (put_step l id hash answer)
      → ((k : ℕ) → entry < k → k < put → Has (own q) k (Gate Left) → ⊥)
      → word / 2 ^ 32 ≡ openings (moment q put)
