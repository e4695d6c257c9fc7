-- How the seats' own holds, pulls, deliveries and retires and the lists at the closing agree.
use Rattle.std.specs.Prelude.{◌≡◌, ℕ, suc, ◌+◌, ◌-◌, ◌*◌, ◌<◌, ◌≤◌, List, Some, length, slice_get}
use Rattle.steer_base.specs.Lanes.{LaneLists}
use Rattle.history.specs.Lists.{lane_at, list_at}
use Rattle.history.specs.declared.lane_list.LaneList.{LaneList}
use Rattle.hop_rule.specs.Deliveries.{Delivery}
use Rattle.hop_rule.specs.Events.{sum_below}
use Rattle.hop_rule.specs.Fronts.{Front}
use Rattle.hop_rule.specs.Moments.{nth_step}
use Rattle.hop_rule.specs.OutLanes.{OutList}
use Rattle.hop_rule.specs.Sizes.{puller}
use Rattle.hop_rule.specs.declared.sizes.BoardSizes.{BoardSizes}
use Rattle.hop_rule.specs.declared.step.BoardStep.{BoardStep}
use Rattle.hop_rule.specs.declared.step.BoardStep.TheVariants.{Lane}
use Rattle.hop_rule.specs.declared.step.LaneStep.TheVariants.{Held, OutHeld, Given}
use Rattle.board_api.specs.Lists.{IsFrontOf, IsLaneOf}
use Rattle.board_api.specs.OwnSteps.{Has, delivered_by, given_to, pulled_by, retired_by}
use Rattle.board_api.specs.declared.lists.BoardLists.{BoardLists}

module _ (about : BoardSizes) (own : ℕ → List BoardStep) (lists : BoardLists) where
  -- ---- holds

  -- What a hold found of a middle lane is a front of what is left of it, and its word was twice the
  -- tail, which is not reduced modulo 2^32.
  pub record HoldFinds (l word : ℕ) (found : LaneLists) : Type 0 where
    pub lane : IsLaneOf about l found
    pub front : IsFrontOf found (lane_at lists.lanes l)
    pub tail : word ≡ 2 * (about.start + length found.accepted)

  -- What a hold found of an out lane is a front of what is left of it, and its word was twice the
  -- tail, which is not reduced modulo 2^32.
  pub record OutHoldFinds (o word : ℕ) (found : OutList) : Type 0 where
    pub within : o < about.outs
    pub room : found.room ≡ about.room
    pub front : Front found.items (list_at lists.outs o)
    pub tail : word ≡ 2 * (about.start + length found.items)

  -- Each own hold found a front of what is left of its lane, as `HoldFinds` and `OutHoldFinds` say.
  pub record HoldsFindFronts : Type 0 where
    pub middle : (q k l word : ℕ) (found : LaneLists)
        → Has (own q) k (Lane (Held l word found)) → HoldFinds l word found
    pub out : (q k o word : ℕ) (found : OutList)
        → Has (own q) k (Lane (OutHeld o word found)) → OutHoldFinds o word found

  -- ---- the one seat that serves a lane

  -- What was pulled, delivered and retired of a lane are the steps of the seat that pulls there:
  -- the n-th pull and the n-th delivery are of the n-th accepted packet, along the deliveries to
  -- one out lane the places rise, and the n-th retire found the head after n.
  pub record IsServedByOne (l : ℕ) : Type 0 where
    pub pulled : (lane_at lists.lanes l).pulled ≡ length (pulled_by l (own (puller about l)))
    pub delivered : (lane_at lists.lanes l).delivered
        ≡ length (delivered_by l (own (puller about l)))
    pub retired : (lane_at lists.lanes l).retired ≡ length (retired_by l (own (puller about l)))
    pub nth_pull : (n id : ℕ) → nth_step (pulled_by l (own (puller about l))) n ≡ Some id
        → slice_get (lane_at lists.lanes l).accepted n ≡ Some id
    pub nth_delivery : (n : ℕ) (g : Delivery)
        → nth_step (delivered_by l (own (puller about l))) n ≡ Some g
        → slice_get (lane_at lists.lanes l).accepted n ≡ Some g.id
    pub in_order : (m n : ℕ) (g h : Delivery) → m < n
        → nth_step (delivered_by l (own (puller about l))) m ≡ Some g
        → nth_step (delivered_by l (own (puller about l))) n ≡ Some h → g.to ≡ h.to
        → g.place < h.place
    pub nth_retire : (n word : ℕ) → nth_step (retired_by l (own (puller about l))) n ≡ Some word
        → word ≡ about.start + n

  -- Each lane is served by the one seat that pulls there, as `IsServedByOne` says.
  abbrev pub LanesAreServedByOne : Type 0
  LanesAreServedByOne = (l : ℕ) → l < about.lanes → IsServedByOne l

  -- Of the accepted packets of a lane some were pulled, of these some delivered, and of these some
  -- retired, and all puts fit the room.
  pub record IsInTurn (lane : LaneList) : Type 0 where
    pub retired : lane.retired ≤ lane.delivered
    pub delivered : lane.delivered ≤ lane.pulled
    pub pulled : lane.pulled ≤ length lane.accepted
    pub room : length lane.accepted + length lane.drops ≤ about.room

  -- The packets of each lane are accepted, pulled, delivered and retired in turn, as `IsInTurn`
  -- says.
  abbrev pub LanesAreInTurn : Type 0
  LanesAreInTurn = (l : ℕ) → IsInTurn (lane_at lists.lanes l)

  -- ---- deliveries and places

  -- A delivery is by the seat that pulls there, and its packet is at its place of the out lane.
  pub record GivesPlace (q o from id place : ℕ) : Type 0 where
    pub by_puller : puller about from ≡ q
    pub from_one : 0 < place
    pub stands : slice_get (list_at lists.outs o) (place - 1) ≡ Some id

  -- The packet at index j of the out lane o came by an own delivery.
  pub record WasGiven (o j id : ℕ) : Type 0 where
    pub seat : ℕ
    pub step : ℕ
    pub from : ℕ
    pub does : Has (own seat) step (Lane (Given o from id (suc j)))

  -- Each own delivery is one place of an out lane, and each place is one own delivery.
  pub record DeliveriesHavePlaces : Type 0 where
    pub stand : (q k o from id place : ℕ) → Has (own q) k (Lane (Given o from id place))
        → GivesPlace q o from id place
    pub given : (o j id : ℕ) → slice_get (list_at lists.outs o) j ≡ Some id → WasGiven o j id
    pub apart : (p q j k o from to x y place : ℕ)
        → Has (own p) j (Lane (Given o from x place)) → Has (own q) k (Lane (Given o to y place))
        → (p ≡ q) × (j ≡ k)

  -- ---- counts

  -- As many lanes and out lanes are left as the board has.
  pub record ListsAreCounted : Type 0 where
    pub lanes : length lists.lanes ≡ about.lanes
    pub outs : length lists.outs ≡ about.outs

  -- An out lane has as many packets as all seats delivered to it.
  abbrev pub OutsAreSums : Type 0
  OutsAreSums =
      (o : ℕ) → o < about.outs
      → length (list_at lists.outs o) ≡ sum_below (λ q. length (given_to o (own q))) about.seats
