-- What one order of a hop shows in its lists, without its moments.
use Rattle.std.specs.Prelude.{ℕ, ◌+◌, ◌<◌, ◌≤◌}
use Rattle.steer_base.specs.declared.put.LaneDrop.{LaneDrop}
use Rattle.headline.specs.HopOrders.{AcceptedAs, DeliveredAs, DroppedAs, HopLists, HopOrder}
use Rattle.headline.specs.HopOrders.{SawHead}

module _ (o : HopLists) where
  -- What one producer put to one lane is there in the order of its choices: the positions of its
  -- accepted packets rise, the counts of a drop lie between those positions, and the numbers of its
  -- drops rise.
  pub record OwnPutsAreInTurn : Type 0 where
    pub accepted : (p j k l m n : ℕ) → j < k → AcceptedAs o p j l m → AcceptedAs o p k l n → m < n
    pub before_drop : (p j k l n i : ℕ) (d : LaneDrop) → j < k
        → AcceptedAs o p j l n → DroppedAs o p k l i d → n < d.accepted
    pub after_drop : (p j k l n i : ℕ) (d : LaneDrop) → j < k
        → DroppedAs o p j l i d → AcceptedAs o p k l n → d.accepted ≤ n
    pub dropped : (p j k l m n : ℕ) (d e : LaneDrop) → j < k
        → DroppedAs o p j l m d → DroppedAs o p k l n e → m < n

  -- An out list has the packets of one lane in the order of that lane.
  abbrev pub OutsKeepLanes : Type 0
  OutsKeepLanes =
      (l m n out a b : ℕ) → m < n → DeliveredAs o l m out a → DeliveredAs o l n out b → a < b

  -- A head that a choice saw of a lane fits what its producer put there: it is at most the position
  -- of this packet and of each later one, and at most the pulled packets that a drop of this or of
  -- a later one counts; and no earlier drop counts more than one packet above it. The packets that
  -- it counts are in their out lists before this packet and before each later one of the producer,
  -- at whatever lane.
  pub record HeadsFitPuts : Type 0 where
    pub accepted : (p j k l count n : ℕ) → j ≤ k
        → SawHead o p j l count → AcceptedAs o p k l n → count ≤ n
    pub dropped : (p j k l count i : ℕ) (d : LaneDrop) → j ≤ k
        → SawHead o p j l count → DroppedAs o p k l i d → count ≤ d.pulled
    pub after_drop : (p j k l count i : ℕ) (d : LaneDrop) → j < k
        → DroppedAs o p j l i d → SawHead o p k l count → d.pulled ≤ count + 1
    pub passed : (p j k l count m to n out a b : ℕ) → j ≤ k → SawHead o p j l count → m < count
        → DeliveredAs o l m out a → AcceptedAs o p k to n → DeliveredAs o to n out b → a < b

  -- All this is so.
  pub record ListsAreOrdered : Type 0 where
    pub own_puts : OwnPutsAreInTurn
    pub outs : OutsKeepLanes
    pub heads : HeadsFitPuts

-- Where all that was done at a hop was done in one order, its lists show it.
abbrev pub OrdersShowInLists : Type 0
OrdersShowInLists = (o : HopLists) → HopOrder o → ListsAreOrdered o
