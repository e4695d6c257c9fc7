-- What a lawful order of steps shows of its puts, drops and deliveries. A put, a packet's place and
-- its delivery are identified by lane and position: nothing here prevents a second put of a packet.
use Rattle.std.specs.Prelude.{◌≡◌, ℕ, suc, ◌+◌, ◌-◌, ◌<◌, ◌≤◌, List, [], ◌∷◌, ◌++◌, Option}
use Rattle.std.specs.Prelude.{Some, None, length, slice_get}
use Rattle.steer_base.specs.Drops.{bucket_of, lane_drop_cause}
use Rattle.steer_base.specs.Lanes.{LaneLists}
use Rattle.steer_base.specs.declared.put.LaneDrop.{LaneDrop}
use Rattle.steer_base.specs.declared.put.Put.{Put}
use Rattle.backlog.specs.Offers.{AllExplained, AreOffers}
use Rattle.backlog.specs.Puts.{after_put, put_answer, put_count}
use Rattle.backlog.specs.Rising.{AreRising}
use Rattle.linearization.specs.Orders.{StepBy}
use Rattle.hop_rule.specs.Boards.{IsLawful, lane_at, lanes_of, out, retired, visit_of}
use Rattle.hop_rule.specs.Deliveries.{Delivery, delivered_from}
use Rattle.hop_rule.specs.Fronts.{IsEarlier}
use Rattle.hop_rule.specs.Gates.{inside}
use Rattle.hop_rule.specs.LaneLaws.{HoldsByOwnSteps}
use Rattle.hop_rule.specs.Moments.{IsStep, nth_step, past}
use Rattle.hop_rule.specs.Sizes.{puller}
use Rattle.hop_rule.specs.declared.sizes.BoardSizes.{BoardSizes}
use Rattle.hop_rule.specs.declared.step.BoardStep.{BoardStep}
use Rattle.hop_rule.specs.declared.step.BoardStep.TheVariants.{Lane, Weighed}
use Rattle.hop_rule.specs.declared.step.Change.TheVariants.{Offered}
use Rattle.hop_rule.specs.declared.step.LaneStep.TheVariants.{Freed, Given}

module _ (about : BoardSizes) (order : List (StepBy BoardStep)) where
  -- The middle lane l as it was at the moment n.
  abbrev pub lane_then : ℕ → ℕ → LaneLists
  lane_then n l = lane_at about (past n order) l

  -- ---- puts

  -- At the moment n the seat q puts this packet to the lane l, with this hash and answer.
  abbrev pub IsPut : ℕ → ℕ → ℕ → ℕ → Option ℕ → Put → Type 0
  IsPut n q l id hash answer = IsStep order n q (Lane (Freed l (Offered id hash answer)))

  -- A put at the moment n: the seat is inside and holds the lane as it is, the lane has room, the
  -- answer is the lane's own, and what the put made of the lane is an earlier state of it.
  pub record PutsRight (n q l id : ℕ) (hash : Option ℕ) (answer : Put) : Type 0 where
    pub inside : visit_of about q (past n order) ≡ inside
    pub holds : HoldsByOwnSteps (past n order) l q (lane_then n l)
    pub id_fits : id < about.room
    pub room : put_count (lane_then n l) < about.room
    pub answers : answer ≡ put_answer (lane_then n l) hash
    pub stands : IsEarlier (after_put (lane_then n l) id hash) (lane_at about order l)

  -- The accepted packet at index j of the lane l, from 0, came by this put.
  pub record WasPut (l j id : ℕ) : Type 0 where
    pub moment : ℕ
    pub seat : ℕ
    pub hash : Option ℕ
    pub answer : Put
    pub is : IsPut moment seat l id hash answer
    pub found : length (lane_then moment l).accepted ≡ j
    pub cause : lane_drop_cause (lane_then moment l) hash ≡ None

  -- The drop at index j of the lane l, from 0, came by this put: it keeps the counts that the put
  -- found, and the cause that the lane at that moment gives.
  pub record WasDropped (l j : ℕ) (d : LaneDrop) : Type 0 where
    pub moment : ℕ
    pub seat : ℕ
    pub hash : Option ℕ
    pub answer : Put
    pub is : IsPut moment seat l d.id hash answer
    pub found : length (lane_then moment l).drops ≡ j
    pub accepted : d.accepted ≡ length (lane_then moment l).accepted
    pub pulled : d.pulled ≡ (lane_then moment l).pulled
    pub cause : lane_drop_cause (lane_then moment l) hash ≡ Some d.cause

  -- ---- deliveries

  -- At the moment n the seat q delivers this packet from a middle lane to the out lane o, at this
  -- place.
  abbrev pub IsDelivery : ℕ → ℕ → ℕ → ℕ → ℕ → ℕ → Type 0
  IsDelivery n q o from id place = IsStep order n q (Lane (Given o from id place))

  -- A delivery is by the seat that pulls there, of the next packet that the lane accepted, and its
  -- packet is at its place of the out lane.
  pub record GivesRight (n q o from id place : ℕ) : Type 0 where
    pub by_puller : q ≡ puller about from
    pub next : slice_get (lane_at about order from).accepted
        (length (delivered_from from (lanes_of (past n order)))) ≡ Some id
    pub place_from_one : 0 < place
    pub stands : slice_get (out about order o) (place - 1) ≡ Some id

  -- The packet at index j of the out lane o, from 0, came by this delivery.
  pub record WasGiven (o j id : ℕ) : Type 0 where
    pub moment : ℕ
    pub seat : ℕ
    pub from : ℕ
    pub is : IsDelivery moment seat o from id (suc j)

-- ---- each position is one put, each drop one dropped put, each member of an out lane one delivery

-- In each lawful order each put is right, as `PutsRight` says.
abbrev pub EachPutIsRight : Type 0
EachPutIsRight =
    (about : BoardSizes) (order : List (StepBy BoardStep)) → IsLawful about order
    → (n q l id : ℕ) (hash : Option ℕ) (answer : Put) → IsPut about order n q l id hash answer
    → PutsRight about order n q l id hash answer

-- In each lawful order each accepted packet came by a put.
abbrev pub EachAcceptedWasPut : Type 0
EachAcceptedWasPut =
    (about : BoardSizes) (order : List (StepBy BoardStep)) → IsLawful about order
    → (l j id : ℕ) → slice_get (lane_at about order l).accepted j ≡ Some id
    → WasPut about order l j id

-- In each lawful order each drop came by a put.
abbrev pub EachDropWasPut : Type 0
EachDropWasPut =
    (about : BoardSizes) (order : List (StepBy BoardStep)) → IsLawful about order
    → (l j : ℕ) (d : LaneDrop) → slice_get (lane_at about order l).drops j ≡ Some d
    → WasDropped about order l j d

-- Of two accepted puts to a lane the later one found more accepted packets, so that no position is
-- that of two puts, and along one seat's list the positions rise.
abbrev pub PositionsRise : Type 0
PositionsRise =
    (about : BoardSizes) (order : List (StepBy BoardStep)) → IsLawful about order
    → (m n p q l x y : ℕ) (hash other : Option ℕ) (answer reply : Put) → m < n
    → IsPut about order m p l x hash answer → IsPut about order n q l y other reply
    → lane_drop_cause (lane_then about order m l) hash ≡ None
    → length (lane_then about order m l).accepted < length (lane_then about order n l).accepted

-- In each lawful order each delivery is right, as `GivesRight` says.
abbrev pub EachDeliveryIsRight : Type 0
EachDeliveryIsRight =
    (about : BoardSizes) (order : List (StepBy BoardStep)) → IsLawful about order
    → (n q o from id place : ℕ) → IsDelivery about order n q o from id place
    → GivesRight about order n q o from id place

-- In each lawful order each packet of an out lane came by a delivery.
abbrev pub EachMemberWasGiven : Type 0
EachMemberWasGiven =
    (about : BoardSizes) (order : List (StepBy BoardStep)) → IsLawful about order
    → (o j id : ℕ) → slice_get (out about order o) j ≡ Some id → WasGiven about order o j id

-- Of two deliveries to an out lane the later one has the higher place.
abbrev pub PlacesRise : Type 0
PlacesRise =
    (about : BoardSizes) (order : List (StepBy BoardStep)) → IsLawful about order
    → (m n p q o k l x y i j : ℕ) → m < n → IsDelivery about order m p o k x i
    → IsDelivery about order n q o l y j → i < j

-- ---- drops

-- The offers of a lane are the buckets of its puts in their order: each put adds that of its hash,
-- and nothing else adds one.
abbrev pub OffersArePuts : Type 0
OffersArePuts =
    (about : BoardSizes) (order : List (StepBy BoardStep)) → IsLawful about order
    → (n q l id : ℕ) (hash : Option ℕ) (answer : Put) → IsPut about order n q l id hash answer
    → (lane_then about order (suc n) l).offers
    ≡ (lane_then about order n l).offers ++ bucket_of hash ∷ []

-- Along the drops of a lane neither of the two counts falls, and none is above that of the lane.
abbrev pub DropCountsRise : Type 0
DropCountsRise =
    (about : BoardSizes) (order : List (StepBy BoardStep)) → IsLawful about order
    → (l : ℕ) → AreRising (lane_at about order l)

-- If each packet is put with its own hash, the offers of each lane are the buckets of its accepted
-- and dropped packets in the order of their puts, and each drop has the cause that its two counts
-- and the offers before it give.
abbrev pub DropsAreExplained : Type 0
DropsAreExplained =
    (about : BoardSizes) (order : List (StepBy BoardStep)) → IsLawful about order
    → (hash_of : ℕ → Option ℕ)
    → ((n q l id : ℕ) (hash : Option ℕ) (answer : Put) → IsPut about order n q l id hash answer
    → hash ≡ hash_of id)
    → (l : ℕ)
    → AreOffers hash_of (lane_at about order l) × AllExplained hash_of (lane_at about order l)

-- ---- the order of deliveries

-- The n-th delivery of a lane is of its n-th accepted packet.
abbrev pub DeliveredAsAccepted : Type 0
DeliveredAsAccepted =
    (about : BoardSizes) (order : List (StepBy BoardStep)) → IsLawful about order
    → (l k : ℕ) (g : Delivery) → nth_step (delivered_from l (lanes_of order)) k ≡ Some g
    → slice_get (lane_at about order l).accepted k ≡ Some g.id

-- Of two deliveries of a lane to one out lane the later one has the higher place.
abbrev pub DeliveredInOrder : Type 0
DeliveredInOrder =
    (about : BoardSizes) (order : List (StepBy BoardStep)) → IsLawful about order
    → (l j k : ℕ) (g h : Delivery) → j < k → nth_step (delivered_from l (lanes_of order)) j ≡ Some g
    → nth_step (delivered_from l (lanes_of order)) k ≡ Some h → g.to ≡ h.to → g.place < h.place

-- ---- what a loaded head implies

-- The word of a head that was loaded counts the retires up to then, and there are no fewer at the
-- end.
abbrev pub LoadedHeadsAreRetires : Type 0
LoadedHeadsAreRetires =
    (about : BoardSizes) (order : List (StepBy BoardStep)) → IsLawful about order
    → (n q l w : ℕ) → IsStep order n q (Weighed l w)
    → (w ≡ about.start + retired about (past n order) l)
    × (retired about (past n order) l ≤ retired about order l)

-- Each packet that a loaded head counts was delivered, and is in its out lane below each packet
-- that was put to any lane after the load and went to the same out lane.
abbrev pub LoadedHeadsArePassed : Type 0
LoadedHeadsArePassed =
    (about : BoardSizes) (order : List (StepBy BoardStep)) → IsLawful about order
    → (n q l w k i : ℕ) → IsStep order n q (Weighed l w) → w ≡ about.start + k → i < k
    → (g : Delivery) × (nth_step (delivered_from l (lanes_of order)) i ≡ Some g)
    × ((m p to id j : ℕ) (hash : Option ℕ) (answer : Put) (h : Delivery) → n < m
    → IsPut about order m p to id hash answer
    → length (lane_then about order m to).accepted ≡ j
    → nth_step (delivered_from to (lanes_of order)) j ≡ Some h → g.to ≡ h.to → g.place < h.place)
