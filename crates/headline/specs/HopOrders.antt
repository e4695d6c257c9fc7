-- One order of all that was done at a hop, as the lists of a history show it. The lists keep values
-- without their moments; here moments are numbers, and of each moment the counts of the lanes and
-- of the out lists are known, that is, how far each list had grown.
use Rattle.std.specs.Prelude.{ℕ, suc, ◌≡◌, ◌+◌, ◌<◌, ◌≤◌, List, [], ◌∷◌, Some, length, slice_get}
use Rattle.history.specs.Lists.{lane_at, list_at}
use Rattle.history.specs.declared.history.History.{History}
use Rattle.history.specs.declared.lane_list.LaneList.{LaneList}
use Rattle.hop_model.specs.Hop.{chosen_at}
use Rattle.steer_base.specs.Counters.{distance}
use Rattle.steer_base.specs.declared.choice.Chosen.{Chosen}
use Rattle.steer_base.specs.declared.put.LaneDrop.{LaneDrop}
use Rattle.steer_model.specs.Good.Choices.{lane_seen}

-- ---- the lists of a hop

-- One hop of a history: the number at which its counters start, the choices of each producer, the
-- lanes to which these put packets, and the lists to which the lanes deliver.
pub record HopLists : Type 0 where
  pub start : ℕ
  pub choices : List (List Chosen)
  pub lanes : List LaneList
  pub outs : List (List ℕ)

-- The way in: receive queues put to processors, and these deliver to inboxes.
abbrev pub receive_lists : History → HopLists
receive_lists h =
    record { start = h.start; choices = h.choices; lanes = h.lanes; outs = h.inboxes }

-- The way out: applications put to transmit queues, and these deliver to the port.
abbrev pub transmit_lists : History → HopLists
transmit_lists h =
    record { start = h.start; choices = h.tx_choices; lanes = h.tx_lanes; outs = h.port ∷ [] }

module _ (o : HopLists) where
  -- Lane l accepted the packet of choice k of producer p, with n before it.
  pub record AcceptedAs (p k l n : ℕ) : Type 0 where
    pub chosen : Chosen
    pub choice : slice_get (list_at o.choices p) k ≡ Some chosen
    pub stands : slice_get (lane_at o.lanes l).accepted n ≡ Some chosen.id

  -- Lane l dropped the packet of choice k of producer p, with j drops before it.
  pub record DroppedAs (p k l j : ℕ) (d : LaneDrop) : Type 0 where
    pub chosen : Chosen
    pub choice : slice_get (list_at o.choices p) k ≡ Some chosen
    pub falls : slice_get (lane_at o.lanes l).drops j ≡ Some d
    pub same : d.id ≡ chosen.id

  -- Choice k of producer p saw a head of lane l that counts so many packets.
  pub record SawHead (p k l count : ℕ) : Type 0 where
    pub within : k < length (list_at o.choices p)
    pub number : ℕ
    pub sees : (chosen_at (list_at o.choices p) k).choice.head ≡ Some number
    pub lane : lane_seen (list_at o.choices p) k ≡ Some l
    pub counts : count ≡ distance number o.start

  -- The packet that lane l accepted with n before it is in an out list, with so many before it.
  pub record DeliveredAs (l n out place : ℕ) : Type 0 where
    pub id : ℕ
    pub stands : slice_get (lane_at o.lanes l).accepted n ≡ Some id
    pub lies : slice_get (list_at o.outs out) place ≡ Some id

-- ---- counts

-- How many packets each lane had accepted, dropped, pulled and retired before a moment, and how
-- many each out list had.
pub record HopCounts : Type 0 where
  pub accepted : ℕ → ℕ
  pub dropped : ℕ → ℕ
  pub pulled : ℕ → ℕ
  pub retired : ℕ → ℕ
  pub delivered : ℕ → ℕ

-- No count is less than before.
pub record NoneFalls (old new : HopCounts) : Type 0 where
  pub accepted : (l : ℕ) → old.accepted l ≤ new.accepted l
  pub dropped : (l : ℕ) → old.dropped l ≤ new.dropped l
  pub pulled : (l : ℕ) → old.pulled l ≤ new.pulled l
  pub retired : (l : ℕ) → old.retired l ≤ new.retired l
  pub delivered : (out : ℕ) → old.delivered out ≤ new.delivered out

-- Only accepted packets of a lane are pulled, and at most one is between its pull and its retire.
pub record IsServed (c : HopCounts) (l : ℕ) : Type 0 where
  pub retired : c.retired l ≤ c.pulled l
  pub one : c.pulled l ≤ c.retired l + 1
  pub pulled : c.pulled l ≤ c.accepted l

-- No count is over what the lists have in the end.
pub record AreWithin (o : HopLists) (c : HopCounts) : Type 0 where
  pub accepted : (l : ℕ) → l < length o.lanes
      → c.accepted l ≤ length (lane_at o.lanes l).accepted
  pub dropped : (l : ℕ) → l < length o.lanes → c.dropped l ≤ length (lane_at o.lanes l).drops
  pub delivered : (out : ℕ) → out < length o.outs → c.delivered out ≤ length (list_at o.outs out)

-- ---- what is done at a moment

module _ (at : ℕ → HopCounts) where
  -- At this moment lane l accepts a packet, with n before it.
  pub record AcceptsAt (moment l n : ℕ) : Type 0 where
    pub before : (at moment).accepted l ≡ n
    pub after : (at (suc moment)).accepted l ≡ suc n

  -- At this moment lane l drops a packet, with j drops before it, and the drop keeps the two counts
  -- of the moment.
  pub record DropsAt (moment l j : ℕ) (d : LaneDrop) : Type 0 where
    pub before : (at moment).dropped l ≡ j
    pub after : (at (suc moment)).dropped l ≡ suc j
    pub accepted : d.accepted ≡ (at moment).accepted l
    pub pulled : d.pulled ≡ (at moment).pulled l

  -- After the producer's earlier puts and before this one its poller looked at the head of lane l,
  -- when so many packets were retired there.
  pub record SeesAt (put : ℕ → ℕ) (k l count : ℕ) : Type 0 where
    pub look : ℕ
    pub after : (j : ℕ) → j < k → put j < look
    pub before : look < put k
    pub sees : count ≡ (at look).retired l

  -- At some moment the packet that lane l accepted with n before it was pulled as the last one and
  -- not retired, and an out list got it, with so many before it.
  pub record DeliversAt (l n out place : ℕ) : Type 0 where
    pub moment : ℕ
    pub pulled : (at moment).pulled l ≡ suc n
    pub retired : (at moment).retired l ≡ n
    pub before : (at moment).delivered out ≡ place
    pub after : (at (suc moment)).delivered out ≡ suc place

-- ---- the order

-- All that was done at a hop was done in one order: there are moments, and counts at each of them
-- that never fall. Each choice has the moment of its put, in the order of its producer's choices.
-- Each accepted packet, each drop, each head that a choice saw and each delivery is as the counts
-- of its moment say.
pub record HopOrder (o : HopLists) : Type 0 where
  pub at : ℕ → HopCounts
  pub rise : (m n : ℕ) → m ≤ n → NoneFalls (at m) (at n)
  pub served : (m l : ℕ) → IsServed (at m) l
  pub within : (m : ℕ) → AreWithin o (at m)
  pub put : (producer choice : ℕ) → ℕ
  pub in_turn : (p j k : ℕ) → j < k → k < length (list_at o.choices p) → put p j < put p k
  pub accepts : (p k l n : ℕ) → AcceptedAs o p k l n → AcceptsAt at (put p k) l n
  pub drops : (p k l j : ℕ) (d : LaneDrop) → DroppedAs o p k l j d → DropsAt at (put p k) l j d
  pub heads : (p k l count : ℕ) → SawHead o p k l count → SeesAt at (put p) k l count
  pub deliveries : (l n out place : ℕ) → DeliveredAs o l n out place → DeliversAt at l n out place
