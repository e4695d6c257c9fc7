-- The place of a packet.
use Rattle.std.specs.Prelude.{ℕ, ◌≡◌, ◌<◌, ◌++◌, Bool, true, false, Option, Some, None, map}
use Rattle.std.specs.Prelude.{slice_index}
use Rattle.std.specs.List.{position}
use Rattle.steer_base.specs.Orders.{Apart}
use Rattle.history.specs.Finding.{is_in, is_among}
use Rattle.history.specs.Lists.{list_at, lane_at, drop_ids, accepted_lists, dropped_lists}
use Rattle.history.specs.Lists.{arrival_of, arrivals_at}
use Rattle.history.specs.declared.history.History.{History}
use Rattle.history.specs.declared.place.Place.{Place}
use Rattle.history.specs.declared.place.Place.TheVariants.{Ring, Poller, Backlog, Hand, Inbox}
use Rattle.history.specs.declared.place.Place.TheVariants.{Dropped}

-- whether a packet arrived
abbrev pub has_arrived : History → ℕ → Bool
has_arrived h x = is_in x (map (λ a. a.id) h.arrivals)

-- whether the poller of its receive queue took a packet
abbrev pub was_taken : History → ℕ → Bool
was_taken h x =
    let queue = (arrival_of h.arrivals x).queue in
    is_among (slice_index h.taken queue) x (arrivals_at h.arrivals queue)

-- a place by the first case that applies: the lane that dropped the packet, its inbox, the lane
-- that it was pulled from, the lane that accepted it, and whether it was taken
abbrev pub place_by : Option ℕ → Option ℕ → Option ℕ → Option ℕ → Bool → Place
place_by (Some c) inbox pulled accepted taken = Dropped c
place_by None (Some a) pulled accepted taken = Inbox a
place_by None None (Some c) accepted taken = Hand c
place_by None None None (Some c) taken = Backlog c
place_by None None None None true = Poller
place_by None None None None false = Ring

-- The place of a packet that arrived. If several lanes or inboxes have it, which never happens in a
-- regular history, it is at the one with the least number.
abbrev pub place_of : History → ℕ → Place
place_of h x =
    place_by
    (position (λ lane. is_in x (drop_ids lane)) h.lanes)
    (position (is_in x) h.inboxes)
    (position (λ lane. is_among lane.pulled x lane.accepted) h.lanes)
    (position (λ lane. is_in x lane.accepted) h.lanes)
    (was_taken h x)

-- every lane and inbox that has the packet has a number below 256
pub record IsInReach (h : History) (x : ℕ) : Type 0 where
  pub accepted : (c : ℕ) → is_in x (lane_at h.lanes c).accepted ≡ true → c < 256
  pub dropped : (c : ℕ) → is_in x (drop_ids (lane_at h.lanes c)) ≡ true → c < 256
  pub inbox : (a : ℕ) → is_in x (list_at h.inboxes a) ≡ true → a < 256

-- every packet in an inbox is among the delivered packets of the lane that accepted it
abbrev pub InboxesAreDelivered : History → Type 0
InboxesAreDelivered h =
    (a c x : ℕ) → is_in x (list_at h.inboxes a) ≡ true → is_in x (lane_at h.lanes c).accepted ≡ true
    → is_among (lane_at h.lanes c).delivered x (lane_at h.lanes c).accepted ≡ true

-- Each packet has one place: it is in at most one list of accepted or dropped packets, once; in at
-- most one inbox, once; and in an inbox only if it is among the delivered packets of a lane.
pub record AreInOnePlace (h : History) : Type 0 where
  pub lanes : Apart (accepted_lists h.lanes ++ dropped_lists h.lanes)
  pub inboxes : Apart h.inboxes
  pub delivered : (a x : ℕ) → is_in x (list_at h.inboxes a) ≡ true
      → (c : ℕ) × (is_among (lane_at h.lanes c).delivered x (lane_at h.lanes c).accepted ≡ true)
