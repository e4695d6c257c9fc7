-- A regular history has the shape and the short lists that are tested, and its queues are polled as
-- is tested.
use Rattle.std.proofs.Common.{ℕ, ◌+◌, ◌≤◌, ◌<◌, ◌≡◌, true, List, [], map, length, ap, ◌∙◌, sym}
use Rattle.std.proofs.Common.{arith, get_or, subst}
use Rattle.std.specs.Prelude.{◌==◌, ◌&&◌, nat_le, slice_index}
use Rattle.std.proofs.lemmas.Bool.{and_from, eq-eqb, le-leb}
use Rattle.std.proofs.lemmas.List.{get_or-map, length-map}
use Rattle.std.proofs.lemmas.List.FromFn.{get_or-range_with_len}
use Rattle.steer_base.specs.declared.packet.Packet.{Packet}
use Rattle.history.specs.Finding.{Once}
use Rattle.history.specs.Lists.{no_arrival, no_lane, list_at, lane_at, drop_ids, accepted_lists}
use Rattle.history.specs.Lists.{arrivals_at}
use Rattle.history.specs.Regular.{Regular}
use Rattle.history_check.specs.Tests.{are_polled, has_shape, has_short_lanes, has_short_lists}
use Rattle.history_check.specs.Tests.{is_polled}
use Rattle.history.specs.declared.arrival.Arrival.{Arrival}
use Rattle.history.specs.declared.history.History.{History}
use Rattle.history.specs.declared.lane_list.LaneList.{LaneList}
use Rattle.history.proofs.BoundLemmas.{at-most, list-accepted, once-accepted, once-apart}
use Rattle.history.proofs.BoundLemmas.{once-dropped}
use Rattle.history_check.proofs.PassingLemmas.{all-at, all-below, begins-from, each-at}
use Rattle.history.proofs.RegularLemmas.{AreNumbered, arrived-accepted, arrived-dropped}
use Rattle.history.proofs.RegularLemmas.{arrived-inbox, arrived-port, arrived-shipped}

-- the arrival at an index has it as its number
number-at : (arrivals : List Arrival) (i : ℕ) → AreNumbered 0 arrivals → i < length arrivals
    → (get_or arrivals i no_arrival).id ≡ i
number-at arrivals i e l =
    let n : 0 + i ≡ i = omega arith in
    sym (get_or-map (λ a. a.id) arrivals i no_arrival 0 l) ∙ ap (λ xs. get_or xs i 0) e
    ∙ get_or-range_with_len 0 (length arrivals) i 0 l ∙ n

short-lanes : (n : ℕ) (lanes : List LaneList)
    → ((c : ℕ) → length (lane_at lanes c).accepted ≤ n)
    → ((c : ℕ) → length (lane_at lanes c).drops ≤ n) → has_short_lanes n lanes ≡ true
short-lanes n lanes accepted dropped =
    all-at (λ lane. nat_le (length lane.accepted) n && nat_le (length lane.drops) n) lanes no_lane
    (λ c l.
    and_from (nat_le (length (lane_at lanes c).accepted) n)
    (nat_le (length (lane_at lanes c).drops) n)
    (le-leb (length (lane_at lanes c).accepted) n (accepted c))
    (le-leb (length (lane_at lanes c).drops) n (dropped c)))

module _ (packets : List Packet) (apps : ℕ) (h : History) (regular : Regular packets apps h) where
  pub to_shape : has_shape packets apps h ≡ true
  to_shape =
      and_from _ _
      (and_from _ _
      (and_from _ _
      (and_from _ _
      (and_from _ _
      (and_from _ _ (eq-eqb (length h.choices) (length h.taken) regular.matched.choices)
      (eq-eqb (length h.inboxes) apps regular.matched.inboxes))
      (eq-eqb (length h.sent) apps regular.matched.sent))
      (eq-eqb (length h.tx_choices) apps regular.matched.tx_choices))
      (eq-eqb (length h.writes) apps regular.matched.writes))
      (le-leb (length h.arrivals) (length packets) regular.arrived.of_the_capture))
      (each-at (λ i a. a.id == i) h.arrivals no_arrival
      (λ i l. eq-eqb (get_or h.arrivals i no_arrival).id i
      (number-at h.arrivals i regular.arrived.numbered l)))

  -- No list of packets is longer than that of the arrivals.
  short-accepted : (c : ℕ) → length (lane_at h.lanes c).accepted ≤ length h.arrivals
  short-accepted c =
      at-most (lane_at h.lanes c).accepted (length h.arrivals)
      (once-accepted h.lanes regular.steered.once c)
      (λ x s. arrived-accepted packets apps h regular c x s)

  short-dropped : (c : ℕ) → length (lane_at h.lanes c).drops ≤ length h.arrivals
  short-dropped c =
      let l : length (drop_ids (lane_at h.lanes c)) ≤ length h.arrivals =
      at-most (drop_ids (lane_at h.lanes c)) (length h.arrivals)
      (once-dropped h.lanes regular.steered.once c)
      (λ x s. arrived-dropped packets apps h regular c x s) in
      omega (arith, length-map (lane_at h.lanes c).drops (λ d. d.id))

  short-inbox : (a : ℕ) → length (list_at h.inboxes a) ≤ length h.arrivals
  short-inbox a = at-most (list_at h.inboxes a) (length h.arrivals) (regular.delivered.once a)
      (λ x s. arrived-inbox packets apps h regular a x s)

  short-shipped : (t : ℕ) → length (lane_at h.tx_lanes t).accepted ≤ length h.arrivals
  short-shipped t =
      let once : Once (lane_at h.tx_lanes t).accepted = subst Once (list-accepted h.tx_lanes t)
      (once-apart (accepted_lists h.tx_lanes) t regular.shipped.once) in
      at-most (lane_at h.tx_lanes t).accepted (length h.arrivals) once
      (λ x s. arrived-shipped packets apps h regular t x s)

  no-drops : (t : ℕ) → length (lane_at h.tx_lanes t).drops ≤ length h.arrivals
  no-drops t = omega (arith, ap length (regular.shipped.no_drops t))

  short-port : length h.port ≤ length h.arrivals
  short-port = at-most h.port (length h.arrivals) regular.shipped.port_once
      (λ x s. arrived-port packets apps h regular x s)

  pub to_short_lists : has_short_lists h ≡ true
  to_short_lists =
      and_from _ _
      (and_from _ _
      (and_from _ _ (short-lanes (length h.arrivals) h.lanes short-accepted short-dropped)
      (short-lanes (length h.arrivals) h.tx_lanes short-shipped no-drops))
      (all-at (λ inbox. nat_le (length inbox) (length h.arrivals)) h.inboxes []
      (λ a l. le-leb (length (list_at h.inboxes a)) (length h.arrivals) (short-inbox a))))
      (le-leb (length h.port) (length h.arrivals) short-port)

  pub to_polled : are_polled h ≡ true
  to_polled =
      all-below (is_polled h) (length h.taken) (λ q l.
      and_from _ _
      (and_from _ _ (le-leb (slice_index h.taken q) (length (arrivals_at h.arrivals q))
      (regular.arrived.taken q))
      (le-leb (length (list_at h.choices q)) (slice_index h.taken q)
      (regular.arrived.chosen_taken q)))
      (begins-from (map (λ c. c.id) (list_at h.choices q)) (arrivals_at h.arrivals q)
      (regular.arrived.chosen q)))
