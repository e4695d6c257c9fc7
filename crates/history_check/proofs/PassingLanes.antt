-- The lanes, the inboxes and the port of a regular history pass their tests.
use Rattle.std.proofs.Common.{ℕ, ◌+◌, ◌<◌, ◌≡◌, true, List, [], ◌++◌, Option, Some, None, map}
use Rattle.std.proofs.Common.{length, refl, ap, ◌∙◌, sym, arith, get_or, subst}
use Rattle.std.specs.Prelude.{◌==◌, ◌&&◌, not}
use Rattle.std.specs.Option.{option_and_then, option_map, is_some}
use Rattle.std.proofs.lemmas.Bool.{and_from, eq-eqb, lt-ltb}
use Rattle.std.proofs.lemmas.List.{get_or-map, length-map}
use Rattle.steer_base.specs.Entries.{place_in}
use Rattle.steer_base.specs.Orders.{Apart}
use Rattle.steer_base.specs.declared.packet.Packet.{Packet}
use Rattle.steer_base.specs.declared.put.LaneDrop.{LaneDrop}
use Rattle.history.specs.Finding.{is_in, found, first_some, Once}
use Rattle.history.specs.Lines.{accepted_place, choice_of, drop_in, dropped_as, inbox_place_of}
use Rattle.history.specs.Lines.{tx_choice_of}
use Rattle.history.specs.Lists.{app_at, no_lane, list_at, lane_at, drop_ids, accepted_lists}
use Rattle.history.specs.Lists.{dropped_lists}
use Rattle.history.specs.Regular.{Regular}
use Rattle.history_check.specs.Tests.{are_delivered, are_shipped, are_steered, drop_number, each}
use Rattle.history_check.specs.Tests.{is_accepted, is_delivered, is_fallen, is_queued, is_shipped}
use Rattle.history.specs.declared.history.History.{History}
use Rattle.history.specs.declared.lane_list.LaneList.{LaneList}
use Rattle.history.proofs.BoundLemmas.{in-index, list-accepted, list-dropped, once-accepted}
use Rattle.history.proofs.BoundLemmas.{once-apart, once-dropped}
use Rattle.history.proofs.OwnLemmas.{first-none, not-true}
use Rattle.history_check.proofs.PassingLemmas.{apart-parts, each-at, each-from, number-from, own-at}
use Rattle.history_check.proofs.PassingLemmas.{place-at, place-from}
use Rattle.history.proofs.PlaceLemmas.{is_some-drop_in}
use Rattle.history.proofs.RegularLemmas.{arrived-accepted, arrived-dropped, arrived-inbox}
use Rattle.history.proofs.RegularLemmas.{arrived-port, arrived-shipped, is_some-found}
use Rattle.history.proofs.RegularLemmas.{lane-accepted, lane-dropped, tx_lane-accepted}

-- what a lane accepted no lane dropped
not-dropped : (lanes : List LaneList) (c x : ℕ) → Apart (accepted_lists lanes
    ++ dropped_lists lanes) → is_in x (lane_at lanes c).accepted ≡ true
    → first_some (drop_in x) lanes ≡ None
not-dropped lanes c x apart s =
    let accepted : is_in x (list_at (accepted_lists lanes) c) ≡ true =
    subst (λ ys. is_in x ys ≡ true) (sym (list-accepted lanes c)) s in
    first-none (drop_in x) no_lane lanes (λ k l. not-true (is_some (drop_in x (lane_at lanes k)))
    (λ t.
    let dropped : is_in x (list_at (dropped_lists lanes) k) ≡ true =
    ap (is_in x) (list-dropped lanes k) ∙ sym (is_some-drop_in x (lane_at lanes k)) ∙ t in
    apart-parts (accepted_lists lanes) (dropped_lists lanes) c k x apart accepted dropped))

-- the number of a drop is the place of its packet
dropped_as-number : (o : Option LaneDrop) (p : Option ℕ) (n : ℕ) → is_some o ≡ true → p ≡ Some n
    → option_map drop_number (option_and_then (λ d. option_map (dropped_as d) p) o) ≡ Some n
dropped_as-number None p n s e = absurd (cc)
dropped_as-number (Some d) p n s e = rw e refl

drop_in-number : (x : ℕ) (lane : LaneList) (n : ℕ) → place_in x (drop_ids lane) ≡ Some n
    → option_map drop_number (drop_in x lane) ≡ Some n
drop_in-number x lane n e =
    dropped_as-number (found (λ d. d.id) x lane.drops) (place_in x (drop_ids lane)) n
    (is_some-found (λ d. d.id) x lane.drops ∙ ap is_some e) e

module _ (packets : List Packet) (apps : ℕ) (h : History) (regular : Regular packets apps h) where
  -- The first lane or inbox that has a packet is its own one.
  accepted-own : (c x : ℕ) → is_in x (lane_at h.lanes c).accepted ≡ true
      → accepted_place h.lanes x ≡ place_in x (lane_at h.lanes c).accepted
  accepted-own c x s =
      own-at (λ lane. place_in x lane.accepted) no_lane h.lanes (option_map (λ d. d.lane)
      (choice_of h x)) c refl
      (λ k t. lane-accepted packets apps h regular k x t)
      (lane-accepted packets apps h regular c x s)

  dropped-own : (c x : ℕ) → is_in x (drop_ids (lane_at h.lanes c)) ≡ true → first_some
      (drop_in x) h.lanes ≡ drop_in x (lane_at h.lanes c)
  dropped-own c x s =
      own-at (drop_in x) no_lane h.lanes (option_map (λ d. d.lane) (choice_of h x)) c refl
      (λ k t. lane-dropped packets apps h regular k x (sym (is_some-drop_in x (lane_at h.lanes k))
      ∙ t)) (lane-dropped packets apps h regular c x s)

  inbox-own : (a x : ℕ) → is_in x (list_at h.inboxes a) ≡ true → inbox_place_of h x ≡ place_in x
      (list_at h.inboxes a)
  inbox-own a x s =
      own-at (place_in x) [] h.inboxes (Some (app_at packets apps x)) a refl
      (λ b t. ap (λ n. Some n) (regular.delivered.own b x t))
      (ap (λ n. Some n) (regular.delivered.own a x s))

  queued-own : (t x : ℕ) → is_in x (lane_at h.tx_lanes t).accepted ≡ true
      → accepted_place h.tx_lanes x ≡ place_in x (lane_at h.tx_lanes t).accepted
  queued-own t x s =
      own-at (λ lane. place_in x lane.accepted) no_lane h.tx_lanes (option_map (λ d. d.lane)
      (tx_choice_of h x)) t refl
      (λ k u. tx_lane-accepted packets apps h regular k x u)
      (tx_lane-accepted packets apps h regular t x s)

  accepted-passes : (c i : ℕ) → i < length (lane_at h.lanes c).accepted → is_accepted h c i
      (get_or (lane_at h.lanes c).accepted i 0) ≡ true
  accepted-passes c i l =
      let xs = (lane_at h.lanes c).accepted in
      let x = get_or (lane_at h.lanes c).accepted i 0 in
      let s : is_in x xs ≡ true = in-index xs i l in
      and_from _ _
      (and_from _ _
      (and_from _ _ (lt-ltb x (length h.arrivals) (arrived-accepted packets apps h regular c x s))
      (number-from (option_map (λ d. d.lane) (choice_of h x)) c
      (lane-accepted packets apps h regular c x s)))
      (place-from (accepted_place h.lanes x) i (accepted-own c x s ∙ place-at xs i
      (once-accepted h.lanes regular.steered.once c) l)))
      (ap (λ o. not (is_some o)) (not-dropped h.lanes c x regular.steered.once s))

  fallen-passes : (c i : ℕ) → i < length (drop_ids (lane_at h.lanes c)) → is_fallen h c i
      (get_or (drop_ids (lane_at h.lanes c)) i 0) ≡ true
  fallen-passes c i l =
      let xs = drop_ids (lane_at h.lanes c) in
      let x = get_or (drop_ids (lane_at h.lanes c)) i 0 in
      let s : is_in x xs ≡ true = in-index xs i l in
      let n : option_map drop_number (first_some (drop_in x) h.lanes) ≡ Some (i + 1) =
      ap (λ o. option_map drop_number o) (dropped-own c x s)
      ∙ drop_in-number x (lane_at h.lanes c) (i + 1)
      (place-at xs i (once-dropped h.lanes regular.steered.once c) l) in
      and_from _ _
      (and_from _ _ (lt-ltb x (length h.arrivals) (arrived-dropped packets apps h regular c x s))
      (number-from (option_map (λ d. d.lane) (choice_of h x)) c
      (lane-dropped packets apps h regular c x s)))
      (place-from (option_map drop_number (first_some (drop_in x) h.lanes)) i n)

  pub to_steered : are_steered h ≡ true
  to_steered =
      each-at (λ c lane. each (is_accepted h c) lane.accepted && each
      (λ i d. is_fallen h c i d.id) lane.drops) h.lanes no_lane (λ c m.
      let drops = (lane_at h.lanes c).drops in
      and_from _ _ (each-at (is_accepted h c) (lane_at h.lanes c).accepted 0
      (λ i l. accepted-passes c i l))
      (each-from (λ i d. is_fallen h c i d.id) drops (λ i d l.
      let within : i < length (map (λ d. d.id) drops) =
      omega (arith, length-map drops (λ d. d.id)) in
      subst (λ x. is_fallen h c i x ≡ true) (get_or-map (λ d. d.id) drops i d 0 l)
      (fallen-passes c i within))))

  delivered-passes : (a i : ℕ) → i < length (list_at h.inboxes a) → is_delivered packets apps h a i
      (get_or (list_at h.inboxes a) i 0) ≡ true
  delivered-passes a i l =
      let xs = list_at h.inboxes a in
      let x = get_or (list_at h.inboxes a) i 0 in
      let s : is_in x xs ≡ true = in-index xs i l in
      let w = regular.delivered.accepted a x s in
      and_from _ _
      (and_from _ _
      (and_from _ _ (lt-ltb x (length h.arrivals) (arrived-inbox packets apps h regular a x s))
      (place-from (inbox_place_of h x) i (inbox-own a x s ∙ place-at xs i
      (regular.delivered.once a) l)))
      (eq-eqb (app_at packets apps x) a (regular.delivered.own a x s)))
      (ap is_some (accepted-own w.0 x w.1) ∙ w.1)

  pub to_delivered : are_delivered packets apps h ≡ true
  to_delivered =
      each-at (λ a inbox. each (is_delivered packets apps h a) inbox) h.inboxes [] (λ a m.
      each-at (is_delivered packets apps h a) (list_at h.inboxes a) 0
      (λ i l. delivered-passes a i l))

  queued-passes : (t i : ℕ) → i < length (lane_at h.tx_lanes t).accepted → is_queued h t i
      (get_or (lane_at h.tx_lanes t).accepted i 0) ≡ true
  queued-passes t i l =
      let xs = (lane_at h.tx_lanes t).accepted in
      let x = get_or (lane_at h.tx_lanes t).accepted i 0 in
      let s : is_in x xs ≡ true = in-index xs i l in
      let once : Once xs = subst Once (list-accepted h.tx_lanes t)
      (once-apart (accepted_lists h.tx_lanes) t regular.shipped.once) in
      and_from _ _
      (and_from _ _ (lt-ltb x (length h.arrivals) (arrived-shipped packets apps h regular t x s))
      (number-from (option_map (λ d. d.lane) (tx_choice_of h x)) t
      (tx_lane-accepted packets apps h regular t x s)))
      (place-from (accepted_place h.tx_lanes x) i (queued-own t x s ∙ place-at xs i once l))

  shipped-passes : (i : ℕ) → i < length h.port → is_shipped h i (get_or h.port i 0) ≡ true
  shipped-passes i l =
      let x = get_or h.port i 0 in
      let s : is_in x h.port ≡ true = in-index h.port i l in
      let w = regular.shipped.port x s in
      and_from _ _
      (and_from _ _ (lt-ltb x (length h.arrivals) (arrived-port packets apps h regular x s))
      (place-from (place_in x h.port) i (place-at h.port i regular.shipped.port_once l)))
      (ap is_some (queued-own w.0 x w.1) ∙ w.1)

  pub to_shipped : are_shipped h ≡ true
  to_shipped =
      and_from _ _
      (each-at (λ t lane. (length lane.drops == 0) && each (is_queued h t) lane.accepted) h.tx_lanes
      no_lane (λ t m.
      and_from _ _ (eq-eqb (length (lane_at h.tx_lanes t).drops) 0
      (ap length (regular.shipped.no_drops t)))
      (each-at (is_queued h t) (lane_at h.tx_lanes t).accepted 0 (λ i l. queued-passes t i l))))
      (each-at (is_shipped h) h.port 0 (λ i l. shipped-passes i l))
