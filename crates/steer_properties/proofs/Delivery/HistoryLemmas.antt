-- What a history says of the order of flows and of the causes of drops.
use Rattle.std.proofs.Common.{ℕ, ◌+◌, ◌≤◌, ◌<◌, ◌≡◌, Bool, true, List, [], ◌∷◌, map, length, refl}
use Rattle.std.proofs.Common.{ap, ◌∙◌, sym, subst, arith, get_or, inl, inr}
use Rattle.std.specs.Prelude.{◌==◌, ◌&&◌, slice_index}
use Rattle.std.specs.List.{All, list_any}
use Rattle.std.proofs.Math.ListN.{length-map}
use Rattle.std.proofs.lemmas.Bool.{and_parts, cases_Bool, cases_eq, eq-eqb, lt-ltb, ne_eqb}
use Rattle.std.proofs.lemmas.List.{get_or-map}
use Rattle.std.proofs.lemmas.List.FromFn.{get_or-map-range_with_len}
use Rattle.std.proofs.lemmas.Option.{get_or_from_slice_get, slice_get_within}
use Rattle.steer_base.specs.Lanes.{LaneLists}
use Rattle.steer_base.specs.Orders.{InOrder, IsPrefix}
use Rattle.steer_base.specs.Sets.{has}
use Rattle.steer_base.specs.declared.packet.Packet.{Packet}
use Rattle.steer_base.specs.declared.put.LaneDrop.{LaneDrop}
use Rattle.backlog.specs.Offers.{AllExplained}
use Rattle.hop_core.specs.Flows.{arrived_by}
use Rattle.hop_model.specs.Hop.{Fixed, HopState, arrivals_of, drops_at, lane_of, out_at}
use Rattle.hop_core.specs.Order.{IsInOrder}
use Rattle.hop_model.specs.Sound.{Sound}
use Rattle.hop_core.proofs.EndToEnd.{end_to_end}
use Rattle.hop_core.proofs.Flows.{FlowInOrder-from}
use Rattle.hop_core.proofs.Order.{InOrder-from}
use Rattle.history.specs.Finding.{is_in}
use Rattle.history.specs.Lists.{arrivals_at, lane_at, list_at, no_lane}
use Rattle.history.specs.declared.history.History.{History}
use Rattle.history.specs.declared.lane_list.LaneList.{LaneList}
use Rattle.history.proofs.FindingLemmas.{is_in-here, is_in-past}
use Rattle.history.proofs.SamePlaces.{place-index, same_lists}
use Rattle.steer_model.specs.Good.Drops as good
use Rattle.steer_model.specs.Good.Replies.{AreInOneTxPlace, replies_of}
use Rattle.steer_model.specs.State.Machine.{Machine, history_of, lane_list, history_lanes}
use Rattle.steer_model.specs.State.Setup.{Setup, app_for, flow_number_of, packet_hash}
use Rattle.steer_properties.proofs.Delivery.HopDelivery.{Delivers, is_of}
use Rattle.steer_invariant.specs.Invariant.{Invariant}
use Rattle.steer_properties.proofs.Delivery.EventLemmas.{app-same}
use Rattle.steer_invariant.proofs.LaneLemmas.{accepted-apart, delivered-by, lane-is, lists-long}
use Rattle.steer_invariant.proofs.PrefixLemmas.{prefix-at, prefix-length}

-- the drops of the lanes of a history are those of the hop
drops-same : (s : HopState) → Sound s → map (λ lane. lane.drops)
    (history_lanes s.bare) ≡ s.bare.drops
drops-same s h =
    let w = h.wide in
    let lanes : List LaneList = history_lanes s.bare in
    let many : length lanes ≡ length s.bare.accepted = lists-long s h in
    let long : length (map (λ (lane : LaneList). lane.drops) lanes) ≡ length s.bare.drops =
    length-map lanes (λ (lane : LaneList). lane.drops) ∙ many ∙ sym w.drops in
    same_lists [] (map (λ (lane : LaneList). lane.drops) lanes) s.bare.drops long
    (λ i lt. get_or-map (λ (lane : LaneList). lane.drops) lanes i no_lane []
    (omega (arith, lt, long, w.drops, many))
    ∙ ap (λ (lane : LaneList). lane.drops) (lane-is s h i))

-- ---- a flow by its packets that came by a producer

-- whether a packet is in a list
any-is : (xs : List ℕ) (y : ℕ) → list_any (λ z. z == y) xs ≡ is_in y xs
any-is [] y = refl
any-is (x ∷ xs) y =
    elim (cases_eq x y) [
      | inl e ↦ rw (eq-eqb x y e) (sym (is_in-here y x xs (sym e)))
      | inr ne ↦ rw (ne_eqb x y ne) (any-is xs y ∙ sym (is_in-past y x xs (λ e. ne (sym e))))
    ]

-- the packets of a list that have the flow of a packet
abbrev pub has_flow : Setup → List ℕ → ℕ → ℕ → Bool
has_flow p came x y = is_in y came && flow_number_of p y == flow_number_of p x

-- where the capture has all of the list
flow-test : (p : Setup) (came : List ℕ) (x y : ℕ) → (is_in y came ≡ true → y < length p.packets)
    → (list_any (λ z. z == y) came && is_of p x y) ≡ has_flow p came x y
flow-test p came x y below =
    let is : list_any (λ z. z == y) came ≡ is_in y came = any-is came y in
    elim (cases_Bool (is_in y came)) [
      | inl there ↦ rw (is, there, lt-ltb y (length p.packets) (below there)) refl
      | inr not' ↦ rw (is, not') refl
    ]

-- what came to a hop is of the capture
came-below : (s : HopState) (packets : List Packet) (q y : ℕ) → Sound s
    → s.fixed.room ≡ length packets → is_in y (arrivals_of s q) ≡ true → y < length packets
came-below s packets q y h room is =
    let at = place-index y (arrivals_of s q) is in
    let below = h.small.below q at.0 at.1 in
    let same = at.2 in omega (arith, below, same, room)

-- the order of a flow of a hop, in the words of a history
in_order : (p : Setup) (s : HopState) (q x : ℕ) (came out : List ℕ) → Sound s
    → s.fixed.room ≡ length p.packets → arrivals_of s q ≡ came
    → InOrder (arrived_by (is_of p x) q s) (arrivals_of s q) s.bare.drops out
    → InOrder (has_flow p came x) came (map (λ lane. lane.drops) (history_lanes s.bare)) out
in_order p s q x came out h room same order =
    let test : arrived_by (is_of p x) q s ≡ has_flow p (arrivals_of s q) x =
    λ i y. flow-test p (arrivals_of s q) x y (came-below s p.packets q y h room) i in
    let by_flow : InOrder (has_flow p (arrivals_of s q) x) (arrivals_of s q) s.bare.drops out =
    subst (λ (set : ℕ → Bool). InOrder set (arrivals_of s q) s.bare.drops out) test order in
    let by_lanes : InOrder (has_flow p (arrivals_of s q) x) (arrivals_of s q)
    (map (λ lane. lane.drops) (history_lanes s.bare)) out =
    subst
    (λ (drops : List (List LaneDrop)). InOrder (has_flow p (arrivals_of s q) x) (arrivals_of s q)
    drops out)
    (sym (drops-same s h)) by_flow in
    subst
    (λ (xs : List ℕ). InOrder (has_flow p xs x) xs (map (λ lane. lane.drops) (history_lanes s.bare))
    out)
    same by_lanes

-- ---- what a history says of order

-- a lane of a history as one of a hop
abbrev pub lane_in : Fixed → ℕ → ℕ → LaneList → LaneLists
lane_in f start c l =
    record {
      accepted = l.accepted;
      offers = [];
      drops = l.drops;
      pulled = l.pulled;
      limit = f.limit;
      room = f.room;
      start = start;
      limited = has f.limited c;
    }

pub record Orders (p : Setup) (h : History) : Type 0 where
  pub inboxes : (q x : ℕ) → x < length p.packets
      → InOrder (has_flow p (arrivals_at h.arrivals q) x) (arrivals_at h.arrivals q)
      (map (λ lane. lane.drops) h.lanes) (list_at h.inboxes (app_for p x))
  pub port : (a x : ℕ) → x < length p.packets
      → InOrder (has_flow p (replies_of h a) x) (replies_of h a)
      (map (λ lane. lane.drops) h.tx_lanes) h.port
  pub through : (q x : ℕ) → x < length p.packets
      → InOrder (has_flow p (arrivals_at h.arrivals q) x) (arrivals_at h.arrivals q)
      (map (λ lane. lane.drops) h.lanes) h.port

module _ (f : Fixed) (m : Machine) (h : Invariant m) (d : Delivers f m) where
  rx-order : (q x : ℕ) → x < length m.setup.packets
      → IsInOrder (arrived_by (is_of m.setup x) q m.rx) q (app_for m.setup x) m.rx
  rx-order q x lt =
      let k = h.kept in
      FlowInOrder-from (is_of m.setup x) q (app_for m.setup x) m.rx k.rx.sound (d.rx.order q x lt)

  -- a reply is to a packet of its own application
  reply-own : (a i : ℕ) → i < length (arrivals_of m.tx a)
      → app_for m.setup (slice_index (arrivals_of m.tx a) i) ≡ a
  reply-own a i lt =
      let k = h.kept in let r = h.recorded in
      let own : IsPrefix (arrivals_of m.tx a) (out_at m.rx.bare a) =
      subst (λ (xs : List ℕ). IsPrefix xs (out_at m.rx.bare a)) (sym (k.replied.came a))
      (k.replied.first a) in
      let far = prefix-length (arrivals_of m.tx a) (out_at m.rx.bare a) own in
      subst (λ y. app_for m.setup y ≡ a)
      (prefix-at (arrivals_of m.tx a) (out_at m.rx.bare a) i own lt)
      (r.own a i 0 (omega (arith, lt, far)))

  tx-order : (q x : ℕ) → x < length m.setup.packets
      → IsInOrder (arrived_by (is_of m.setup x) q m.rx) (app_for m.setup x) 0 m.tx
  tx-order q x lt =
      let k = h.kept in
      let set : ℕ → Bool = arrived_by (is_of m.setup x) q m.rx in
      let within : (y : ℕ) → set y ≡ true → is_of m.setup x y ≡ true =
      λ y in'. (and_parts (list_any (λ z. z == y) (arrivals_of m.rx q)) (is_of m.setup x y) in').1
      in
      InOrder-from set (app_for m.setup x) 0 m.tx
      (d.tx (app_for m.setup x) x lt set within
      (λ r i i_lt in'. sym (reply-own r i i_lt)
      ∙ app-same m.setup x (slice_index (arrivals_of m.tx r) i) k.given lt
      (within (slice_index (arrivals_of m.tx r) i) in')))

  pub orders : Orders m.setup (history_of m)
  orders =
      let k = h.kept in
      let p : Setup = m.setup in
      record {
        inboxes = λ q x lt.
            in_order p m.rx q x (arrivals_at m.arrivals q) (out_at m.rx.bare (app_for p x))
            k.rx.sound k.rx.sizes.room (k.came.own q) (rx-order q x lt);
        port = λ a x lt.
            in_order p m.tx a x (replies_of (history_of m) a) (out_at m.tx.bare 0) k.tx.sound
            k.tx.sizes.room (k.replied.came a)
            (FlowInOrder-from (is_of p x) a 0 m.tx k.tx.sound (d.tx a x lt));
        through = λ q x lt.
            in_order p m.rx q x (arrivals_at m.arrivals q) (out_at m.tx.bare 0) k.rx.sound
            k.rx.sizes.room (k.came.own q)
            (end_to_end (arrived_by (is_of p x) q m.rx) m.rx m.tx q (app_for p x) 0
            (replies_of (history_of m) (app_for p x)) (rx-order q x lt)
            (k.replied.first (app_for p x)) (k.replied.came (app_for p x)) k.tx.ample.none
            (tx-order q x lt));
      }

  -- ---- places of replies

  pub tx-places : AreInOneTxPlace (history_of m)
  tx-places =
      let k = h.kept in let s = k.tx.sound in
      record {
        lanes = accepted-apart m.tx s;
        once = λ i j l n e. (s.places.out_once 0 0 i j l n e).1;
        delivered = delivered-by m.tx s 0;
        no_drops = λ t. ap (λ lane. lane.drops) (lane-is m.tx s t) ∙ k.tx.ample.none t;
      }

  -- ---- drops

  -- the counts of a lane's drops, in the words of a history
  counts-of : (c : ℕ) → good.DropsRise (lane_list m.rx.bare c)
  counts-of c =
      let n = d.rx.counts c in
      let drops : List LaneDrop = drops_at m.rx.bare c in
      record {
        accepted = n.accepted_within;
        pulled = n.pulled_within;
        rise = λ k x y is is'. (
            let lt = slice_get_within drops (k + 1) y is' in
            let before : get_or drops k x ≡ x = get_or_from_slice_get drops k x x is in
            let next : get_or drops (k + 1) x ≡ y = get_or_from_slice_get drops (k + 1) y x is' in (
              subst (λ (a : LaneDrop). a.accepted ≤ y.accepted) before
                  (subst (λ (b : LaneDrop). (get_or drops k x).accepted ≤ b.accepted) next
                  (n.accepted k (k + 1) x (omega arith) lt)),
              subst (λ (a : LaneDrop). a.pulled ≤ y.pulled) before
                  (subst (λ (b : LaneDrop). (get_or drops k x).pulled ≤ b.pulled) next
                  (n.pulled k (k + 1) x (omega arith) lt)),
            ));
      }

  pub drop-counts : All good.DropsRise (history_of m).lanes
  drop-counts c o lt =
      let k = h.kept in let s = k.rx.sound in
      let lanes : List LaneList = history_lanes m.rx.bare in
      let is : get_or lanes c o ≡ lane_list m.rx.bare c =
      get_or-map-range_with_len (lane_list m.rx.bare) 0 (length m.rx.bare.accepted) c c o
      (omega (arith, lt, lists-long m.rx s)) (omega arith) in
      subst good.DropsRise (sym is) (counts-of c)

  pub drop-causes : (start c : ℕ)
      → AllExplained (packet_hash m.setup) (lane_in f start c (lane_at (history_lanes m.rx.bare) c))
  drop-causes start c =
      let k = h.kept in
      let here : AllExplained (packet_hash m.setup) (lane_of f m.rx.bare c) =
      subst (λ (g : Fixed). AllExplained (packet_hash m.setup) (lane_of g m.rx.bare c)) d.rx.fixed
      (d.rx.causes.causes c) in
      subst (λ (l : LaneList). AllExplained (packet_hash m.setup) (lane_in f start c l))
      (sym (lane-is m.rx k.rx.sound c)) here
