-- What the test of the shape of a history tells: how many its lists are, that its arrivals are
-- numbered, and that its lists are short.
use Rattle.std.proofs.Common.{ℕ, ◌≤◌, ◌≡◌, true, List, [], length, map, ap, arith, inl, inr}
use Rattle.std.specs.Prelude.{◌&&◌, nat_le}
use Rattle.std.specs.List.{list_all, range_with_len}
use Rattle.std.proofs.Math.ListN.{get_or-eq_default}
use Rattle.std.proofs.lemmas.Bool.{and_parts, cases_lt, eqb-true, leb-true}
use Rattle.std.proofs.lemmas.List.Sums.{AllPass-from_list_all}
use Rattle.steer_base.specs.declared.packet.Packet.{Packet}
use Rattle.history.specs.Known.{HasShortLists}
use Rattle.history.specs.Lists.{list_at, lane_at, no_lane}
use Rattle.history_check.specs.Tests.{has_shape, has_short_lanes, has_short_lists}
use Rattle.history.specs.declared.history.History.{History}
use Rattle.history.specs.declared.lane_list.LaneList.{LaneList}
use Rattle.history_check.proofs.TestLemmas.{numbers-of}

-- The lists are as many as they have to be, the arrivals are numbered, and they are of the capture.
pub record IsShaped (packets : List Packet) (apps : ℕ) (h : History) : Type 0 where
  pub choices : length h.choices ≡ length h.taken
  pub inboxes : length h.inboxes ≡ apps
  pub sent : length h.sent ≡ apps
  pub tx_choices : length h.tx_choices ≡ apps
  pub writes : length h.writes ≡ apps
  pub of_the_capture : length h.arrivals ≤ length packets
  pub numbered : map (λ a. a.id) h.arrivals ≡ range_with_len 0 (length h.arrivals)

pub shape_from : (packets : List Packet) (apps : ℕ) (h : History) → has_shape packets apps h ≡ true
    → IsShaped packets apps h
shape_from packets apps h e =
    let numbers = and_parts _ _ e in
    let few = and_parts _ _ numbers.0 in
    let writes = and_parts _ _ few.0 in
    let tx_choices = and_parts _ _ writes.0 in
    let sent = and_parts _ _ tx_choices.0 in
    let inboxes = and_parts _ _ sent.0 in
    record {
      choices = eqb-true (length h.choices) (length h.taken) inboxes.0;
      inboxes = eqb-true (length h.inboxes) apps inboxes.1;
      sent = eqb-true (length h.sent) apps sent.1;
      tx_choices = eqb-true (length h.tx_choices) apps tx_choices.1;
      writes = eqb-true (length h.writes) apps writes.1;
      of_the_capture = leb-true (length h.arrivals) (length packets) few.1;
      numbered = numbers-of (λ a. a.id) h.arrivals numbers.1;
    }

pub numbered_from : (packets : List Packet) (apps : ℕ) (h : History)
    → has_shape packets apps h ≡ true
    → map (λ a. a.id) h.arrivals ≡ range_with_len 0 (length h.arrivals)
numbered_from packets apps h e = (shape_from packets apps h e).numbered

-- Each lane is within a bound; those past the end are empty.
short-lane : (n : ℕ) (lanes : List LaneList) (c : ℕ) → has_short_lanes n lanes ≡ true
    → (length (lane_at lanes c).accepted ≤ n) × (length (lane_at lanes c).drops ≤ n)
short-lane n lanes c e =
    elim (cases_lt c (length lanes)) [
      | inl l ↦
          let w = and_parts _ _
          (AllPass-from_list_all (λ lane. nat_le (length lane.accepted) n && nat_le
          (length lane.drops) n) lanes e c no_lane l) in (
            leb-true (length (lane_at lanes c).accepted) n w.0,
            leb-true
                (length (lane_at lanes c).drops) n w.1,
          )
      | inr l ↦
          let a : length (lane_at lanes c).accepted ≡ 0 = ap (λ lane. length lane.accepted)
          (get_or-eq_default lanes no_lane l) in
          let d : length (lane_at lanes c).drops ≡ 0 = ap (λ lane. length lane.drops)
          (get_or-eq_default lanes no_lane l) in
          (omega arith, omega arith)
    ]

-- So is each list of packets.
short-list : (n : ℕ) (lists : List (List ℕ)) (a : ℕ)
    → list_all (λ list. nat_le (length list) n) lists ≡ true → length (list_at lists a) ≤ n
short-list n lists a e =
    elim (cases_lt a (length lists)) [
      | inl l ↦ leb-true (length (list_at lists a)) n
          (AllPass-from_list_all (λ list. nat_le (length list) n) lists e a [] l)
      | inr l ↦ let z : length (list_at lists a) ≡ 0 = ap length (get_or-eq_default lists [] l) in
          omega arith
    ]

-- The lists of a history of few packets are short.
pub short_from : (packets : List Packet) (apps : ℕ) (h : History) → has_shape packets apps h ≡ true
    → has_short_lists h ≡ true
    → length packets ≤ 262144 → HasShortLists h
short_from packets apps h shape short few =
    let s : length h.arrivals ≤ length packets = (shape_from packets apps h shape).of_the_capture in
    let port = and_parts _ _ short in
    let inboxes = and_parts _ _ port.0 in
    let lanes = and_parts _ _ inboxes.0 in
    record {
      accepted = λ c. omega (arith, (short-lane (length h.arrivals) h.lanes c lanes.0).0);
      dropped = λ c. omega (arith, (short-lane (length h.arrivals) h.lanes c lanes.0).1);
      inboxes = λ a. omega (arith, short-list (length h.arrivals) h.inboxes a inboxes.1);
      shipped = λ t. omega (arith, (short-lane (length h.arrivals) h.tx_lanes t lanes.1).0);
      port = omega (arith, leb-true (length h.port) (length h.arrivals) port.1);
    }
