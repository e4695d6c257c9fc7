-- Where the packets of a regular history stand: in the lists of their own queue, lane, application
-- and transmit queue.
use Rattle.std.proofs.Common.{ℕ, ◌+◌, ◌<◌, ◌≡◌, ◌≢◌, true, false, List, ◌++◌, Option, Some, None}
use Rattle.std.proofs.Common.{length, ap, ◌∙◌, sym, arith, inl, inr, get_or, []}
use Rattle.std.specs.Option.{option_map, is_some}
use Rattle.std.proofs.Math.ListN.{get_or-eq_default, get_or-append}
use Rattle.std.proofs.lemmas.Bool.{cases_lt}
use Rattle.std.proofs.lemmas.List.{length-map, length-append, get_or-append-add}
use Rattle.steer_base.specs.Orders.{Apart}
use Rattle.steer_base.specs.declared.choice.Choice.{Choice}
use Rattle.steer_base.specs.declared.packet.Packet.{Packet}
use Rattle.history.specs.Finding.{is_in, found}
use Rattle.history.specs.Lines.{choice_in, choice_of, tx_choice_of, first_reply_to}
use Rattle.history.specs.Lists.{app_at, list_at, lane_at, no_lane, drop_ids, accepted_lists}
use Rattle.history.specs.Lists.{dropped_lists, arrival_of}
use Rattle.history.specs.Regular.{Regular}
use Rattle.history.specs.declared.history.History.{History}
use Rattle.history.specs.declared.lane_list.LaneList.{LaneList}
use Rattle.history.proofs.BoundLemmas.{list-accepted, list-dropped}
use Rattle.history.proofs.OwnLemmas.{none-unless, not-true}
use Rattle.history.proofs.RegularLemmas.{is_some-found, choice-queue, choice-own, lane-accepted}
use Rattle.history.proofs.RegularLemmas.{lane-dropped, tx_choice-sent, tx_choice-app, tx_choice-own}
use Rattle.history.proofs.RegularLemmas.{tx_lane-accepted}
use Rattle.history.proofs.ReplyLemmas.{sent-app, sent-own}
use Rattle.history.proofs.SamePlaces.{some_same, place-index}

-- the queue of a packet
abbrev pub queue_at : History → ℕ → ℕ
queue_at h x = (arrival_of h.arrivals x).queue

-- the lane of a choice, and 0 without one
abbrev pub lane_or : Option Choice → ℕ
lane_or None = 0
lane_or (Some c) = c.lane

lane-is : (o : Option Choice) (c : ℕ) → option_map (λ d. d.lane) o ≡ Some c → c ≡ lane_or o
lane-is None c e = absurd (cc)
lane-is (Some d) c e = sym (some_same d.lane c e)

module _ (packets : List Packet) (apps : ℕ) (h : History) (regular : Regular packets apps h) where
  -- no other queue has a choice for it
  pub choice-elsewhere : (q x : ℕ) → q ≢ queue_at h x → choice_in x (list_at h.choices q) ≡ None
  choice-elsewhere q x ne =
      none-unless (choice_in x (list_at h.choices q))
      (not-true (is_some (choice_in x (list_at h.choices q)))
      (λ s. ne (sym (choice-queue packets apps h regular q x s).1)))

  -- what has a choice arrived
  pub choice-arrived : (x : ℕ) (c : Choice) → choice_of h x ≡ Some c → x < length h.arrivals
  choice-arrived x c e =
      (choice-queue packets apps h regular (queue_at h x) x
      (ap is_some (sym (choice-own packets apps h regular x) ∙ e))).0

  -- what a processor accepted or dropped has a choice of it
  pub accepted-lane : (c x : ℕ) → is_in x (lane_at h.lanes c).accepted ≡ true → c ≡ lane_or
      (choice_of h x)
  accepted-lane c x s = lane-is (choice_of h x) c (lane-accepted packets apps h regular c x s)

  pub dropped-lane : (c x : ℕ) → is_in x (drop_ids (lane_at h.lanes c)) ≡ true → c ≡ lane_or
      (choice_of h x)
  dropped-lane c x s = lane-is (choice_of h x) c (lane-dropped packets apps h regular c x s)

  -- no other application replied to it, or chose a transmit queue for its reply
  pub sent-elsewhere : (a x : ℕ) → a ≢ app_at packets apps x → found (λ t. t.id) x
      (list_at h.sent a) ≡ None
  sent-elsewhere a x ne =
      none-unless (found (λ t. t.id) x (list_at h.sent a))
      (not-true (is_some (found (λ t. t.id) x (list_at h.sent a)))
      (λ s. ne (sym (sent-app packets apps h regular a x s).1)))

  pub tx_choice-elsewhere : (a x : ℕ) → a ≢ app_at packets apps x → choice_in x
      (list_at h.tx_choices a) ≡ None
  tx_choice-elsewhere a x ne =
      none-unless (choice_in x (list_at h.tx_choices a))
      (not-true (is_some (choice_in x (list_at h.tx_choices a)))
      (λ s. ne (sym (tx_choice-app packets apps h regular a x s))))

  -- what has a transmit choice was replied to
  pub chosen-replied : (a x : ℕ) → is_some (choice_in x (list_at h.tx_choices a)) ≡ true
      → is_some (first_reply_to h x) ≡ true
  chosen-replied a x s =
      let sent : is_some (found (λ t. t.id) x (list_at h.sent a)) ≡ true =
      is_some-found (λ t. t.id) x (list_at h.sent a)
      ∙ tx_choice-sent packets apps h regular a x s in
      ap is_some (sent-own packets apps h regular x
      ∙ ap (λ b. found (λ t. t.id) x (list_at h.sent b))
      (tx_choice-app packets apps h regular a x s)) ∙ sent

  pub tx_choice-replied : (x : ℕ) (c : Choice) → tx_choice_of h x ≡ Some c
      → is_some (first_reply_to h x) ≡ true
  tx_choice-replied x c e = chosen-replied (app_at packets apps x) x
      (ap is_some (sym (tx_choice-own packets apps h regular x) ∙ e))

  -- what a transmit queue accepted has a transmit choice of it, and was replied to
  pub tx_accepted-lane : (t x : ℕ) → is_in x (lane_at h.tx_lanes t).accepted ≡ true → t ≡ lane_or
      (tx_choice_of h x)
  tx_accepted-lane t x s = lane-is (tx_choice_of h x) t
      (tx_lane-accepted packets apps h regular t x s)

  pub tx_accepted-replied : (t x : ℕ) → is_in x (lane_at h.tx_lanes t).accepted ≡ true
      → is_some (first_reply_to h x) ≡ true
  tx_accepted-replied t x s = let w = regular.shipped.accepted t x s in chosen-replied w.0 x
      (ap is_some w.2)

  pub port-replied : (x : ℕ) → is_in x h.port ≡ true → is_some (first_reply_to h x) ≡ true
  port-replied x s = let w = regular.shipped.port x s in tx_accepted-replied w.0 x w.1

-- what a processor accepted, it did not drop
pub never_both : (lanes : List LaneList) (c x : ℕ) → Apart (accepted_lists lanes
    ++ dropped_lists lanes)
    → is_in x (lane_at lanes c).accepted ≡ true → is_in x (drop_ids (lane_at lanes c)) ≡ true → ⊥
never_both lanes c x apart s t = elim (cases_lt c (length lanes)) [
  | inl l ↦
      let one = accepted_lists lanes in
      let two = dropped_lists lanes in
      let n : length one ≡ length lanes = length-map lanes (λ lane. lane.accepted) in
      let m : length two ≡ length lanes = length-map lanes drop_ids in
      let both : length (one ++ two) ≡ length one + length two = length-append one two in
      let k : c < length one = omega (arith, l, n) in
      let p = get_or-append one two [] c k ∙ list-accepted lanes c in
      let q = get_or-append-add one two c [] ∙ list-dropped lanes c in
      let i = place-index x (lane_at lanes c).accepted s in
      let j = place-index x (drop_ids (lane_at lanes c)) t in
      let same = apart c (length one + c) i.0 j.0 (omega (arith, k, both))
      (omega (arith, l, m, both)) (omega (arith, i.1, ap length p))
      (omega (arith, j.1, ap length q))
      (ap (λ xs. get_or xs i.0 0) p ∙ i.2 ∙ sym j.2 ∙ sym (ap (λ xs. get_or xs j.0 0) q)) in
      omega (arith, same.0, k)
  | inr l ↦
      let none : is_in x (lane_at lanes c).accepted ≡ false = ap (λ lane. is_in x lane.accepted)
      (get_or-eq_default lanes no_lane l) in cc
]
