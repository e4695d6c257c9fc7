-- The lists of a regular history have each packet where its line shows it.
use Rattle.std.proofs.Common.{ℕ, ◌≤◌, ◌<◌, ◌≡◌, ◌^◌, true, false, List, [], ◌∷◌, Option}
use Rattle.std.proofs.Common.{Some, None, length, refl, ap, ◌∙◌, sym, arith, IfSome}
use Rattle.std.specs.Option.{is_some, option_and_then, option_map, option_or}
use Rattle.std.proofs.Math.ListN.{get_or-eq_default}
use Rattle.steer_base.specs.Entries.{place_in}
use Rattle.steer_base.specs.declared.choice.Choice.{Choice}
use Rattle.steer_base.specs.declared.packet.Packet.{Packet}
use Rattle.steer_base.specs.declared.put.LaneDrop.{LaneDrop}
use Rattle.steer_base.specs.declared.put.Put.TheVariants.{At}
use Rattle.history.specs.Finding.{found, first_some, is_in, Once}
use Rattle.history.specs.Lines.{accepted_place, choice_of, drop_in, dropped_as, first_reply_to}
use Rattle.history.specs.Lines.{inbox_place_of, line_of_sent, position_of, put_of, tx_choice_of}
use Rattle.history.specs.Lists.{app_at, drop_ids, lane_at, list_at, no_lane}
use Rattle.history.specs.Ranges.{ChoiceFits, HaveLinesThatFit, HistoryFits, ReplyFits}
use Rattle.history.specs.Regular.{Regular}
use Rattle.history.specs.declared.history.History.{History}
use Rattle.history.specs.declared.lane_list.LaneList.{LaneList}
use Rattle.history.specs.declared.sent.Sent.{Sent}
use Rattle.history.proofs.BoundLemmas.{once-accepted, once-dropped}
use Rattle.history.proofs.FindingLemmas.{is_in-here}
use Rattle.history.proofs.FoundAgain.Histories.{once-tx, port-unreplied, tx_accepted-at}
use Rattle.history.proofs.FoundAgain.Histories.{tx_accepted-bound, tx_accepted-elsewhere}
use Rattle.history.proofs.FoundAgain.SameArrivals.{accepted-at, accepted-bound, accepted-elsewhere}
use Rattle.history.proofs.FoundAgain.SameArrivals.{inbox-elsewhere}
use Rattle.history.proofs.FoundAgain.SamePuts.{drop-no_position}
use Rattle.history.proofs.FoundAgain.Traces.{dropped-lane, lane_or, never_both}
use Rattle.history.proofs.FoundAgain.Traces.{tx_accepted-replied}
use Rattle.history.proofs.OwnLemmas.{own-first}
use Rattle.history.proofs.RegularLemmas.{arrived-accepted, arrived-dropped, arrived-inbox}
use Rattle.history.proofs.RegularLemmas.{arrived-port, arrived-shipped, is_some-found}
use Rattle.history.proofs.RegularLemmas.{lane-accepted, lane-dropped, tx_lane-accepted}
use Rattle.history.proofs.SamePlaces.{no_value, some_same}
use Rattle.report_reader.specs.Parts.{seen_reply}
use Rattle.report_reader.specs.Slots.{IsShelved, dropped_slot, in_list, place_for}
use Rattle.report_reader.specs.Slots.{reply_slot, shipped_slot, slot_of}
use Rattle.report_reader.specs.declared.slots.Kind.{Kind}
use Rattle.report_reader.specs.declared.slots.Kind.TheVariants.{Accepted, Dropped, Inbox, Shipped}
use Rattle.report_reader.specs.declared.slots.Kind.TheVariants.{Port}
use Rattle.report_history.proofs.SeenLemmas.{seen_at, seen_of, seen-is, seen-long}
use Rattle.report_history.proofs.SlotLemmas.{IsOwn, own-accepted, own-dropped, own-list}
use Rattle.report_history.proofs.SlotLemmas.{own-shipped}

-- a list without members
pub no-members : (xs : List ℕ) → ((x : ℕ) → is_in x xs ≡ true → ⊥) → xs ≡ []
no-members [] h = refl
no-members (x ∷ xs) h = absurd (h x (is_in-here x x xs refl))

-- a choice of a lane, whose number has 8 bits
lane-low : (o : Option Choice) (c : ℕ) → IfSome o ChoiceFits → option_map (λ d. d.lane) o ≡ Some c
    → c < 2 ^ 8
lane-low None c f e = absurd (cc)
lane-low (Some d) c f e =
    let g : d.lane ≡ c = some_same d.lane c e in omega (arith, f.lane, g)

-- a lane that has the drop of a packet dropped it
fell-place : (o : Option LaneDrop) (p : Option ℕ) → is_some o ≡ is_some p
    → is_some (option_and_then (λ d. option_map (dropped_as d) p) o) ≡ true → is_some p ≡ true
fell-place None p e t = absurd (cc)
fell-place (Some d) p e t = sym e

fell-in : (x : ℕ) (lane : LaneList) → is_some (drop_in x lane) ≡ true
    → is_in x (drop_ids lane) ≡ true
fell-in x lane s = fell-place (found (λ d. d.id) x lane.drops) (place_in x (drop_ids lane))
    (is_some-found (λ d. d.id) x lane.drops) s

module _ (packets : List Packet) (apps : ℕ) (h : History) (regular : Regular packets apps h)
    (fits : HistoryFits h) (small : length packets ≤ 262144) (lines_fit : HaveLinesThatFit) where
  -- a list with each packet at its place has each where the line shows it
  shelved : (kind : Kind) (number : ℕ) (list : List ℕ) → Once list
      → ((x : ℕ) → place_in x list
      ≡ place_for number (slot_of h.start kind (seen_at packets apps h x)))
      → ((x : ℕ) → is_in x list ≡ true → x < length h.arrivals)
      → (256 ≤ number → list ≡ [])
      → IsShelved h.start kind (seen_of packets apps h) number list
  shelved kind number list once places arrived low = record {
    once = once;
    places = λ x d l.
        let n : x < length h.arrivals = omega (arith, l, seen-long packets apps h) in
        places x ∙ sym (ap (λ s. place_for number (slot_of h.start kind s))
        (seen-is packets apps h x d n));
    within = λ x l. no_value (place_in x list) (λ n e. let a = arrived x (ap is_some e) in
        omega (arith, a, l, seen-long packets apps h));
    low = low;
  }

  -- The packets that a processor accepted.
  accepted-own : (c x : ℕ) → IsOwn c (lane_or (choice_of h x)) (accepted_place h.lanes x)
      (place_in x (lane_at h.lanes c).accepted)
  accepted-own c x = record {
    own_place = λ e. ap (λ k. place_in x (lane_at h.lanes k).accepted) e
        ∙ sym (accepted-at packets apps h x regular);
    no_other = λ ne. accepted-elsewhere packets apps h x c regular ne;
  }

  some-lane : (o : Option Choice) (c : ℕ) → option_map (λ d. d.lane) o ≡ Some c
      → is_some o ≡ true
  some-lane None c e = absurd (cc)
  some-lane (Some d) c e = refl

  accepted-chosen : (x n : ℕ) → accepted_place h.lanes x ≡ Some n
      → is_some (choice_of h x) ≡ true
  accepted-chosen x n e =
      let c = lane_or (choice_of h x) in
      some-lane (choice_of h x) c (lane-accepted packets apps h regular c x
      (ap is_some (sym (accepted-at packets apps h x regular) ∙ e)))

  choice-low : (x c : ℕ) → option_map (λ d. d.lane) (choice_of h x) ≡ Some c → c < 2 ^ 8
  choice-low x c e =
      lane-low (choice_of h x) c (lines_fit packets apps h small regular fits x).0.choice e

  pub accepted-shelved : (c : ℕ)
      → IsShelved h.start Accepted (seen_of packets apps h) c (lane_at h.lanes c).accepted
  accepted-shelved c = shelved Accepted c (lane_at h.lanes c).accepted
      (once-accepted h.lanes regular.steered.once c)
      (λ x. own-accepted c h.start fits.start (choice_of h x)
      (place_in x (lane_at h.lanes c).accepted) (accepted_place h.lanes x)
      (first_some (drop_in x) h.lanes) (accepted-own c x)
      (λ n e. accepted-bound packets apps h x n regular small e) (λ n e. accepted-chosen x n e)
      (λ n e. drop-no_position x n h.lanes e))
      (λ x s. arrived-accepted packets apps h regular c x s)
      (λ l. no-members (lane_at h.lanes c).accepted (λ x s.
      let k = choice-low x c (lane-accepted packets apps h regular c x s) in omega (arith, k, l)))

  -- The packets that it dropped.
  pub fallen-at : (x : ℕ) → first_some (drop_in x) h.lanes ≡ drop_in x
      (lane_at h.lanes (lane_or (choice_of h x)))
  fallen-at x = own-first (drop_in x) no_lane h.lanes (Some (lane_or (choice_of h x))) refl
      (λ c s. ap (λ n. Some n) (sym (dropped-lane packets apps h regular c x
      (fell-in x (lane_at h.lanes c) s))))

  pub dropped-not_accepted : (c x n : ℕ) → is_in x (drop_ids (lane_at h.lanes c)) ≡ true
      → accepted_place h.lanes x ≡ Some n → ⊥
  dropped-not_accepted c x n s e =
      let own : c ≡ lane_or (choice_of h x) = dropped-lane packets apps h regular c x s in
      never_both h.lanes c x regular.steered.once
      (ap (λ k. is_in x (lane_at h.lanes k).accepted) own
      ∙ ap is_some (sym (accepted-at packets apps h x regular) ∙ e)) s

  dropped-own : (c x : ℕ) → IsOwn c (lane_or (choice_of h x))
      (place_in x (drop_ids (lane_at h.lanes (lane_or (choice_of h x)))))
      (place_in x (drop_ids (lane_at h.lanes c)))
  dropped-own c x = record {
    own_place = λ e. ap (λ k. place_in x (drop_ids (lane_at h.lanes k))) e;
    no_other = λ ne. no_value (place_in x (drop_ids (lane_at h.lanes c)))
        (λ n e. ne (dropped-lane packets apps h regular c x (ap is_some e)));
  }

  dropped-place : (c x : ℕ) → place_in x (drop_ids (lane_at h.lanes c))
      ≡ place_for c (dropped_slot (choice_of h x) (put_of h x))
  dropped-place c x =
      let own = lane_or (choice_of h x) in
      let place = place_in x (drop_ids (lane_at h.lanes own)) in
      own-dropped c h.start (choice_of h x) (place_in x (drop_ids (lane_at h.lanes c)))
      (accepted_place h.lanes x) place (found (λ d. d.id) x (lane_at h.lanes own).drops)
      (dropped-own c x)
      (λ n e. no_value place (λ k f. dropped-not_accepted own x n (ap is_some f) e))
      (is_some-found (λ d. d.id) x (lane_at h.lanes own).drops)
      (λ n e. some-lane (choice_of h x) own (lane-dropped packets apps h regular own x
      (ap is_some e)))
      ∙ ap (λ o. place_for c (dropped_slot (choice_of h x)
      (option_or (option_map (λ n. At n) (position_of h x)) o))) (sym (fallen-at x))

  pub dropped-shelved : (c : ℕ)
      → IsShelved h.start Dropped (seen_of packets apps h) c (drop_ids (lane_at h.lanes c))
  dropped-shelved c = shelved Dropped c (drop_ids (lane_at h.lanes c))
      (once-dropped h.lanes regular.steered.once c) (λ x. dropped-place c x)
      (λ x s. arrived-dropped packets apps h regular c x s)
      (λ l. no-members (drop_ids (lane_at h.lanes c)) (λ x s.
      let k = choice-low x c (lane-dropped packets apps h regular c x s) in omega (arith, k, l)))

  -- The packets in an inbox.
  inbox-at : (x : ℕ) → inbox_place_of h x ≡ place_in x (list_at h.inboxes (app_at packets apps x))
  inbox-at x = own-first (place_in x) [] h.inboxes (Some (app_at packets apps x)) refl
      (λ a s. ap (λ n. Some n) (regular.delivered.own a x s))

  pub inbox-shelved : (a : ℕ) → apps < 2 ^ 8
      → IsShelved h.start Inbox (seen_of packets apps h) a (list_at h.inboxes a)
  inbox-shelved a few = shelved Inbox a (list_at h.inboxes a) (regular.delivered.once a)
      (λ x. own-list a (app_at packets apps x) (inbox_place_of h x)
      (place_in x (list_at h.inboxes a)) (record {
        own_place = λ e. ap (λ k. place_in x (list_at h.inboxes k)) e ∙ sym (inbox-at x);
        no_other = λ ne. inbox-elsewhere packets apps h x a regular ne;
      }))
      (λ x s. arrived-inbox packets apps h regular a x s)
      (λ l. get_or-eq_default h.inboxes [] (omega (arith, l, few, regular.matched.inboxes)))

  -- The replies that a transmit queue accepted.
  tx-own : (t x : ℕ) → IsOwn t (lane_or (tx_choice_of h x)) (accepted_place h.tx_lanes x)
      (place_in x (lane_at h.tx_lanes t).accepted)
  tx-own t x = record {
    own_place = λ e. ap (λ k. place_in x (lane_at h.tx_lanes k).accepted) e
        ∙ sym (tx_accepted-at packets apps h x regular);
    no_other = λ ne. tx_accepted-elsewhere packets apps h x t regular ne;
  }

  tx-chosen : (x n : ℕ) → accepted_place h.tx_lanes x ≡ Some n
      → is_some (tx_choice_of h x) ≡ true
  tx-chosen x n e =
      let t = lane_or (tx_choice_of h x) in
      some-lane (tx_choice_of h x) t (tx_lane-accepted packets apps h regular t x
      (ap is_some (sym (tx_accepted-at packets apps h x regular) ∙ e)))

  tx-unreplied : (t x : ℕ) → first_reply_to h x ≡ None
      → place_in x (lane_at h.tx_lanes t).accepted ≡ None
  tx-unreplied t x e = no_value (place_in x (lane_at h.tx_lanes t).accepted) (λ n f.
      let s : is_some (first_reply_to h x) ≡ true =
      tx_accepted-replied packets apps h regular t x (ap is_some f) in
      let z : is_some (first_reply_to h x) ≡ false = ap is_some e in cc)

  tx-place : (t x : ℕ) (s : Option Sent) → first_reply_to h x ≡ s
      → place_in x (lane_at h.tx_lanes t).accepted
      ≡ place_for t (reply_slot (λ r. shipped_slot h.start r.choice r.put)
      (option_map seen_reply (option_map (line_of_sent packets apps h x) s)))
  tx-place t x None e = tx-unreplied t x e
  tx-place t x (Some s) e =
      own-shipped t h.start fits.start (tx_choice_of h x)
      (place_in x (lane_at h.tx_lanes t).accepted) (accepted_place h.tx_lanes x) (tx-own t x)
      (λ n f. tx_accepted-bound packets apps h x n regular small f) (λ n f. tx-chosen x n f)

  tx-low : (x t : ℕ) (s : Option Sent) → is_some s ≡ true
      → IfSome (option_map (line_of_sent packets apps h x) s) ReplyFits
      → option_map (λ d. d.lane) (tx_choice_of h x) ≡ Some t → t < 2 ^ 8
  tx-low x t None k f e = absurd (cc)
  tx-low x t (Some s) k f e = lane-low (tx_choice_of h x) t f.choice e

  pub tx-shelved : (t : ℕ)
      → IsShelved h.start Shipped (seen_of packets apps h) t (lane_at h.tx_lanes t).accepted
  tx-shelved t = shelved Shipped t (lane_at h.tx_lanes t).accepted
      (once-tx h.tx_lanes regular.shipped.once t) (λ x. tx-place t x (first_reply_to h x) refl)
      (λ x s. arrived-shipped packets apps h regular t x s)
      (λ l. no-members (lane_at h.tx_lanes t).accepted (λ x s.
      let k = tx-low x t (first_reply_to h x)
      (tx_accepted-replied packets apps h regular t x s)
      (lines_fit packets apps h small regular fits x).1
      (tx_lane-accepted packets apps h regular t x s) in
      omega (arith, k, l)))

  -- The replies that left through the port.
  port-place : (x : ℕ) (s : Option Sent) → first_reply_to h x ≡ s → place_in x h.port
      ≡ place_for 0 (reply_slot (λ r. in_list 0 r.port)
      (option_map seen_reply (option_map (line_of_sent packets apps h x) s)))
  port-place x None e = port-unreplied packets apps h x regular e
  port-place x (Some s) e = own-list 0 0 (place_in x h.port) (place_in x h.port) (record {
    own_place = λ f. refl;
    no_other = λ ne. absurd (ne refl);
  })

  pub port-shelved : IsShelved h.start Port (seen_of packets apps h) 0 h.port
  port-shelved = shelved Port 0 h.port regular.shipped.port_once
      (λ x. port-place x (first_reply_to h x) refl)
      (λ x s. arrived-port packets apps h regular x s) (λ l. absurd (omega (arith, l)))
