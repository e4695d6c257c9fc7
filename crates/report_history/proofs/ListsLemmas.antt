-- The lists of a regular history are what the lines of its report show of them.
use Rattle.std.proofs.Common.{ℕ, zero, suc, ◌+◌, ◌≤◌, ◌<◌, ◌≡◌, ◌^◌, true, List, []}
use Rattle.std.proofs.Common.{◌∷◌, Option, Some, None, map, length, refl, ap, ◌∙◌, sym, arith}
use Rattle.std.proofs.Common.{get_or, inl, inr, append-nil}
use Rattle.std.specs.Prelude.{◌==◌, if◌then◌else◌}
use Rattle.std.specs.List.{filter_map}
use Rattle.std.specs.Option.{is_some, option_and_then, option_map, option_or}
use Rattle.std.proofs.lemmas.Bool.{cases_eq, eq-eqb, ne_eqb}
use Rattle.steer_base.specs.Arrivals.{route}
use Rattle.steer_base.specs.Counters.{number}
use Rattle.steer_base.specs.Entries.{place_in}
use Rattle.steer_base.specs.declared.choice.Choice.{Choice}
use Rattle.steer_base.specs.declared.choice.Chosen.{Chosen}
use Rattle.steer_base.specs.declared.packet.Packet.{Packet}
use Rattle.steer_base.specs.declared.put.LaneDrop.{LaneDrop}
use Rattle.steer_base.specs.declared.put.Put.TheVariants.{At}
use Rattle.history.specs.Finding.{found, first_some, is_in}
use Rattle.history.specs.Lines.{accepted_place, choice_in, choice_of, drop_in, dropped_as}
use Rattle.history.specs.Lines.{first_reply_to, line_of_sent, position_of, tx_choice_of}
use Rattle.history.specs.Lines.{via_of}
use Rattle.history.specs.Lists.{app_at, arrival_of, arrivals_at, drop_ids, lane_at, list_at}
use Rattle.history.specs.Lists.{no_arrival, packet_at}
use Rattle.history.specs.Ranges.{HaveLinesThatFit, HistoryFits}
use Rattle.history.specs.Regular.{AreQueued, Regular, route_of}
use Rattle.history.specs.Shown.{without_class}
use Rattle.history.specs.declared.arrival.Arrival.{Arrival}
use Rattle.history.specs.declared.history.History.{History}
use Rattle.history.specs.declared.sent.Sent.{Sent}
use Rattle.history.proofs.BoundLemmas.{once-dropped}
use Rattle.history.proofs.FindingLemmas.{is_in-here, is_in-past}
use Rattle.history.proofs.FoundAgain.Arrivals.{arrival-id, arrivals-once}
use Rattle.history.proofs.FoundAgain.Histories.{tx_choice-class, unreplied}
use Rattle.history.proofs.FoundAgain.Traces.{dropped-lane, lane_or}
use Rattle.history.proofs.RegularLemmas.{arrival-at, arrived-dropped, arrived-inbox, choice-own}
use Rattle.history.proofs.RegularLemmas.{choice-queue, found-key, is_some-choice_in, is_some-found}
use Rattle.history.proofs.RegularLemmas.{sent-inbox, tx_choice-own}
use Rattle.history.proofs.OwnLemmas.{own-first}
use Rattle.history.proofs.SamePlaces.{Once-front, no_value, same_lists}
use Rattle.report_reader.specs.Parts.{seen_reply}
use Rattle.report_reader.specs.declared.slots.Seen.{Seen}
use Rattle.report_history.specs.Lists.{AreQueueChoices}
use Rattle.report_history.specs.Shown.{arrival_via, arrivals_from, queue_choice, shown_choice}
use Rattle.report_history.specs.Shown.{with_packet}
use Rattle.report_history.specs.Shown.{put_drop, shown_drop, line_sent, shown_sent}
use Rattle.report_history.specs.Shown.{shown_tx_choice, with_class}
use Rattle.report_history.proofs.PickedLemmas.{firsts, picked-at, picked-keys, picked-same}
use Rattle.report_history.proofs.SeenLemmas.{choice-shown, put-shown, reply-shown, seen_at, seen_of}
use Rattle.report_history.proofs.SeenLemmas.{seen-is, seen-long}
use Rattle.report_history.proofs.ShelvedLemmas.{dropped-not_accepted, fallen-at}

-- Arrivals.
length-arrivals : (i : ℕ) (seen : List Seen) → length (arrivals_from i seen) ≡ length seen
length-arrivals i [] = refl
length-arrivals i (s ∷ rest) = ap suc (length-arrivals (i + 1) rest)

arrivals-at : (i x : ℕ) (seen : List Seen) (d : Arrival) (e : Seen) → x < length seen
    → get_or (arrivals_from i seen) x d
    ≡ arrival_via (i + x) (get_or seen x e).packet.queue (get_or seen x e).packet.via
arrivals-at i x [] d e l = absurd (omega (arith, l))
arrivals-at i zero (s ∷ rest) d e l =
    let n : i ≡ i + 0 = omega arith in ap (λ k. arrival_via k s.packet.queue s.packet.via) n
arrivals-at i (suc x) (s ∷ rest) d e l =
    let n : i + 1 + x ≡ i + suc x = omega arith in
    arrivals-at (i + 1) x rest d e (omega (arith, l))
    ∙ ap (λ k. arrival_via k (get_or rest x e).packet.queue (get_or rest x e).packet.via) n

-- an arrival by what led to its queue
arrival-again : (a : Arrival) (x n : ℕ) (hash f : Option ℕ) → a.id ≡ x
    → route_of a ≡ route hash f n → arrival_via x a.queue (via_of a) ≡ a
arrival-again a x n None f i e =
    let filter : a.filter ≡ None = ap (λ r. r.filter) e in
    let entry : a.entry ≡ None = ap (λ r. r.entry) e in
    let by : arrival_via x a.queue (via_of a)
    ≡ record { id = x; queue = a.queue; filter = None; entry = None } =
    rw (filter, entry) refl in
    by ∙ (λ w. record { id = sym i w; queue = a.queue; filter = sym filter w; entry = sym entry w })
arrival-again a x n (Some hash) None i e =
    let filter : a.filter ≡ None = ap (λ r. r.filter) e in
    let entry : a.entry ≡ Some n = ap (λ r. r.entry) e in
    let queue : a.queue ≡ n = ap (λ r. r.queue) e in
    let by : arrival_via x a.queue (via_of a)
    ≡ record { id = x; queue = a.queue; filter = None; entry = Some a.queue } =
    rw (filter, entry) refl in
    let named : Some a.queue ≡ a.entry = ap (λ q. Some q) queue ∙ sym entry in
    by ∙ (λ w. record { id = sym i w; queue = a.queue; filter = sym filter w; entry = named w })
arrival-again a x n (Some hash) (Some q) i e =
    let filter : a.filter ≡ Some q = ap (λ r. r.filter) e in
    let entry : a.entry ≡ None = ap (λ r. r.entry) e in
    let queue : a.queue ≡ q = ap (λ r. r.queue) e in
    let by : arrival_via x a.queue (via_of a)
    ≡ record { id = x; queue = a.queue; filter = Some a.queue; entry = None } =
    rw filter refl in
    let named : Some a.queue ≡ a.filter = ap (λ k. Some k) queue ∙ sym filter in
    by ∙ (λ w. record { id = sym i w; queue = a.queue; filter = named w; entry = sym entry w })

-- a choice, by its packet
chosen-again : (x : ℕ) (cs : List Chosen) → option_map (with_packet x) (choice_in x cs)
    ≡ found (λ c. c.id) x cs
chosen-again x cs = by (found (λ c. c.id) x cs) (λ c e. found-key (λ d. d.id) x cs c e)
  where
    by : (o : Option Chosen) → ((c : Chosen) → o ≡ Some c → c.id ≡ x)
        → option_map (with_packet x) (option_map (λ c. c.choice) o) ≡ o
    by None k = refl
    by (Some c) k = let i : x ≡ c.id = sym (k c refl) in
        λ w. Some (record { id = i w; choice = c.choice })

-- an item's key is among the keys
has-key : {A : Type 0} (key : A → ℕ) (xs : List A) (k : ℕ) (d : A) → k < length xs
    → is_in (key (get_or xs k d)) (map key xs) ≡ true
has-key key [] k d l = absurd (omega (arith, l))
has-key key (x ∷ xs) zero d l = is_in-here (key x) (key x) (map key xs) refl
has-key key (x ∷ xs) (suc k) d l =
    let rest = has-key key xs k d (omega (arith, l)) in
    elim (cases_eq (key (get_or xs k d)) (key x)) [
      | inl e ↦ is_in-here (key (get_or xs k d)) (key x) (map key xs) e
      | inr ne ↦ is_in-past (key (get_or xs k d)) (key x) (map key xs) ne ∙ rest
    ]

-- the default for a reply
abbrev no_sent : Sent
no_sent = record { id = 0; rxq = 0; cpu = 0 }

module _ (packets : List Packet) (apps : ℕ) (h : History) (regular : Regular packets apps h)
    (fits : HistoryFits h) (small : length packets ≤ 262144) (lines_fit : HaveLinesThatFit) where
  pub arrivals-shown : AreQueued packets h
      → arrivals_from 0 (seen_of packets apps h) ≡ h.arrivals
  arrivals-shown queued =
      let seen = seen_of packets apps h in
      let long : length (arrivals_from 0 seen) ≡ length h.arrivals =
      length-arrivals 0 seen ∙ seen-long packets apps h in
      same_lists no_arrival (arrivals_from 0 seen) h.arrivals long (λ x l.
      let n : x < length h.arrivals = omega (arith, l, long) in
      let d = seen_at packets apps h x in
      let a = get_or h.arrivals x no_arrival in
      let is : arrival_of h.arrivals x ≡ a = arrival-at x h.arrivals regular.arrived.numbered n in
      let w = queued x no_arrival n in
      let id : a.id ≡ x =
      let f = arrival-id 0 x h.arrivals regular.arrived.numbered n in omega (arith, f) in
      let zero-x : 0 + x ≡ x = omega arith in
      arrivals-at 0 x seen no_arrival d (omega (arith, n, seen-long packets apps h))
      ∙ ap (λ y. arrival_via y (get_or seen x d).packet.queue (get_or seen x d).packet.via) zero-x
      ∙ ap (λ s. arrival_via x s.packet.queue s.packet.via) (seen-is packets apps h x d n)
      ∙ ap (λ b. arrival_via x b.queue (via_of b)) is
      ∙ arrival-again a x w.1 (packet_at packets a.id).hash w.0 id w.2)

  -- The choices of a receive queue.
  chosen-here : (q k : ℕ) → k < length h.arrivals
      → queue_choice (seen_of packets apps h) q (get_or h.arrivals k no_arrival)
      ≡ (if (get_or h.arrivals k no_arrival).queue == q
      then found (λ c. c.id) (get_or h.arrivals k no_arrival).id (list_at h.choices q)
      else None)
  chosen-here q k l =
      let a = get_or h.arrivals k no_arrival in
      let seen = seen_of packets apps h in
      let cs = list_at h.choices q in
      let id : a.id ≡ k =
      let f = arrival-id 0 k h.arrivals regular.arrived.numbered l in omega (arith, f) in
      elim (cases_eq a.queue q) [
        | inl e ↦
            let n : a.id < length h.arrivals = omega (arith, l, id) in
            let is : arrival_of h.arrivals a.id ≡ a =
            ap (arrival_of h.arrivals) id
            ∙ arrival-at k h.arrivals regular.arrived.numbered l in
            let own : choice_of h a.id ≡ choice_in a.id cs =
            choice-own packets apps h regular a.id
            ∙ ap (λ b. choice_in a.id (list_at h.choices b.queue)) is
            ∙ ap (λ p. choice_in a.id (list_at h.choices p)) e in
            let same : option_map (with_packet a.id) (shown_choice seen a.id)
            ≡ found (λ c. c.id) a.id cs =
            ap (option_map (with_packet a.id)) (choice-shown packets apps h a.id n ∙ own)
            ∙ chosen-again a.id cs in
            rw (eq-eqb a.queue q e) same
        | inr ne ↦ rw (ne_eqb a.queue q ne) refl
      ]

  no-choices : (q : ℕ) (cs : List Chosen) → list_at h.choices q ≡ cs → 256 ≤ q → cs ≡ []
  no-choices q [] e l = refl
  no-choices q (c ∷ cs) e l =
      let s : is_some (choice_in c.id (c ∷ cs)) ≡ true =
      is_some-choice_in c.id (c ∷ cs) ∙ is_in-here c.id c.id (map (λ d. d.id) cs) refl in
      let w = choice-queue packets apps h regular q c.id
      (ap (λ ds. is_some (choice_in c.id ds)) e ∙ s) in
      let f : (arrival_of h.arrivals c.id).queue < 2 ^ 8 =
      (lines_fit packets apps h small regular fits c.id).0.queue in
      absurd (omega (arith, w.1, f, l))

  pub choices-shown : (q : ℕ)
      → AreQueueChoices (seen_of packets apps h) h.arrivals q (list_at h.choices q)
  choices-shown q =
      let cs = list_at h.choices q in
      record {
        each =
            picked-at q (queue_choice (seen_of packets apps h) q) (λ i. found (λ c. c.id) i cs)
            h.arrivals (chosen-here q)
            ∙ firsts (λ c. c.id) (arrivals_at h.arrivals q) cs
            (arrivals-once q h.arrivals regular.arrived.numbered) (regular.arrived.chosen q);
        low = λ l. no-choices q cs refl l;
      }

  -- The drops of a lane.
  drop-again : (x : ℕ) (o place : Option ℕ) (fell : Option LaneDrop) → o ≡ None
      → is_some place ≡ true → is_some fell ≡ is_some place
      → ((d : LaneDrop) → fell ≡ Some d → d.id ≡ x)
      → option_and_then (put_drop x)
      (option_or (option_map (λ n. At n) (option_map (number h.start) o))
      (option_and_then (λ d. option_map (dropped_as d) place) fell)) ≡ fell
  drop-again x (Some n) place fell z s e key = absurd (cc)
  drop-again x None None fell z s e key = absurd (cc)
  drop-again x None (Some k) None z s e key = absurd (cc)
  drop-again x None (Some k) (Some d) z s e key =
      let i : x ≡ d.id = sym (key d refl) in
      λ w. Some (record { id = i w; accepted = d.accepted; pulled = d.pulled; cause = d.cause })

  drop-shown : (c x : ℕ) → is_in x (drop_ids (lane_at h.lanes c)) ≡ true
      → shown_drop (seen_of packets apps h) x
      ≡ found (λ d. d.id) x (lane_at h.lanes c).drops
  drop-shown c x s =
      let lane = lane_at h.lanes c in
      let fell = found (λ d. d.id) x lane.drops in
      let l : x < length h.arrivals = arrived-dropped packets apps h regular c x s in
      let own : c ≡ lane_or (choice_of h x) = dropped-lane packets apps h regular c x s in
      let none : accepted_place h.lanes x ≡ None = no_value (accepted_place h.lanes x)
      (λ n e. dropped-not_accepted packets apps h regular fits small lines_fit c x n s e) in
      let here : first_some (drop_in x) h.lanes ≡ drop_in x lane =
      fallen-at packets apps h regular fits small lines_fit x
      ∙ ap (λ k. drop_in x (lane_at h.lanes k)) (sym own) in
      ap (option_and_then (put_drop x)) (put-shown packets apps h x l)
      ∙ ap (λ o. option_and_then (put_drop x)
      (option_or (option_map (λ n. At n) (position_of h x)) o)) here
      ∙ drop-again x (accepted_place h.lanes x) (place_in x (drop_ids lane)) fell none s
      (is_some-found (λ d. d.id) x lane.drops) (λ d e. found-key (λ f. f.id) x lane.drops d e)

  pub drops-shown : (c : ℕ)
      → filter_map (shown_drop (seen_of packets apps h)) (drop_ids (lane_at h.lanes c))
      ≡ (lane_at h.lanes c).drops
  drops-shown c =
      let lane = lane_at h.lanes c in
      picked-same (shown_drop (seen_of packets apps h)) (λ i. found (λ d. d.id) i lane.drops)
      (drop_ids lane) (λ x s. drop-shown c x s)
      ∙ firsts (λ d. d.id) (drop_ids lane) lane.drops (once-dropped h.lanes regular.steered.once c)
      ([], append-nil (drop_ids lane))

  -- The replies of an application.
  sent-again : (x : ℕ) (o : Option Sent) → ((s : Sent) → o ≡ Some s → s.id ≡ x)
      → option_map (line_sent x)
      (option_map seen_reply (option_map (line_of_sent packets apps h x) o)) ≡ o
  sent-again x None key = refl
  sent-again x (Some s) key =
      let i : x ≡ s.id = sym (key s refl) in
      λ w. Some (record { id = i w; rxq = s.rxq; cpu = s.cpu })

  sent-own : (x : ℕ) → first_reply_to h x ≡ found (λ s. s.id) x
      (list_at h.sent (app_at packets apps x))
  sent-own x = own-first (found (λ s. s.id) x) [] h.sent (Some (app_at packets apps x)) refl
      (λ a s. ap (λ n. Some n) (regular.delivered.own a x (sent-inbox packets apps h regular a x
      (sym (is_some-found (λ d. d.id) x (list_at h.sent a)) ∙ s))))

  sent-shown : (a x : ℕ) → is_in x (list_at h.inboxes a) ≡ true
      → shown_sent (seen_of packets apps h) x ≡ found (λ s. s.id) x (list_at h.sent a)
  sent-shown a x s =
      let l : x < length h.arrivals = arrived-inbox packets apps h regular a x s in
      let own : first_reply_to h x ≡ found (λ t. t.id) x (list_at h.sent a) =
      sent-own x
      ∙ ap (λ b. found (λ t. t.id) x (list_at h.sent b)) (regular.delivered.own a x s) in
      ap (option_map (line_sent x)) (reply-shown packets apps h x l)
      ∙ sent-again x (first_reply_to h x) (λ t e.
      found-key (λ u. u.id) x (list_at h.sent a) t (sym own ∙ e))
      ∙ own

  pub replies-shown : (a : ℕ)
      → filter_map (shown_sent (seen_of packets apps h)) (list_at h.inboxes a) ≡ list_at h.sent a
  replies-shown a =
      picked-same (shown_sent (seen_of packets apps h))
      (λ i. found (λ s. s.id) i (list_at h.sent a))
      (list_at h.inboxes a) (λ x s. sent-shown a x s)
      ∙ firsts (λ s. s.id) (list_at h.inboxes a) (list_at h.sent a) (regular.delivered.once a)
      (regular.replies.sent a)

  -- Their transmit queue choices.
  class-again : (x flow : ℕ) (o : Option Choice)
      → ((c : Choice) → o ≡ Some c → c.class ≡ Some flow)
      → option_map (λ c. with_packet x (with_class flow c)) (option_map without_class o)
      ≡ option_map (with_packet x) o
  class-again x flow None e = refl
  class-again x flow (Some c) e =
      let f : Some flow ≡ c.class = sym (e c refl) in
      λ w. Some (record {
        id = x;
        choice = record {
          class = f w;
          head = c.head;
          tail = c.tail;
          want = c.want;
          lane = c.lane;
          why = c.why;
        };
      })

  choice-of-line : (x : ℕ) (o : Option Sent) → (o ≡ None → tx_choice_of h x ≡ None)
      → option_and_then (λ r. r.choice)
      (option_map seen_reply (option_map (line_of_sent packets apps h x) o))
      ≡ option_map without_class (tx_choice_of h x)
  choice-of-line x None e = ap (option_map without_class) (sym (e refl))
  choice-of-line x (Some s) e = refl

  tx-shown : (a k : ℕ) → k < length (list_at h.sent a)
      → shown_tx_choice (seen_of packets apps h) packets (get_or (list_at h.sent a) k no_sent)
      ≡ found (λ c. c.id) (get_or (list_at h.sent a) k no_sent).id (list_at h.tx_choices a)
  tx-shown a k l =
      let s = get_or (list_at h.sent a) k no_sent in
      let x = s.id in
      let flow = (packet_at packets x).flow_number in
      let cs = list_at h.tx_choices a in
      let in-sent : is_in x (map (λ t. t.id) (list_at h.sent a)) ≡ true =
      has-key (λ t. t.id) (list_at h.sent a) k no_sent l in
      let in-box = sent-inbox packets apps h regular a x in-sent in
      let n : x < length h.arrivals = arrived-inbox packets apps h regular a x in-box in
      let own : tx_choice_of h x ≡ choice_in x cs =
      tx_choice-own packets apps h regular x
      ∙ ap (λ b. choice_in x (list_at h.tx_choices b)) (regular.delivered.own a x in-box) in
      ap (λ o. option_map (λ c. with_packet x (with_class flow c))
      (option_and_then (λ r. r.choice) o)) (reply-shown packets apps h x n)
      ∙ ap (option_map (λ c. with_packet x (with_class flow c)))
      (choice-of-line x (first_reply_to h x) (unreplied packets apps h x regular))
      ∙ class-again x flow (tx_choice_of h x) (λ c e. tx_choice-class packets apps h x c regular e)
      ∙ ap (option_map (with_packet x)) own
      ∙ chosen-again x cs

  pub tx-choices-shown : (a : ℕ)
      → filter_map (shown_tx_choice (seen_of packets apps h) packets) (list_at h.sent a)
      ≡ list_at h.tx_choices a
  tx-choices-shown a =
      let ids = map (λ s. s.id) (list_at h.sent a) in
      picked-keys (λ s. s.id) (shown_tx_choice (seen_of packets apps h) packets)
      (λ i. found (λ c. c.id) i (list_at h.tx_choices a)) (list_at h.sent a)
      no_sent (tx-shown a)
      ∙ firsts (λ c. c.id) ids (list_at h.tx_choices a)
      (Once-front ids (list_at h.inboxes a) (regular.replies.sent a) (regular.delivered.once a))
      (regular.replies.chosen a)
