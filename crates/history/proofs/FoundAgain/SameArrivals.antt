-- The arrivals, the choices, the lanes and the inboxes of a regular history are found again.
use Rattle.std.proofs.Common.{ℕ, zero, suc, ◌≤◌, ◌<◌, ◌≡◌, ◌≢◌, true, List, [], ◌∷◌, Option, Some}
use Rattle.std.proofs.Common.{None, map, length, refl, ap, ◌∙◌, sym, arith, inl, inr, get_or, ◌^◌}
use Rattle.std.specs.Option.{option_map, is_some}
use Rattle.std.proofs.lemmas.Bool.{cases_lt}
use Rattle.steer_base.specs.Arrivals.{route}
use Rattle.steer_base.specs.Counters.{number}
use Rattle.steer_base.specs.Entries.{place_in}
use Rattle.steer_base.specs.declared.choice.Chosen.{Chosen}
use Rattle.steer_base.specs.declared.packet.Packet.{Packet}
use Rattle.history.specs.Finding.{is_in, found, first_some}
use Rattle.history.specs.Lines.{via_of, choice_in, choice_of, accepted_place, position_of, drop_in}
use Rattle.history.specs.Lines.{put_of, inbox_place_of}
use Rattle.history.specs.Lists.{app_at, packet_at, list_at, lane_at, no_lane, no_arrival, drop_ids}
use Rattle.history.specs.Lists.{arrival_of, arrivals_at}
use Rattle.history.specs.Regular.{Regular, AreQueued, route_of}
use Rattle.history.specs.Shown.{sums_of, SameShown}
use Rattle.history.specs.declared.arrival.Arrival.{Arrival}
use Rattle.history.specs.declared.history.History.{History}
use Rattle.history.specs.declared.lane_list.LaneList.{LaneList}
use Rattle.history.specs.declared.packet_line.Via.TheVariants.{Filter, Reta}
use Rattle.history.proofs.FoundAgain.Arrivals.{arrival-id, arrivals-once}
use Rattle.history.proofs.BoundLemmas.{once-accepted, once-dropped, short-lists}
use Rattle.history.proofs.FoundAgain.Looks.{first_some-none, first_some-only, same_looks}
use Rattle.history.proofs.OwnLemmas.{not-true}
use Rattle.history.proofs.RegularLemmas.{found-key, arrival-at, arrived-accepted, arrived-dropped}
use Rattle.history.proofs.RegularLemmas.{arrived-inbox}
use Rattle.history.proofs.SamePlaces.{some_same, no_value, no_place, place-bounds, rear}
use Rattle.history.proofs.SamePlaces.{same_firsts, same_places, same_items, same_lists}
use Rattle.history.proofs.FoundAgain.SamePuts.{position-place, drop-no_position, put-parts, no_drop}
use Rattle.history.proofs.FoundAgain.SamePuts.{drop-parts}
use Rattle.history.proofs.FoundAgain.Traces.{queue_at, choice-elsewhere, choice-arrived, lane_or}
use Rattle.history.proofs.FoundAgain.Traces.{accepted-lane, dropped-lane, never_both}

-- Two histories and what they have in common.
pub record Both (packets : List Packet) (apps : ℕ) (h k : History) : Type 0 where
  pub small : length packets ≤ 262144
  pub left : Regular packets apps h
  pub left_queued : AreQueued packets h
  pub right : Regular packets apps k
  pub right_queued : AreQueued packets k
  pub shown : SameShown packets apps h k

apart : Filter ≡ Reta → ⊥
apart e = cc

-- an arrival by its number, its queue and what led to it
pub same_way : (a b : Arrival) (hash : Option ℕ) (f : Option ℕ) (n : ℕ) (g : Option ℕ) (m : ℕ)
    → a.id ≡ b.id → a.queue ≡ b.queue → via_of a ≡ via_of b
    → route_of a ≡ route hash f n → route_of b ≡ route hash g m → a ≡ b
same_way a b None f n g m i q v s t =
    let x : a.filter ≡ b.filter = ap (λ r. r.filter) s ∙ sym (ap (λ r. r.filter) t) in
    let y : a.entry ≡ b.entry = ap (λ r. r.entry) s ∙ sym (ap (λ r. r.entry) t) in
    λ w. record { id = i w; queue = q w; filter = x w; entry = y w }
same_way a b (Some hash) (Some p) n (Some o) m i q v s t =
    let e : p ≡ o = sym (ap (λ r. r.queue) s) ∙ q ∙ ap (λ r. r.queue) t in
    let x : a.filter ≡ b.filter = ap (λ r. r.filter) s ∙ ap (λ z. Some z) e
    ∙ sym (ap (λ r. r.filter) t) in
    let y : a.entry ≡ b.entry = ap (λ r. r.entry) s ∙ sym (ap (λ r. r.entry) t) in
    λ w. record { id = i w; queue = q w; filter = x w; entry = y w }
same_way a b (Some hash) None n None m i q v s t =
    let e : n ≡ m = sym (ap (λ r. r.queue) s) ∙ q ∙ ap (λ r. r.queue) t in
    let x : a.filter ≡ b.filter = ap (λ r. r.filter) s ∙ sym (ap (λ r. r.filter) t) in
    let y : a.entry ≡ b.entry = ap (λ r. r.entry) s ∙ ap (λ z. Some z) e
    ∙ sym (ap (λ r. r.entry) t) in
    λ w. record { id = i w; queue = q w; filter = x w; entry = y w }
same_way a b (Some hash) (Some p) n None m i q v s t =
    let af : a.filter ≡ Some p = ap (λ r. r.filter) s in
    let bf : b.filter ≡ None = ap (λ r. r.filter) t in
    let be : b.entry ≡ Some m = ap (λ r. r.entry) t in
    let va : via_of a ≡ Filter = rw af refl in
    let vb : via_of b ≡ Reta = rw (bf, be) refl in
    absurd (apart (sym va ∙ v ∙ vb))
same_way a b (Some hash) None n (Some o) m i q v s t =
    let af : a.filter ≡ None = ap (λ r. r.filter) s in
    let ae : a.entry ≡ Some n = ap (λ r. r.entry) s in
    let bf : b.filter ≡ Some o = ap (λ r. r.filter) t in
    let va : via_of a ≡ Reta = rw (af, ae) refl in
    let vb : via_of b ≡ Filter = rw bf refl in
    absurd (apart (sym vb ∙ sym v ∙ va))

pub same_arrivals : (packets : List Packet) (apps : ℕ) (h k : History) → Both packets apps h k
    → h.arrivals ≡ k.arrivals
same_arrivals packets apps h k b = same_lists no_arrival h.arrivals k.arrivals b.shown.arrived
    (λ x l.
    let l' : x < length k.arrivals = omega (arith, l, b.shown.arrived) in
    let s = b.shown.packet x l in
    let one = get_or h.arrivals x no_arrival in
    let two = get_or k.arrivals x no_arrival in
    let e : arrival_of h.arrivals x ≡ one = arrival-at x h.arrivals b.left.arrived.numbered l in
    let f : arrival_of k.arrivals x ≡ two = arrival-at x k.arrivals b.right.arrived.numbered l' in
    let ids : one.id ≡ two.id = arrival-id 0 x h.arrivals b.left.arrived.numbered l
    ∙ sym (arrival-id 0 x k.arrivals b.right.arrived.numbered l') in
    let v = b.left_queued x no_arrival l in
    let w = b.right_queued x no_arrival l' in
    same_way one two (packet_at packets one.id).hash v.0 v.1 w.0 w.1 ids
    (sym (ap (λ a. a.queue) e) ∙ s.queue ∙ ap (λ a. a.queue) f)
    (sym (ap via_of e) ∙ s.via ∙ ap via_of f)
    v.2 (w.2 ∙ ap (λ i. route (packet_at packets i).hash w.0 w.1) (sym ids)))

-- The choices.
pub same_choice : (packets : List Packet) (apps : ℕ) (h k : History) → Both packets apps h k
    → (x : ℕ) → choice_of h x ≡ choice_of k x
same_choice packets apps h k b x = elim (cases_lt x (length h.arrivals)) [
  | inl l ↦ (b.shown.packet x l).choice
  | inr l ↦
      no_value (choice_of h x) (λ c e. let f = choice-arrived packets apps h b.left x c e in
      omega (arith, f, l))
      ∙ sym (no_value (choice_of k x) (λ c e. let f = choice-arrived packets apps k b.right x c e in
      omega (arith, f, l, b.shown.arrived)))
]

-- items that are found under one key, by what is found of them
pub same_chosen : (x : ℕ) (o p : Option Chosen) → ((c : Chosen) → o ≡ Some c → c.id ≡ x)
    → ((c : Chosen) → p ≡ Some c → c.id ≡ x)
    → option_map (λ c. c.choice) o ≡ option_map (λ c. c.choice) p → o ≡ p
same_chosen x None None a b e = refl
same_chosen x None (Some d) a b e = absurd (cc)
same_chosen x (Some c) None a b e = absurd (cc)
same_chosen x (Some c) (Some d) a b e =
    let key : c.id ≡ d.id = a c refl ∙ sym (b d refl) in
    let f : c.choice ≡ d.choice = some_same c.choice d.choice e in
    λ w. Some (record { id = key w; choice = f w })

pub same_found : (x : ℕ) (cs ds : List Chosen) → choice_in x cs ≡ choice_in x ds
    → found (λ c. c.id) x cs ≡ found (λ c. c.id) x ds
same_found x cs ds e =
    same_chosen x (found (λ c. c.id) x cs) (found (λ c. c.id) x ds)
    (λ c. found-key (λ d. d.id) x cs c) (λ c. found-key (λ d. d.id) x ds c) e

pub same_choices : (packets : List Packet) (apps : ℕ) (h k : History) → Both packets apps h k
    → h.choices ≡ k.choices
same_choices packets apps h k b =
    let arr : h.arrivals ≡ k.arrivals = same_arrivals packets apps h k b in
    let long : length h.choices ≡ length k.choices = b.left.matched.choices
    ∙ ap length b.shown.taken ∙ sym b.right.matched.choices in
    same_lists [] h.choices k.choices long (λ q l.
    same_firsts (λ c. c.id) (arrivals_at h.arrivals q) (list_at h.choices q) (list_at k.choices q)
    (arrivals-once q h.arrivals b.left.arrived.numbered) (b.left.arrived.chosen q) (
      (b.right.arrived.chosen q).0,
      (b.right.arrived.chosen q).1
          ∙ sym (ap (λ a. arrivals_at a q) arr),
    )
    (λ x. same_found x (list_at h.choices q) (list_at k.choices q)
    (same_looks (choice_in x) [] refl h.choices k.choices (queue_at h x)
    (λ p ne. choice-elsewhere packets apps h b.left p x ne)
    (λ p ne. choice-elsewhere packets apps k b.right p x
    (λ e. ne (e ∙ sym (ap (λ a. (arrival_of a x).queue) arr))))
    (same_choice packets apps h k b x) q)))

-- The lanes. A packet stands in the lists of no other lane than that of its choice.
pub accepted-elsewhere : (packets : List Packet) (apps : ℕ) (h : History) (x c : ℕ)
    → Regular packets apps h → c ≢ lane_or (choice_of h x)
    → place_in x (lane_at h.lanes c).accepted ≡ None
accepted-elsewhere packets apps h x c r ne = no_value (place_in x (lane_at h.lanes c).accepted)
    (λ n e.
    ne (accepted-lane packets apps h r c x (ap is_some e)))

pub drop-elsewhere : (packets : List Packet) (apps : ℕ) (h : History) (x c : ℕ)
    → Regular packets apps h
    → c ≢ lane_or (choice_of h x)
    → drop_in x (lane_at h.lanes c) ≡ None
drop-elsewhere packets apps h x c r ne =
    no_drop x (lane_at h.lanes c) (no_value (place_in x (drop_ids (lane_at h.lanes c))) (λ n e.
    ne (dropped-lane packets apps h r c x (ap is_some e))))

-- and a packet that did not arrive in none
pub accepted-unarrived : (packets : List Packet) (apps : ℕ) (h : History) (x : ℕ)
    → Regular packets apps h → length h.arrivals ≤ x → accepted_place h.lanes x ≡ None
accepted-unarrived packets apps h x r l =
    first_some-none (λ lane. place_in x lane.accepted) no_lane h.lanes (λ c.
    no_value (place_in x (lane_at h.lanes c).accepted) (λ n e.
    let f = arrived-accepted packets apps h r c x (ap is_some e) in omega (arith, f, l)))

pub drop-unarrived : (packets : List Packet) (apps : ℕ) (h : History) (x : ℕ)
    → Regular packets apps h
    → length h.arrivals ≤ x → first_some (drop_in x) h.lanes ≡ None
drop-unarrived packets apps h x r l = first_some-none (drop_in x) no_lane h.lanes (λ c.
    no_drop x (lane_at h.lanes c) (no_value (place_in x (drop_ids (lane_at h.lanes c))) (λ n e.
    let f = arrived-dropped packets apps h r c x (ap is_some e) in omega (arith, f, l))))

-- the place among the accepted packets is that at the lane of the choice
pub accepted-at : (packets : List Packet) (apps : ℕ) (h : History) (x : ℕ) → Regular packets apps h
    → accepted_place h.lanes x ≡ place_in x (lane_at h.lanes (lane_or (choice_of h x))).accepted
accepted-at packets apps h x r =
    first_some-only (λ lane. place_in x lane.accepted) no_lane refl h.lanes
    (lane_or (choice_of h x)) (λ c ne. accepted-elsewhere packets apps h x c r ne)

pub accepted-bound : (packets : List Packet) (apps : ℕ) (h : History) (x n : ℕ)
    → Regular packets apps h
    → length packets ≤ 262144
    → accepted_place h.lanes x ≡ Some n → n < 2 ^ 32
accepted-bound packets apps h x n r small e =
    let c = lane_or (choice_of h x) in
    let p = place-bounds x (lane_at h.lanes c).accepted n (sym (accepted-at packets apps h x r)
    ∙ e) in
    let few = (short-lists packets apps h r small).accepted c in
    omega (arith, p.1, few)

-- an accepted packet has no drop
pub accepted-no_drop : (packets : List Packet) (apps : ℕ) (h : History) (x n : ℕ)
    → Regular packets apps h → accepted_place h.lanes x ≡ Some n
    → first_some (drop_in x) h.lanes ≡ None
accepted-no_drop packets apps h x n r e =
    let c = lane_or (choice_of h x) in
    let has : is_in x (lane_at h.lanes c).accepted ≡ true =
    ap is_some (sym (accepted-at packets apps h x r) ∙ e) in
    first_some-only (drop_in x) no_lane refl h.lanes c
    (λ d ne. drop-elsewhere packets apps h x d r ne)
    ∙ no_drop x (lane_at h.lanes c) (no_place x (drop_ids (lane_at h.lanes c))
    (not-true (is_in x (drop_ids (lane_at h.lanes c)))
    (λ t. never_both h.lanes c x r.steered.once has t)))

abbrev SameFate : History → History → ℕ → Type 0
SameFate h k x = (accepted_place h.lanes x ≡ accepted_place k.lanes x)
    × (first_some (drop_in x) h.lanes ≡ first_some (drop_in x) k.lanes)

pub fate_drop : (packets : List Packet) (apps : ℕ) (h k : History) → Both packets apps h k
    → (x : ℕ) (o : Option ℕ) → accepted_place h.lanes x ≡ o
    → accepted_place h.lanes x ≡ accepted_place k.lanes x
    → (position_of h x ≡ None → first_some (drop_in x) h.lanes ≡ first_some (drop_in x) k.lanes)
    → first_some (drop_in x) h.lanes ≡ first_some (drop_in x) k.lanes
fate_drop packets apps h k b x None e f g = g (ap (λ o. option_map (number h.start) o) e)
fate_drop packets apps h k b x (Some n) e f g =
    accepted-no_drop packets apps h x n b.left e ∙ sym (accepted-no_drop packets apps k x n b.right
    (sym f ∙ e))

-- equal puts are of one place, and of one drop
put-fate : (packets : List Packet) (apps : ℕ) (h k : History) → Both packets apps h k → (x : ℕ)
    → put_of h x ≡ put_of k x → SameFate h k x
put-fate packets apps h k b x e =
    let parts = put-parts (position_of h x) (position_of k x) (first_some (drop_in x) h.lanes)
    (first_some (drop_in x) k.lanes)
    (λ n. drop-no_position x n h.lanes) (λ n. drop-no_position x n k.lanes) e in
    let places : accepted_place h.lanes x ≡ accepted_place k.lanes x =
    position-place h.start (accepted_place h.lanes x) (accepted_place k.lanes x)
    (λ n f. accepted-bound packets apps h x n b.left b.small f)
    (λ n f. accepted-bound packets apps k x n b.right b.small f)
    (parts.0 ∙ ap (λ s. option_map (number s) (accepted_place k.lanes x)) (sym b.shown.start)) in
    (places, fate_drop packets apps h k b x (accepted_place h.lanes x) refl places parts.1)

pub same_fate : (packets : List Packet) (apps : ℕ) (h k : History) → Both packets apps h k → (x : ℕ)
    → SameFate h k x
same_fate packets apps h k b x = elim (cases_lt x (length h.arrivals)) [
  | inl l ↦ put-fate packets apps h k b x (b.shown.packet x l).put
  | inr l ↦
      let m : length k.arrivals ≤ x = omega (arith, l, b.shown.arrived) in
      let n : length h.arrivals ≤ x = omega (arith, l) in (
        accepted-unarrived packets apps h x b.left n
            ∙ sym (accepted-unarrived packets apps k x b.right m),
        drop-unarrived packets apps h x b.left n ∙ sym (drop-unarrived packets apps k x b.right m),
      )
]

-- the choices of both name one lane
one_lane : (packets : List Packet) (apps : ℕ) (h k : History) → Both packets apps h k → (x : ℕ)
    → lane_or (choice_of h x) ≡ lane_or (choice_of k x)
one_lane packets apps h k b x = ap lane_or (same_choice packets apps h k b x)

same_accepted : (packets : List Packet) (apps : ℕ) (h k : History) → Both packets apps h k
    → (c x : ℕ)
    → place_in x (lane_at h.lanes c).accepted ≡ place_in x (lane_at k.lanes c).accepted
same_accepted packets apps h k b c x =
    same_looks (λ lane. place_in x lane.accepted) no_lane refl h.lanes k.lanes
    (lane_or (choice_of h x))
    (λ d ne. accepted-elsewhere packets apps h x d b.left ne)
    (λ d ne. accepted-elsewhere packets apps k x d b.right
    (λ e. ne (e ∙ sym (one_lane packets apps h k b x))))
    (same_fate packets apps h k b x).0 c

same_drop : (packets : List Packet) (apps : ℕ) (h k : History) → Both packets apps h k → (c x : ℕ)
    → drop_in x (lane_at h.lanes c) ≡ drop_in x (lane_at k.lanes c)
same_drop packets apps h k b c x =
    same_looks (drop_in x) no_lane refl h.lanes k.lanes (lane_or (choice_of h x))
    (λ d ne. drop-elsewhere packets apps h x d b.left ne)
    (λ d ne. drop-elsewhere packets apps k x d b.right
    (λ e. ne (e ∙ sym (one_lane packets apps h k b x))))
    (same_fate packets apps h k b x).1 c

-- two lanes with the same lists and sums
pub same_lane : (l m : LaneList) → l.accepted ≡ m.accepted → l.drops ≡ m.drops
    → sums_of l ≡ sums_of m → l ≡ m
same_lane l m a d s = λ w. record {
  accepted = a w;
  drops = d w;
  pulled = (s w).pulled;
  delivered =
      (s w).delivered;
  retired = (s w).retired;
}

pub sums-at : (ls ms : List LaneList) (c : ℕ) → map sums_of ls ≡ map sums_of ms → c < length ls
    → sums_of (lane_at ls c) ≡ sums_of (lane_at ms c)
sums-at [] ms c e l = absurd (omega (arith, l))
sums-at (a ∷ ls) [] c e l = absurd (cc)
sums-at (a ∷ ls) (b ∷ ms) zero e l = ap (λ xs. get_or xs 0 (sums_of a)) e
sums-at (a ∷ ls) (b ∷ ms) (suc c) e l = sums-at ls ms c (ap rear e) (omega (arith, l))

pub as_many : (ls ms : List LaneList) → map sums_of ls ≡ map sums_of ms → length ls ≡ length ms
as_many [] [] e = refl
as_many [] (b ∷ ms) e = absurd (cc)
as_many (a ∷ ls) [] e = absurd (cc)
as_many (a ∷ ls) (b ∷ ms) e = ap suc (as_many ls ms (ap rear e))

pub same_lanes : (packets : List Packet) (apps : ℕ) (h k : History) → Both packets apps h k
    → h.lanes ≡ k.lanes
same_lanes packets apps h k b = same_lists no_lane h.lanes k.lanes
    (as_many h.lanes k.lanes b.shown.lanes) (λ c l.
    let parts = λ (x : ℕ). drop-parts x (lane_at h.lanes c) (lane_at k.lanes c)
    (same_drop packets apps h k b c x) in
    same_lane (lane_at h.lanes c) (lane_at k.lanes c)
    (same_places (lane_at h.lanes c).accepted (lane_at k.lanes c).accepted
    (once-accepted h.lanes b.left.steered.once c) (once-accepted k.lanes b.right.steered.once c)
    (same_accepted packets apps h k b c))
    (same_items (λ d. d.id) (lane_at h.lanes c).drops (lane_at k.lanes c).drops
    (once-dropped h.lanes b.left.steered.once c) (once-dropped k.lanes b.right.steered.once c)
    (λ x. (parts x).0) (λ x. (parts x).1))
    (sums-at h.lanes k.lanes c b.shown.lanes l))

-- The inboxes. A packet stands in no other inbox than that of its application.
pub inbox-elsewhere : (packets : List Packet) (apps : ℕ) (h : History) (x a : ℕ)
    → Regular packets apps h → a ≢ app_at packets apps x
    → place_in x (list_at h.inboxes a) ≡ None
inbox-elsewhere packets apps h x a r ne = no_value (place_in x (list_at h.inboxes a)) (λ n e.
    ne (sym (r.delivered.own a x (ap is_some e))))

pub inbox-unarrived : (packets : List Packet) (apps : ℕ) (h : History) (x : ℕ)
    → Regular packets apps h
    → length h.arrivals ≤ x → inbox_place_of h x ≡ None
inbox-unarrived packets apps h x r l = first_some-none (place_in x) [] h.inboxes (λ a.
    no_value (place_in x (list_at h.inboxes a)) (λ n e. let f = arrived-inbox packets apps h r a x
    (ap is_some e) in omega (arith, f, l)))

same_inbox : (packets : List Packet) (apps : ℕ) (h k : History) → Both packets apps h k → (x : ℕ)
    → inbox_place_of h x ≡ inbox_place_of k x
same_inbox packets apps h k b x = elim (cases_lt x (length h.arrivals)) [
  | inl l ↦ (b.shown.packet x l).inbox
  | inr l ↦
      inbox-unarrived packets apps h x b.left (omega (arith, l))
      ∙ sym (inbox-unarrived packets apps k x b.right (omega (arith, l, b.shown.arrived)))
]

pub same_inboxes : (packets : List Packet) (apps : ℕ) (h k : History) → Both packets apps h k
    → h.inboxes ≡ k.inboxes
same_inboxes packets apps h k b = same_lists [] h.inboxes k.inboxes (b.left.matched.inboxes
    ∙ sym b.right.matched.inboxes) (λ a l.
    same_places (list_at h.inboxes a) (list_at k.inboxes a) (b.left.delivered.once a)
    (b.right.delivered.once a) (λ x.
    same_looks (place_in x) [] refl h.inboxes k.inboxes (app_at packets apps x)
    (λ d ne. inbox-elsewhere packets apps h x d b.left ne)
    (λ d ne. inbox-elsewhere packets apps k x d b.right ne)
    (same_inbox packets apps h k b x) a))
