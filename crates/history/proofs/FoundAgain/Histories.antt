-- The replies of a regular history are found again, and so is the history.
use Rattle.std.proofs.Common.{ℕ, ◌≤◌, ◌<◌, ◌≡◌, ◌≢◌, ◌⊎◌, List, [], Option, Some, None, map, length}
use Rattle.std.proofs.Common.{refl, ap, ◌∙◌, sym, arith, inl, inr, subst, ◌^◌, true, false}
use Rattle.std.specs.Option.{option_map, is_some}
use Rattle.std.proofs.lemmas.Bool.{cases_lt}
use Rattle.steer_base.specs.Counters.{number}
use Rattle.steer_base.specs.Entries.{place_in}
use Rattle.steer_base.specs.Orders.{Apart}
use Rattle.steer_base.specs.declared.choice.Choice.{Choice}
use Rattle.steer_base.specs.declared.packet.Packet.{Packet}
use Rattle.history.specs.Finding.{found, Once}
use Rattle.history.specs.Lines.{choice_in, tx_choice_of, accepted_place, tx_position_of}
use Rattle.history.specs.Lines.{first_reply_to}
use Rattle.history.specs.Lines.{line_of_sent}
use Rattle.history.specs.Lists.{app_at, packet_at, list_at, lane_at, no_lane, accepted_lists}
use Rattle.history.specs.Regular.{Regular}
use Rattle.history.specs.Shown.{without_class, shown_of, IsFoundAgain}
use Rattle.history.specs.declared.history.History.{History}
use Rattle.history.specs.declared.lane_list.LaneList.{LaneList}
use Rattle.history.specs.declared.reply_line.ReplyLine.{ReplyLine}
use Rattle.history.specs.declared.sent.Sent.{Sent}
use Rattle.history.proofs.BoundLemmas.{list-accepted, once-apart, short-lists}
use Rattle.history.proofs.FoundAgain.Looks.{first_some-none, first_some-only, same_looks}
use Rattle.history.proofs.RegularLemmas.{found-key, tx_choice-own}
use Rattle.history.proofs.ReplyLemmas.{sent-app, sent-own}
use Rattle.history.proofs.FoundAgain.SameArrivals.{Both, same_arrivals, same_choices, same_found}
use Rattle.history.proofs.FoundAgain.SameArrivals.{same_lanes, same_inboxes, same_lane, sums-at}
use Rattle.history.proofs.FoundAgain.SameArrivals.{as_many}
use Rattle.history.proofs.SamePlaces.{some_same, no_value, map_some, place-bounds, found-all}
use Rattle.history.proofs.SamePlaces.{same_firsts, same_places, same_lists, Once-front}
use Rattle.history.proofs.FoundAgain.SamePuts.{position-place}
use Rattle.history.proofs.FoundAgain.Traces.{lane_or, sent-elsewhere, tx_choice-elsewhere}
use Rattle.history.proofs.FoundAgain.Traces.{tx_choice-replied, tx_accepted-lane}
use Rattle.history.proofs.FoundAgain.Traces.{tx_accepted-replied, port-replied}

-- a reply that was begun is of an arrived packet, and names it
pub sent-arrived : (packets : List Packet) (apps : ℕ) (h : History) (x : ℕ) (s : Sent)
    → Regular packets apps h → first_reply_to h x ≡ Some s
    → (x < length h.arrivals) × (s.id ≡ x)
sent-arrived packets apps h x s r e =
    let a = app_at packets apps x in
    let f : found (λ t. t.id) x (list_at h.sent a) ≡ Some s = sym (sent-own packets apps h r x)
    ∙ e in (
      (sent-app packets apps h r a x (ap is_some f)).0,
      found-key (λ t. t.id) x
          (list_at h.sent a) s f,
    )

abbrev rxq_of : Option ReplyLine → ℕ
rxq_of None = 0
rxq_of (Some r) = r.rxq

abbrev cpu_of : Option ReplyLine → ℕ
cpu_of None = 0
cpu_of (Some r) = r.cpu

abbrev choice_of_line : Option ReplyLine → Option Choice
choice_of_line None = None
choice_of_line (Some r) = r.choice

abbrev put_of_line : Option ReplyLine → Option ℕ
put_of_line None = None
put_of_line (Some r) = r.put

abbrev port_of_line : Option ReplyLine → Option ℕ
port_of_line None = None
port_of_line (Some r) = r.port

-- What two lines that show the same tell of a reply.
record Replied (h k : History) (x : ℕ) (o p : Option Sent) : Type 0 where
  sent : o ≡ p
  choice : (s : Sent) → o ≡ Some s → option_map without_class
      (tx_choice_of h x) ≡ option_map without_class (tx_choice_of k x)
  put : (s : Sent) → o ≡ Some s → tx_position_of h x ≡ tx_position_of k x
  port : (s : Sent) → o ≡ Some s → place_in x h.port ≡ place_in x k.port

replied_by : (packets : List Packet) (apps : ℕ) (h k : History) (x : ℕ) (o p : Option Sent)
    → ((s : Sent) → o ≡ Some s → s.id ≡ x) → ((s : Sent) → p ≡ Some s → s.id ≡ x)
    → option_map shown_of (option_map (line_of_sent packets apps h x) o) ≡ option_map shown_of
    (option_map (line_of_sent packets apps k x) p)
    → Replied h k x o p
replied_by packets apps h k x None None a b e = record {
  sent = refl;
  choice = λ s f. absurd (cc);
  put = λ s f. absurd (cc);
  port = λ s f. absurd (cc);
}
replied_by packets apps h k x None (Some t) a b e = absurd (cc)
replied_by packets apps h k x (Some s) None a b e = absurd (cc)
replied_by packets apps h k x (Some s) (Some t) a b e = record {
  sent =
      let i : s.id ≡ t.id = a s refl ∙ sym (b t refl) in
      let q : s.rxq ≡ t.rxq = ap rxq_of e in
      let c : s.cpu ≡ t.cpu = ap cpu_of e in
      λ w. Some (record { id = i w; rxq = q w; cpu = c w });
  choice = λ u f. ap choice_of_line e;
  put = λ u f. ap put_of_line e;
  port = λ u f. ap port_of_line e;
}

replied : (packets : List Packet) (apps : ℕ) (h k : History) → Both packets apps h k → (x : ℕ)
    → x < length h.arrivals
    → Replied h k x (first_reply_to h x) (first_reply_to k x)
replied packets apps h k b x l =
    replied_by packets apps h k x (first_reply_to h x) (first_reply_to k x)
    (λ s e. (sent-arrived packets apps h x s b.left e).1)
    (λ s e. (sent-arrived packets apps k x s b.right e).1) (b.shown.reply x l)

-- The sent lists.
same_sent_of : (packets : List Packet) (apps : ℕ) (h k : History) → Both packets apps h k → (x : ℕ)
    → first_reply_to h x ≡ first_reply_to k x
same_sent_of packets apps h k b x = elim (cases_lt x (length h.arrivals)) [
  | inl l ↦ (replied packets apps h k b x l).sent
  | inr l ↦
      no_value (first_reply_to h x) (λ s e. let f = (sent-arrived packets apps h x s b.left e).0 in
      omega (arith, f, l))
      ∙ sym (no_value (first_reply_to k x) (λ s e.
      let f = (sent-arrived packets apps k x s b.right e).0 in
      omega (arith, f, l, b.shown.arrived)))
]

same_sent : (packets : List Packet) (apps : ℕ) (h k : History) → Both packets apps h k
    → h.sent ≡ k.sent
same_sent packets apps h k b =
    let inboxes : h.inboxes ≡ k.inboxes = same_inboxes packets apps h k b in
    same_lists [] h.sent k.sent (b.left.matched.sent ∙ sym b.right.matched.sent) (λ a l.
    same_firsts (λ s. s.id) (list_at h.inboxes a) (list_at h.sent a) (list_at k.sent a)
    (b.left.delivered.once a) (b.left.replies.sent a)
    ((b.right.replies.sent a).0, (b.right.replies.sent a).1 ∙ sym (ap (λ i. list_at i a) inboxes))
    (λ x. same_looks (found (λ s. s.id) x) [] refl h.sent k.sent (app_at packets apps x)
    (λ d ne. sent-elsewhere packets apps h b.left d x ne)
    (λ d ne. sent-elsewhere packets apps k b.right d x ne)
    (same_sent_of packets apps h k b x) a))

-- The transmit choices: their class, which the report does not show, is the flow number.
pub tx_choice-class : (packets : List Packet) (apps : ℕ) (h : History) (x : ℕ) (c : Choice)
    → Regular packets apps h → tx_choice_of h x ≡ Some c
    → c.class ≡ Some (packet_at packets x).flow_number
tx_choice-class packets apps h x c r e =
    let cs = list_at h.tx_choices (app_at packets apps x) in
    let m = map_some (λ d. d.choice) (found (λ d. d.id) x cs) c
    (sym (tx_choice-own packets apps h r x) ∙ e) in
    let p = found-all (λ d. d.choice.class ≡ Some (packet_at packets d.id).flow_number)
    (λ d. d.id) x cs m.0 (r.replies.class (app_at packets apps x)) m.1 in
    let i : m.0.id ≡ x = found-key (λ d. d.id) x cs m.0 m.1 in
    let q : m.0.choice.class ≡ Some (packet_at packets x).flow_number =
    subst (λ y. m.0.choice.class ≡ Some (packet_at packets y).flow_number) i p in
    ap (λ d. d.class) m.2 ∙ q

same_class : (o p : Option Choice) (n : ℕ) → ((c : Choice) → o ≡ Some c → c.class ≡ Some n)
    → ((c : Choice) → p ≡ Some c → c.class ≡ Some n)
    → option_map without_class o ≡ option_map without_class p → o ≡ p
same_class None None n a b e = refl
same_class None (Some d) n a b e = absurd (cc)
same_class (Some c) None n a b e = absurd (cc)
same_class (Some c) (Some d) n a b e =
    let f : without_class c ≡ without_class d = some_same (without_class c) (without_class d) e in
    let g : c.class ≡ d.class = a c refl ∙ sym (b d refl) in
    λ w. Some (record {
      class = g w;
      want = (f w).want;
      head = (f w).head;
      tail = (f w).tail;
      lane = (f w).lane;
      why = (f w).why;
    })

-- without a reply there is no choice for it
pub unreplied : (packets : List Packet) (apps : ℕ) (h : History) (x : ℕ) → Regular packets apps h
    → first_reply_to h x ≡ None → tx_choice_of h x ≡ None
unreplied packets apps h x r e = no_value (tx_choice_of h x) (λ c f.
    let s : is_some (first_reply_to h x) ≡ true = tx_choice-replied packets apps h r x c f in
    let n : is_some (first_reply_to h x) ≡ false = ap is_some e in cc)

sent_or_not : (o : Option Sent) → ((s : Sent) × (o ≡ Some s)) ⊎ (o ≡ None)
sent_or_not None = inr refl
sent_or_not (Some s) = inl (s, refl)

same_tx_choice : (packets : List Packet) (apps : ℕ) (h k : History) → Both packets apps h k
    → (x : ℕ) → tx_choice_of h x ≡ tx_choice_of k x
same_tx_choice packets apps h k b x = elim (sent_or_not (first_reply_to h x)) [
  | inl s ↦
      let l = (sent-arrived packets apps h x s.0 b.left s.1).0 in
      same_class (tx_choice_of h x) (tx_choice_of k x) (packet_at packets x).flow_number
      (λ c. tx_choice-class packets apps h x c b.left)
      (λ c. tx_choice-class packets apps k x c b.right)
      ((replied packets apps h k b x l).choice s.0 s.1)
  | inr e ↦
      unreplied packets apps h x b.left e ∙ sym (unreplied packets apps k x b.right
      (sym (same_sent_of packets apps h k b x) ∙ e))
]

same_tx_choices : (packets : List Packet) (apps : ℕ) (h k : History) → Both packets apps h k
    → h.tx_choices ≡ k.tx_choices
same_tx_choices packets apps h k b =
    let sent : h.sent ≡ k.sent = same_sent packets apps h k b in
    same_lists [] h.tx_choices k.tx_choices (b.left.matched.tx_choices
    ∙ sym b.right.matched.tx_choices) (λ a l.
    let ids = map (λ s. s.id) (list_at h.sent a) in
    same_firsts (λ c. c.id) ids (list_at h.tx_choices a) (list_at k.tx_choices a)
    (Once-front ids (list_at h.inboxes a) (b.left.replies.sent a) (b.left.delivered.once a))
    (b.left.replies.chosen a) (
      (b.right.replies.chosen a).0,
      (b.right.replies.chosen a).1
          ∙ sym (ap (λ i. map (λ s. s.id) (list_at i a)) sent),
    )
    (λ x. same_found x (list_at h.tx_choices a) (list_at k.tx_choices a)
    (same_looks (choice_in x) [] refl h.tx_choices k.tx_choices (app_at packets apps x)
    (λ d ne. tx_choice-elsewhere packets apps h b.left d x ne)
    (λ d ne. tx_choice-elsewhere packets apps k b.right d x ne)
    (same_tx_choice packets apps h k b x) a)))

-- The transmit lanes.
pub once-tx : (lanes : List LaneList) → Apart (accepted_lists lanes) → (t : ℕ)
    → Once (lane_at lanes t).accepted
once-tx lanes apart t = subst Once (list-accepted lanes t)
    (once-apart (accepted_lists lanes) t apart)

-- A packet stands at no other lane than that of its reply's choice.
pub tx_accepted-elsewhere : (packets : List Packet) (apps : ℕ) (h : History) (x t : ℕ)
    → Regular packets apps h → t ≢ lane_or (tx_choice_of h x)
    → place_in x (lane_at h.tx_lanes t).accepted ≡ None
tx_accepted-elsewhere packets apps h x t r ne =
    no_value (place_in x (lane_at h.tx_lanes t).accepted) (λ n e.
    ne (tx_accepted-lane packets apps h r t x (ap is_some e)))

pub tx_accepted-at : (packets : List Packet) (apps : ℕ) (h : History) (x : ℕ)
    → Regular packets apps h → accepted_place h.tx_lanes x ≡ place_in x
    (lane_at h.tx_lanes (lane_or (tx_choice_of h x))).accepted
tx_accepted-at packets apps h x r =
    first_some-only (λ lane. place_in x lane.accepted) no_lane refl h.tx_lanes
    (lane_or (tx_choice_of h x)) (λ t ne. tx_accepted-elsewhere packets apps h x t r ne)

pub tx_accepted-bound : (packets : List Packet) (apps : ℕ) (h : History) (x n : ℕ)
    → Regular packets apps h → length packets ≤ 262144
    → accepted_place h.tx_lanes x ≡ Some n → n < 2 ^ 32
tx_accepted-bound packets apps h x n r small e =
    let t = lane_or (tx_choice_of h x) in
    let p = place-bounds x (lane_at h.tx_lanes t).accepted n
    (sym (tx_accepted-at packets apps h x r) ∙ e) in
    let few = (short-lists packets apps h r small).shipped t in
    omega (arith, p.1, few)

-- nor at any, where no reply was begun
pub tx_accepted-unreplied : (packets : List Packet) (apps : ℕ) (h : History) (x : ℕ)
    → Regular packets apps h → first_reply_to h x ≡ None → accepted_place h.tx_lanes x ≡ None
tx_accepted-unreplied packets apps h x r e =
    first_some-none (λ lane. place_in x lane.accepted) no_lane h.tx_lanes (λ t.
    no_value (place_in x (lane_at h.tx_lanes t).accepted) (λ n f.
    let s : is_some (first_reply_to h x) ≡ true = tx_accepted-replied packets apps h r t x
    (ap is_some f) in
    let n : is_some (first_reply_to h x) ≡ false = ap is_some e in cc))

same_tx_place : (packets : List Packet) (apps : ℕ) (h k : History) → Both packets apps h k → (x : ℕ)
    → accepted_place h.tx_lanes x ≡ accepted_place k.tx_lanes x
same_tx_place packets apps h k b x = elim (sent_or_not (first_reply_to h x)) [
  | inl s ↦
      let l = (sent-arrived packets apps h x s.0 b.left s.1).0 in
      position-place h.start (accepted_place h.tx_lanes x) (accepted_place k.tx_lanes x)
      (λ n f. tx_accepted-bound packets apps h x n b.left b.small f)
      (λ n f. tx_accepted-bound packets apps k x n b.right b.small f)
      ((replied packets apps h k b x l).put s.0 s.1
      ∙ ap (λ z. option_map (number z) (accepted_place k.tx_lanes x)) (sym b.shown.start))
  | inr e ↦
      tx_accepted-unreplied packets apps h x b.left e
      ∙ sym (tx_accepted-unreplied packets apps k x b.right
      (sym (same_sent_of packets apps h k b x) ∙ e))
]

same_tx_accepted : (packets : List Packet) (apps : ℕ) (h k : History) → Both packets apps h k
    → (t x : ℕ)
    → place_in x (lane_at h.tx_lanes t).accepted ≡ place_in x (lane_at k.tx_lanes t).accepted
same_tx_accepted packets apps h k b t x =
    same_looks (λ lane. place_in x lane.accepted) no_lane refl h.tx_lanes k.tx_lanes
    (lane_or (tx_choice_of h x))
    (λ d ne. tx_accepted-elsewhere packets apps h x d b.left ne)
    (λ d ne. tx_accepted-elsewhere packets apps k x d b.right
    (λ e. ne (e ∙ sym (ap lane_or (same_tx_choice packets apps h k b x)))))
    (same_tx_place packets apps h k b x) t

same_tx_lanes : (packets : List Packet) (apps : ℕ) (h k : History) → Both packets apps h k
    → h.tx_lanes ≡ k.tx_lanes
same_tx_lanes packets apps h k b = same_lists no_lane h.tx_lanes k.tx_lanes
    (as_many h.tx_lanes k.tx_lanes b.shown.tx_lanes) (λ t l.
    same_lane (lane_at h.tx_lanes t) (lane_at k.tx_lanes t)
    (same_places (lane_at h.tx_lanes t).accepted (lane_at k.tx_lanes t).accepted
    (once-tx h.tx_lanes b.left.shipped.once t) (once-tx k.tx_lanes b.right.shipped.once t)
    (same_tx_accepted packets apps h k b t))
    (b.left.shipped.no_drops t ∙ sym (b.right.shipped.no_drops t))
    (sums-at h.tx_lanes k.tx_lanes t b.shown.tx_lanes l))

-- The port.
pub port-unreplied : (packets : List Packet) (apps : ℕ) (h : History) (x : ℕ)
    → Regular packets apps h → first_reply_to h x ≡ None → place_in x h.port ≡ None
port-unreplied packets apps h x r e = no_value (place_in x h.port) (λ n f.
    let s : is_some (first_reply_to h x) ≡ true = port-replied packets apps h r x (ap is_some f) in
    let n : is_some (first_reply_to h x) ≡ false = ap is_some e in cc)

same_port_place : (packets : List Packet) (apps : ℕ) (h k : History) → Both packets apps h k
    → (x : ℕ) → place_in x h.port ≡ place_in x k.port
same_port_place packets apps h k b x = elim (sent_or_not (first_reply_to h x)) [
  | inl s ↦ (replied packets apps h k b x (sent-arrived packets apps h x s.0 b.left s.1).0).port s.0
      s.1
  | inr e ↦ port-unreplied packets apps h x b.left e ∙ sym (port-unreplied packets apps k x b.right
      (sym (same_sent_of packets apps h k b x) ∙ e))
]

same_history : (packets : List Packet) (apps : ℕ) (h k : History) → Both packets apps h k → h ≡ k
same_history packets apps h k b =
    let arrivals = same_arrivals packets apps h k b in
    let choices = same_choices packets apps h k b in
    let lanes = same_lanes packets apps h k b in
    let inboxes = same_inboxes packets apps h k b in
    let sent = same_sent packets apps h k b in
    let tx_choices = same_tx_choices packets apps h k b in
    let tx_lanes = same_tx_lanes packets apps h k b in
    let port : h.port ≡ k.port =
    same_places h.port k.port b.left.shipped.port_once b.right.shipped.port_once
    (same_port_place packets apps h k b) in
    λ i. record {
      total = b.shown.total i;
      cut = b.shown.cut i;
      arrivals = arrivals i;
      taken = b.shown.taken i;
      choices = choices i;
      lanes = lanes i;
      inboxes = inboxes i;
      sent = sent i;
      tx_choices = tx_choices i;
      tx_lanes = tx_lanes i;
      port = port i;
      writes = b.shown.writes i;
      commands = b.shown.commands i;
      start = b.shown.start i;
    }

-- A regular history is found again in its lines, sums, writes and commands.
pub found_again : IsFoundAgain
found_again packets apps h k small r q s t e =
    same_history packets apps h k (record {
      small = small;
      left = r;
      left_queued = q;
      right = s;
      right_queued = t;
      shown = e;
    })
