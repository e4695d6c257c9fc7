-- The history that is built from the parts of a report of a history is that history.
use Rattle.std.proofs.Common.{ℕ, ◌≡◌, ◌≤◌, ◌<◌, ◌^◌, List, length, map, refl, ap, ◌∙◌, sym, arith}
use Rattle.std.proofs.Common.{subst, Err, IfOk, Ok, Result}
use Rattle.std.specs.List.{filter_map, range_with_len}
use Rattle.std.proofs.lemmas.List.{length-map}
use Rattle.std.proofs.lemmas.List.FromFn.{length-map-range_with_len}
use Rattle.steer_base.specs.declared.packet.Packet.{Packet}
use Rattle.history.specs.Lines.{lines_of, packet_line}
use Rattle.history.specs.Lists.{list_at}
use Rattle.history.specs.Ranges.{HaveLinesThatFit}
use Rattle.history.specs.declared.history.History.{History}
use Rattle.report_reader.specs.Parts.{seen_packet}
use Rattle.report_reader.specs.declared.parts.Parts.{Parts}
use Rattle.report_reader.specs.declared.slots.Seen.{Seen}
use Rattle.report_reader.specs.Joined.{AreJoined}
use Rattle.report_history.specs.Lists.{AreQueueChoices}
use Rattle.report_history.specs.Printed.{IsBuilt, IsHistoryOf}
use Rattle.report_history.specs.Shown.{shown_sent, shown_tx_choice, own_write}
use Rattle.report_history.proofs.ListsLemmas.{arrivals-shown, choices-shown, drops-shown}
use Rattle.report_history.proofs.ListsLemmas.{replies-shown, tx-choices-shown}
use Rattle.report_history.proofs.SeenLemmas.{joined, seen_of}
use Rattle.report_history.proofs.ShelvedLemmas.{accepted-shelved, dropped-shelved, inbox-shelved}
use Rattle.report_history.proofs.ShelvedLemmas.{port-shelved, tx-shelved}
use Rattle.report_history.proofs.WritesLemmas.{map-lists, writes-shown}

module _ (packets : List Packet) (apps start : ℕ) (p : Parts) (h : History)
    (texts : List (List ℕ)) (f : IsHistoryOf packets apps start p h texts)
    (small : length packets ≤ 262144) (lines_fit : HaveLinesThatFit) (few : apps < 2 ^ 8)
    (k : History)
    (b : IsBuilt packets apps h.start p (seen_of packets apps h) k) where
  same_arrivals : k.arrivals ≡ h.arrivals
  same_arrivals =
      b.arrivals
      ∙ arrivals-shown packets apps h f.regular f.numbers small lines_fit f.queued

  same_choices : k.choices ≡ h.choices
  same_choices = b.choices h.choices (record {
    long = f.regular.matched.choices ∙ ap length (sym f.parts.taken);
    each = λ q l.
        subst (λ way. AreQueueChoices (seen_of packets apps h) way q (list_at h.choices q))
        (sym same_arrivals) (choices-shown packets apps h f.regular f.numbers small lines_fit q);
  })

  same_lanes : k.lanes ≡ h.lanes
  same_lanes = b.lanes h.lanes (record {
    of_sums = sym f.parts.cpus;
    each = λ c l. record {
      of_accepted = accepted-shelved packets apps h f.regular f.numbers small lines_fit c;
      of_dropped = dropped-shelved packets apps h f.regular f.numbers small lines_fit c;
      of_drops = drops-shown packets apps h f.regular f.numbers small lines_fit c;
      of_sums = refl;
    };
  })

  same_inboxes : k.inboxes ≡ h.inboxes
  same_inboxes = b.inboxes h.inboxes (record {
    long = f.regular.matched.inboxes;
    each = λ a l. inbox-shelved packets apps h f.regular f.numbers small lines_fit a few;
  })

  same_sent : k.sent ≡ h.sent
  same_sent =
      b.sent ∙ ap (map (filter_map (shown_sent (seen_of packets apps h)))) same_inboxes
      ∙ map-lists (filter_map (shown_sent (seen_of packets apps h))) h.inboxes h.sent
      (f.regular.matched.inboxes ∙ sym f.regular.matched.sent)
      (replies-shown packets apps h f.regular f.numbers small lines_fit)

  same_tx_choices : k.tx_choices ≡ h.tx_choices
  same_tx_choices =
      b.tx_choices
      ∙ ap (map (filter_map (shown_tx_choice (seen_of packets apps h) packets))) same_sent
      ∙ map-lists (filter_map (shown_tx_choice (seen_of packets apps h) packets)) h.sent
      h.tx_choices
      (f.regular.matched.sent ∙ sym f.regular.matched.tx_choices)
      (tx-choices-shown packets apps h f.regular f.numbers small lines_fit)

  same_tx_lanes : k.tx_lanes ≡ h.tx_lanes
  same_tx_lanes = b.tx_lanes h.tx_lanes (record {
    of_sums = sym f.parts.txs;
    each = λ t l. record {
      of_accepted = tx-shelved packets apps h f.regular f.numbers small lines_fit t;
      of_drops = f.regular.shipped.no_drops t;
      of_sums = refl;
    };
  })

  same_writes : k.writes ≡ h.writes
  same_writes =
      b.writes
      ∙ ap (λ ws. map (λ a. filter_map (own_write a) ws) (range_with_len 0 apps)) f.parts.writes
      ∙ writes-shown apps h.writes f.regular.matched.writes

  pub same_history : k ≡ h
  same_history =
      let arrivals = same_arrivals in
      let taken : k.taken ≡ h.taken = b.taken ∙ f.parts.taken in
      let choices = same_choices in
      let lanes = same_lanes in
      let inboxes = same_inboxes in
      let sent = same_sent in
      let tx_choices = same_tx_choices in
      let tx_lanes = same_tx_lanes in
      let port : k.port ≡ h.port =
      b.port h.port (port-shelved packets apps h f.regular f.numbers small lines_fit) in
      let writes = same_writes in
      let commands : k.commands ≡ h.commands = b.commands ∙ f.parts.commands in
      let total : k.total ≡ h.total = b.total ∙ f.parts.total in
      let cut : k.cut ≡ h.cut = b.cut ∙ f.parts.cut in
      let starts : k.start ≡ h.start = b.starts in
      λ i. record {
        total = total i;
        cut = cut i;
        arrivals = arrivals i;
        taken = taken i;
        choices = choices i;
        lanes = lanes i;
        inboxes = inboxes i;
        sent = sent i;
        tx_choices = tx_choices i;
        tx_lanes = tx_lanes i;
        port = port i;
        writes = writes i;
        commands = commands i;
        start = starts i;
      }

-- whatever history has the parts, what was built is it
pub built-is : (packets : List Packet) (apps start : ℕ) (p : Parts) (seen : List Seen)
    (k h : History) (texts : List (List ℕ))
    → ((lines : List Seen) → AreJoined p.packets.items p.replies.items lines → seen ≡ lines)
    → IsBuilt packets apps start p seen k → length packets ≤ 262144 → HaveLinesThatFit
    → apps < 2 ^ 8
    → IsHistoryOf packets apps start p h texts → k ≡ h
built-is packets apps start p seen k h texts join b small lines_fit few f =
    let lines : seen ≡ seen_of packets apps h =
    join (seen_of packets apps h) (joined packets apps h texts p f.parts) in
    same_history packets apps start p h texts f small lines_fit few k
    (subst (λ s. IsBuilt packets apps s p (seen_of packets apps h) k) (sym f.starts)
    (subst (λ s. IsBuilt packets apps start p s k) lines b))

length-lines : (packets : List Packet) (apps : ℕ) (h : History)
    → length (map seen_packet (lines_of packets apps h).packets) ≡ length h.arrivals
length-lines packets apps h =
    length-map (lines_of packets apps h).packets seen_packet
    ∙ length-map-range_with_len (packet_line packets apps h) 0 (length h.arrivals)

-- a history whose report has more packets than the capture has not these parts
pub too-many : (packets : List Packet) (apps start : ℕ) (p : Parts) (h : History)
    (texts : List (List ℕ)) → length packets < length p.packets.items
    → IsHistoryOf packets apps start p h texts → ⊥
too-many packets apps start p h texts l f =
    let n : length p.packets.items ≡ length h.arrivals =
    ap length f.parts.packets ∙ length-lines packets apps h in
    omega (arith, l, n, f.regular.arrived.of_the_capture)

-- a call that yields both has what both together say
pub if-both : {A E : Type 0} (P Q R : A → Type 0) (r : Result A E) → IfOk r P → IfOk r Q
    → ((a : A) → P a → Q a → R a) → IfOk r R
if-both P Q R (Ok a) p q f = f a p q
if-both P Q R (Err e) p q f = tt
