-- The test of a history misses no regular one: each regular history passes it.
use Rattle.std.proofs.Common.{ℕ, ◌<◌, ◌≡◌, true, List, map, length, sym, get_or}
use Rattle.std.specs.List.{list_all}
use Rattle.std.proofs.lemmas.Bool.{and_from, eq-eqb, lt-ltb}
use Rattle.std.proofs.lemmas.List.Sums.{list_all-from_AllPass}
use Rattle.steer_base.specs.declared.packet.Packet.{Packet}
use Rattle.history.specs.Finding.{is_in}
use Rattle.history.specs.Lists.{packet_at, list_at, arrival_of}
use Rattle.history.specs.Regular.{Regular, has_text}
use Rattle.history_check.specs.Tests.{has_replies, have_replies, have_texts, is_from_queue}
use Rattle.history_check.specs.Tests.{is_of_flow, passes}
use Rattle.history.specs.declared.history.History.{History}
use Rattle.history_check.proofs.PassingLanes.{to_delivered, to_shipped, to_steered}
use Rattle.history_check.proofs.PassingLemmas.{all-below, begins-from, is_in-key, number-from}
use Rattle.history_check.proofs.PassingLists.{to_polled, to_shape, to_short_lists}
use Rattle.history.proofs.RegularLemmas.{arrived-inbox, is_in-prefix, sent-inbox}

module _ (packets : List Packet) (apps : ℕ) (h : History) (regular : Regular packets apps h) where
  -- what an application replied to arrived
  arrived-sent : (a x : ℕ) → is_in x (map (λ s. s.id) (list_at h.sent a)) ≡ true
      → x < length h.arrivals
  arrived-sent a x s = arrived-inbox packets apps h regular a x
      (sent-inbox packets apps h regular a x s)

  sent-passes : (a : ℕ) → list_all (is_from_queue h) (list_at h.sent a) ≡ true
  sent-passes a =
      list_all-from_AllPass (is_from_queue h) (list_at h.sent a) (λ i d l.
      let s = get_or (list_at h.sent a) i d in
      and_from _ _ (lt-ltb s.id (length h.arrivals)
      (arrived-sent a s.id (is_in-key (λ s. s.id) (list_at h.sent a) i d l)))
      (eq-eqb (arrival_of h.arrivals s.id).queue s.rxq (sym (regular.replies.queue a i d l))))

  chosen-passes : (a : ℕ) → list_all (is_of_flow packets h) (list_at h.tx_choices a) ≡ true
  chosen-passes a =
      let ids = map (λ c. c.id) (list_at h.tx_choices a) in
      list_all-from_AllPass (is_of_flow packets h) (list_at h.tx_choices a) (λ i d l.
      let c = get_or (list_at h.tx_choices a) i d in
      let replied : is_in c.id (map (λ s. s.id) (list_at h.sent a)) ≡ true =
      is_in-prefix c.id ids (map (λ s. s.id) (list_at h.sent a)) (regular.replies.chosen a)
      (is_in-key (λ c. c.id) (list_at h.tx_choices a) i d l) in
      and_from _ _
      (and_from _ _ (lt-ltb c.id (length h.arrivals) (arrived-sent a c.id replied))
      (number-from c.choice.class (packet_at packets c.id).flow_number
      (regular.replies.class a i d l)))
      (regular.replies.want a i d l))

  to_replies : have_replies packets apps h ≡ true
  to_replies =
      all-below (has_replies packets h) apps (λ a l.
      and_from _ _
      (and_from _ _
      (and_from _ _ (begins-from (map (λ s. s.id) (list_at h.sent a)) (list_at h.inboxes a)
      (regular.replies.sent a)) (sent-passes a))
      (begins-from (map (λ c. c.id) (list_at h.tx_choices a)) (map (λ s. s.id) (list_at h.sent a))
      (regular.replies.chosen a)))
      (chosen-passes a))

  to_texts : have_texts h ≡ true
  to_texts = list_all-from_AllPass (λ c. has_text c.answer) h.commands regular.answers

  to_all : passes packets apps h ≡ true
  to_all =
      and_from _ _
      (and_from _ _
      (and_from _ _
      (and_from _ _
      (and_from _ _
      (and_from _ _
      (and_from _ _ (to_shape packets apps h regular) (to_short_lists packets apps h regular))
      (to_polled packets apps h regular))
      (to_steered packets apps h regular))
      (to_delivered packets apps h regular))
      to_replies)
      (to_shipped packets apps h regular))
      to_texts

pub to_tests : (packets : List Packet) (apps : ℕ) (h : History) → Regular packets apps h
    → passes packets apps h ≡ true
to_tests packets apps h regular = to_all packets apps h regular
