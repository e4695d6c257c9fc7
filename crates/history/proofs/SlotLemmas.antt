-- Where a regular history has what belongs to a packet: its choice by its rank at its queue, and
-- its reply by its place in the inbox.
use Rattle.std.proofs.Common.{ℕ, ◌+◌, ◌<◌, ◌≡◌, ◌++◌, List, [], ◌∷◌, Option, Some, None, map}
use Rattle.std.proofs.Common.{length, take, refl, ap, ◌∙◌, sym, arith, suc, zero, inl, inr, get_or}
use Rattle.std.proofs.Common.{append_assoc, false, subst}
use Rattle.std.specs.Prelude.{nat_lt, slice_get, slice_index}
use Rattle.std.specs.Option.{option_and_then, option_map, is_some}
use Rattle.std.proofs.Math.ListN.{get_or-eq_default}
use Rattle.std.proofs.lemmas.Bool.{cases_eq, cases_lt, eq-eqb, ne_eqb}
use Rattle.steer_base.specs.Entries.{place_in}
use Rattle.steer_base.specs.Orders.{IsPrefix}
use Rattle.steer_base.specs.declared.packet.Packet.{Packet}
use Rattle.history.specs.Counted.{rank_of}
use Rattle.history.specs.Finding.{found, is_in}
use Rattle.history.specs.Lines.{choice_of, first_reply_to, inbox_place_of, tx_choice_of}
use Rattle.history.specs.Lists.{app_at, arrival_of, arrivals_at, list_at, no_arrival}
use Rattle.history.specs.Places.{was_taken}
use Rattle.history.specs.Regular.{Regular}
use Rattle.history.specs.Slots.{index_before}
use Rattle.history.specs.declared.history.History.{History}
use Rattle.history.proofs.CountLemmas.{count-at, place-arrival, taken-count}
use Rattle.history.proofs.FindingLemmas.{found-here, found-past}
use Rattle.history.proofs.OwnLemmas.{none-unless, not-true, own-first}
use Rattle.history.proofs.RegularLemmas.{arrival-at, choice-own, is_some-found, sent-inbox}
use Rattle.history.proofs.RegularLemmas.{tx_choice-own}
use Rattle.history.proofs.ReplyLemmas.{sent-own}

next-place : (o : Option ℕ) (r : ℕ) → option_map suc o ≡ Some (suc r) → o ≡ Some r
next-place None r e = absurd (cc)
next-place (Some n) r e = cc

-- no place is 0
place-positive : (o : Option ℕ) → option_map suc o ≡ Some 0 → ⊥
place-positive None e = cc
place-positive (Some n) e = cc

pub no-place_0 : (x : ℕ) (ys : List ℕ) → place_in x ys ≡ Some 0 → ⊥
no-place_0 x [] e = cc
no-place_0 x (y ∷ ys) e =
    elim (cases_eq x y) [
      | inl s ↦ let t : place_in x (y ∷ ys) ≡ Some 1 = rw (eq-eqb x y s) refl in cc
      | inr ne ↦ let t : place_in x (y ∷ ys) ≡ option_map suc (place_in x ys) =
          rw (ne_eqb x y ne) refl in place-positive (place_in x ys) (sym t ∙ e)
    ]

-- an item whose key has a place in a longer list of keys is found there
pub found-at : {A : Type 0} (key : A → ℕ) (x r : ℕ) (xs : List A) (ys : List ℕ)
    → IsPrefix (map key xs) ys → place_in x ys ≡ Some (suc r) → found key x xs ≡ slice_get xs r
found-at key x r [] ys p e = refl
found-at key x r (a ∷ xs) [] p e = absurd (cc)
found-at key x zero (a ∷ xs) (y ∷ ys) p e =
    let f = p.1 in
    let here : key a ≡ y = cc in
    elim (cases_eq x (key a)) [
      | inl s ↦ found-here key x a xs s
      | inr ne ↦
          let t : place_in x (y ∷ ys) ≡ option_map suc (place_in x ys) =
          rw (ne_eqb x y (λ g. ne (g ∙ sym here))) refl in
          absurd (no-place_0 x ys (next-place (place_in x ys) 0 (sym t ∙ e)))
    ]
found-at key x (suc r) (a ∷ xs) (y ∷ ys) p e =
    let f = p.1 in
    let here : key a ≡ y = cc in
    let there : map key xs ++ p.0 ≡ ys = cc in
    elim (cases_eq x (key a)) [
      | inl s ↦ let t : place_in x (y ∷ ys) ≡ Some 1 = rw (eq-eqb x y (s ∙ here)) refl in
          absurd (cc)
      | inr ne ↦
          let t : place_in x (y ∷ ys) ≡ option_map suc (place_in x ys) =
          rw (ne_eqb x y (λ g. ne (g ∙ sym here))) refl in
          found-past key x a xs ne
          ∙ found-at key x r xs ys (p.0, there) (next-place (place_in x ys) (suc r) (sym t ∙ e))
    ]

prefix-trans : (xs ys zs : List ℕ) → IsPrefix xs ys → IsPrefix ys zs → IsPrefix xs zs
prefix-trans xs ys zs p q =
    (p.0 ++ q.0, sym (append_assoc xs p.0 q.0) ∙ ap (λ l. l ++ q.0) p.1 ∙ q.1)

module _ (packets : List Packet) (apps : ℕ) (h : History) (regular : Regular packets apps h)
    (x : ℕ) where
  abbrev queue : ℕ
  queue = (arrival_of h.arrivals x).queue

  abbrev app : ℕ
  app = app_at packets apps x

  -- the rank of a packet at a queue of the history
  rank-is : queue < length h.taken → rank_of h x ≡ length
      (arrivals_at (take x h.arrivals) queue)
  rank-is k = count-at (take x h.arrivals) (length h.taken) queue k

  module _ (here : x < length h.arrivals) where
    at : get_or h.arrivals x no_arrival ≡ arrival_of h.arrivals x
    at = sym (arrival-at x h.arrivals regular.arrived.numbered here)

    place-is : queue < length h.taken → place_in x (arrivals_at h.arrivals queue) ≡ Some
        (suc (rank_of h x))
    place-is k =
        let n : 0 + x ≡ x = omega arith in
        let place = place-arrival 0 x queue h.arrivals regular.arrived.numbered here
        (ap (λ a. a.queue) at) in
        subst (λ m. place_in m (arrivals_at h.arrivals queue) ≡ Some
        (suc (length (arrivals_at (take x h.arrivals) queue)))) n place
        ∙ ap (λ r. Some (suc r)) (sym (rank-is k))

    -- the choice of a packet is that of its rank at its queue
    pub choice-at : choice_of h x ≡ option_map (λ c. c.choice)
        (slice_get (list_at h.choices queue) (rank_of h x))
    choice-at =
        choice-own packets apps h regular x ∙ elim (cases_lt queue (length h.taken)) [
          | inl k ↦ ap (option_map (λ c. c.choice)) (found-at (λ c. c.id) x (rank_of h x)
              (list_at h.choices queue) (arrivals_at h.arrivals queue)
              (regular.arrived.chosen queue) (place-is k))
          | inr k ↦
              let none : list_at h.choices queue ≡ [] =
              get_or-eq_default h.choices [] (omega (arith, k, regular.matched.choices)) in
              rw none refl
        ]

    -- a packet was taken where the count of its queue is above its rank
    pub taken-at : nat_lt (rank_of h x) (slice_index h.taken queue) ≡ was_taken h x
    taken-at =
        let taken : was_taken h x ≡ nat_lt (length (arrivals_at (take x h.arrivals) queue))
        (slice_index h.taken queue) =
        taken-count h x regular.arrived.numbered here
        ∙ ap (λ a. nat_lt (length (arrivals_at (take x h.arrivals) a.queue))
        (slice_index h.taken a.queue)) at in
        elim (cases_lt queue (length h.taken)) [
          | inl k ↦ ap (λ r. nat_lt r (slice_index h.taken queue)) (rank-is k) ∙ sym taken
          | inr k ↦
              let n : slice_index h.taken queue ≡ 0 = get_or-eq_default h.taken 0 k in
              let f : nat_lt (rank_of h x) (slice_index h.taken queue) ≡ false =
              rw n (grind arith) in
              let g : nat_lt (length (arrivals_at (take x h.arrivals) queue))
              (slice_index h.taken queue) ≡ false = rw n (grind arith) in
              f ∙ sym g ∙ sym taken
        ]

  inbox-own : inbox_place_of h x ≡ place_in x (list_at h.inboxes app)
  inbox-own = own-first (place_in x) [] h.inboxes (Some app) refl
      (λ a s. ap (λ n. Some n) (regular.delivered.own a x s))

  -- no reply is to a packet that is in no inbox
  unreplied : inbox_place_of h x ≡ None → first_reply_to h x ≡ None
  unreplied e =
      let inbox : is_in x (list_at h.inboxes app) ≡ false = ap is_some (sym inbox-own ∙ e) in
      sent-own packets apps h regular x ∙ none-unless (found (λ s. s.id) x (list_at h.sent app))
      (not-true (is_some (found (λ s. s.id) x (list_at h.sent app))) (λ s.
      let in-inbox = sent-inbox packets apps h regular app x
      (sym (is_some-found (λ d. d.id) x (list_at h.sent app)) ∙ s) in cc))

  no-index : (place : Option ℕ) → inbox_place_of h x ≡ place
      → option_and_then index_before place ≡ None → first_reply_to h x ≡ None
  no-index None e f = unreplied e
  no-index (Some zero) e f = absurd (no-place_0 x (list_at h.inboxes app) (sym inbox-own ∙ e))
  no-index (Some (suc n)) e f = absurd (cc)

  pub no-reply : option_and_then index_before (inbox_place_of h x) ≡ None → first_reply_to h
      x ≡ None
  no-reply f = no-index (inbox_place_of h x) refl f

  after-index : (r : ℕ) (place : Option ℕ) → option_and_then index_before place ≡ Some r
      → place ≡ Some (suc r)
  after-index r None f = absurd (cc)
  after-index r (Some zero) f = absurd (cc)
  after-index r (Some (suc n)) f = let e : n ≡ r = cc in ap (λ m. Some (suc m)) e

  -- the reply to a packet, and its choice, are at the packet's place in the inbox
  pub reply-from : (r : ℕ) → option_and_then index_before (inbox_place_of h x) ≡ Some r
      → first_reply_to h x ≡ slice_get (list_at h.sent app) r
  reply-from r f =
      let e = after-index r (inbox_place_of h x) f in
      sent-own packets apps h regular x ∙ found-at (λ s. s.id) x r (list_at h.sent app)
      (list_at h.inboxes app) (regular.replies.sent app) (sym inbox-own ∙ e)

  pub tx_choice-at : (r : ℕ) → option_and_then index_before (inbox_place_of h x) ≡ Some r
      → tx_choice_of h x ≡ option_map (λ c. c.choice) (slice_get (list_at h.tx_choices app) r)
  tx_choice-at r f =
      let e = after-index r (inbox_place_of h x) f in
      tx_choice-own packets apps h regular x ∙ ap (option_map (λ c. c.choice))
      (found-at (λ c. c.id) x r (list_at h.tx_choices app) (list_at h.inboxes app)
      (prefix-trans (map (λ c. c.id) (list_at h.tx_choices app))
      (map (λ s. s.id) (list_at h.sent app)) (list_at h.inboxes app) (regular.replies.chosen app)
      (regular.replies.sent app))
      (sym inbox-own ∙ e))
