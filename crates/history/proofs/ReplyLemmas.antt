-- Replies of a regular history are to packets that arrived.
use Rattle.std.proofs.Common.{ℕ, ◌≤◌, ◌<◌, ◌≡◌, true, List, [], ◌∷◌, Option, Some, None, map}
use Rattle.std.proofs.Common.{length, refl, ap, ◌∙◌, sym, arith, inl, inr, get_or}
use Rattle.std.specs.Prelude.{◌||◌}
use Rattle.std.specs.List.{list_any, range_with_len}
use Rattle.std.specs.Option.{option_map, option_or, is_some}
use Rattle.std.proofs.Math.ListN.{get_or-eq_default}
use Rattle.std.proofs.lemmas.Bool.{cases_lt}
use Rattle.std.proofs.lemmas.List.FromFn.{get_or-map-range_with_len, length-map-range_with_len}
use Rattle.steer_base.specs.declared.packet.Packet.{Packet}
use Rattle.history.specs.Finding.{found, first_some, is_in}
use Rattle.history.specs.Lines.{is_replied, line_of_sent, reply_line, first_reply_to}
use Rattle.history.specs.Lists.{app_at, list_at}
use Rattle.history.specs.Regular.{Regular}
use Rattle.history.specs.declared.history.History.{History}
use Rattle.history.specs.declared.sent.Sent.{Sent}
use Rattle.history.proofs.OwnLemmas.{first-none, not-true, own-first}
use Rattle.history.proofs.RegularLemmas.{arrived-inbox, is_some-found, sent-inbox}

module _ (packets : List Packet) (apps : ℕ) (h : History) (regular : Regular packets apps h) where
  -- a list of replies that has one to a packet is that of its application, and the packet arrived
  pub sent-app : (a x : ℕ) → is_some (found (λ s. s.id) x (list_at h.sent a)) ≡ true
      → (x < length h.arrivals) × (app_at packets apps x ≡ a)
  sent-app a x s =
      let inbox = sent-inbox packets apps h regular a x
      (sym (is_some-found (λ d. d.id) x (list_at h.sent a)) ∙ s) in
      (arrived-inbox packets apps h regular a x inbox, regular.delivered.own a x inbox)

  -- the reply to a packet is in the list of its application
  pub sent-own : (x : ℕ) → first_reply_to h x ≡ found (λ s. s.id) x
      (list_at h.sent (app_at packets apps x))
  sent-own x = own-first (found (λ s. s.id) x) [] h.sent (Some (app_at packets apps x)) refl
      (λ a s. ap (λ n. Some n) (sent-app a x s).1)

  not-sent : (x : ℕ) → length h.arrivals ≤ x → first_reply_to h x ≡ None
  not-sent x late = first-none (found (λ s. s.id) x) [] h.sent
      (λ a l. not-true (is_some (found (λ s. s.id) x (list_at h.sent a))) (λ s.
      let k = (sent-app a x s).0 in omega (arith, k)))

  -- the lines of the replies to the packets that arrived are those of all replies
  pub reply-at : (x : ℕ) → get_or (map (reply_line packets apps h)
      (range_with_len 0 (length h.arrivals))) x None ≡ reply_line packets apps h x
  reply-at x =
      elim (cases_lt x (length h.arrivals)) [
        | inl l ↦ get_or-map-range_with_len (reply_line packets apps h) 0
            (length h.arrivals) x x None l (omega arith)
        | inr l ↦
            get_or-eq_default (map (reply_line packets apps h)
            (range_with_len 0 (length h.arrivals))) None
            (omega (
              arith,
              length-map-range_with_len (reply_line packets apps h) 0
                  (length h.arrivals),
            ))
            ∙ sym (ap (option_map (line_of_sent packets apps h x)) (not-sent x l))
      ]

is_some-or : {T : Type 0} (o p : Option T) → is_some (option_or o p) ≡ is_some o || is_some p
is_some-or None p = refl
is_some-or (Some a) p = refl

-- a reply to a packet was begun where one of the lists has it
pub is_some-sent : (x : ℕ) (lists : List (List Sent))
    → is_some (first_some (found (λ s. s.id) x) lists) ≡ list_any
    (λ list. is_in x (map (λ s. s.id) list)) lists
is_some-sent x [] = refl
is_some-sent x (list ∷ lists) =
    is_some-or (found (λ s. s.id) x list) (first_some (found (λ s. s.id) x) lists)
    ∙ ap (λ b. b || is_some (first_some (found (λ s. s.id) x) lists))
    (is_some-found (λ s. s.id) x list)
    ∙ ap (λ b. is_in x (map (λ s. s.id) list) || b) (is_some-sent x lists)

is_some-line : {A B : Type 0} (f : A → B) (o : Option A) → is_some (option_map f o) ≡ is_some o
is_some-line f None = refl
is_some-line f (Some a) = refl

pub is_some-reply : (packets : List Packet) (apps : ℕ) (h : History) (x : ℕ)
    → is_some (reply_line packets apps h x) ≡ is_replied h x
is_some-reply packets apps h x = is_some-line (line_of_sent packets apps h x) (first_reply_to h x)
    ∙ is_some-sent x h.sent
