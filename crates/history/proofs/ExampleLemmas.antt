-- The history of one packet is regular.
use Rattle.std.proofs.Common.{ℕ, ◌≤◌, ◌<◌, ◌≡◌, ◌++◌, true, false, List, [], ◌∷◌, Option, Some}
use Rattle.std.proofs.Common.{None, map, length, refl, ap, ◌∙◌, sym, arith, suc, zero, inl, inr}
use Rattle.std.proofs.Common.{get_or, subst}
use Rattle.std.specs.Prelude.{IsSome, slice_index}
use Rattle.std.specs.List.{All}
use Rattle.std.proofs.lemmas.Bool.{cases_eq}
use Rattle.steer_base.specs.Apps.{app_of}
use Rattle.steer_base.specs.Orders.{Apart, IsPrefix}
use Rattle.steer_base.specs.declared.packet.Packet.{Packet}
use Rattle.history.proofs.Examples.{one_packet}
use Rattle.history.specs.Finding.{is_in, Once}
use Rattle.history.specs.Lines.{choice_in}
use Rattle.history.specs.Lists.{accepted_lists, app_at, arrival_of, arrivals_at, drop_ids}
use Rattle.history.specs.Lists.{packet_at, dropped_lists, lane_at, list_at}
use Rattle.history.specs.Regular.{AreDelivered, AreSteered, Regular}
use Rattle.history.specs.declared.history.History.{History}
use Rattle.history.proofs.FindingLemmas.{is_in-past}

-- a list of one packet
in-one : (x : ℕ) → is_in x (0 ∷ []) ≡ true → x ≡ 0
in-one x s =
    elim (cases_eq x 0) [
      | inl e ↦ e
      | inr ne ↦ let f : is_in x (0 ∷ []) ≡ false = is_in-past x 0 [] ne in absurd (cc)
    ]

in-none : (x : ℕ) → is_in x [] ≡ true → ⊥
in-none x s = cc

once-one : Once (0 ∷ [])
once-one zero zero a b e = refl
once-one zero (suc j) a b e = absurd (omega arith)
once-one (suc i) j a b e = absurd (omega arith)

once-none : Once []
once-none i j a b e = absurd (omega arith)

-- lists of which one alone has one packet
apart-one : (lists : List (List ℕ)) (c : ℕ) → ((p i : ℕ) → i < length (get_or lists p []) → (p ≡ c)
    × (i ≡ 0)) → Apart lists
apart-one lists c one p q i j a b k l e =
    let left = one p i k in
    let right = one q j l in
    (left.0 ∙ sym right.0, left.1 ∙ sym right.1)

module _ (packet : Packet) (start : ℕ) (flow : packet.flow_number ≡ 0) where
  abbrev h : History
  h = one_packet start

  no-app : (hash : Option ℕ) → app_of hash 1 ≡ 0
  no-app None = refl
  no-app (Some n) = omega arith

  taken : (q : ℕ) → slice_index h.taken q ≤ length (arrivals_at h.arrivals q)
  taken zero = omega arith
  taken (suc q) = omega arith

  chosen : (q : ℕ) → IsPrefix (map (λ c. c.id) (list_at h.choices q)) (arrivals_at h.arrivals q)
  chosen zero = ([], refl)
  chosen (suc q) = (arrivals_at h.arrivals (suc q), refl)

  chosen_taken : (q : ℕ) → length (list_at h.choices q) ≤ slice_index h.taken q
  chosen_taken zero = omega arith
  chosen_taken (suc q) = omega arith

  accepted : (c x : ℕ) → is_in x (lane_at h.lanes c).accepted ≡ true → (c ≡ 1) × (x ≡ 0)
  accepted zero x s = absurd (in-none x s)
  accepted (suc zero) x s = (refl, in-one x s)
  accepted (suc (suc zero)) x s = absurd (in-none x s)
  accepted (suc (suc (suc c))) x s = absurd (in-none x s)

  dropped : (c x : ℕ) → is_in x (drop_ids (lane_at h.lanes c)) ≡ true → ⊥
  dropped zero x s = in-none x s
  dropped (suc zero) x s = in-none x s
  dropped (suc (suc zero)) x s = in-none x s
  dropped (suc (suc (suc c))) x s = in-none x s

  lanes-one : (p i : ℕ) → i < length (list_at (accepted_lists h.lanes ++ dropped_lists h.lanes) p)
      → (p ≡ 1) × (i ≡ 0)
  lanes-one zero i l = absurd (omega arith)
  lanes-one (suc zero) i l = (refl, omega arith)
  lanes-one (suc (suc zero)) i l = absurd (omega arith)
  lanes-one (suc (suc (suc zero))) i l = absurd (omega arith)
  lanes-one (suc (suc (suc (suc zero)))) i l = absurd (omega arith)
  lanes-one (suc (suc (suc (suc (suc zero))))) i l = absurd (omega arith)
  lanes-one (suc (suc (suc (suc (suc (suc p)))))) i l = absurd (omega arith)

  steered : AreSteered h
  steered = record {
    accepted = λ c x s. let at = accepted c x s in
        (0, _, ap (λ n. choice_in n (list_at h.choices 0)) at.1, sym at.0);
    dropped = λ c x s. absurd (dropped c x s);
    once = apart-one (accepted_lists h.lanes ++ dropped_lists h.lanes) 1 lanes-one;
  }

  inbox : (a x : ℕ) → is_in x (list_at h.inboxes a) ≡ true → (a ≡ 0) × (x ≡ 0)
  inbox zero x s = (refl, in-one x s)
  inbox (suc a) x s = absurd (in-none x s)

  inbox-once : (a : ℕ) → Once (list_at h.inboxes a)
  inbox-once zero = once-one
  inbox-once (suc a) = once-none

  delivered : AreDelivered (packet ∷ []) 1 h
  delivered = record {
    accepted = λ a x s. let at = inbox a x s in (
      1,
      subst (λ n. is_in n (0 ∷ []) ≡ true)
          (sym at.1) refl,
    );
    own = λ a x s. let at = inbox a x s in ap (app_at (packet ∷ []) 1) at.1 ∙ no-app packet.hash
        ∙ sym at.0;
    once = inbox-once;
  }

  sent : (a : ℕ) → IsPrefix (map (λ s. s.id) (list_at h.sent a)) (list_at h.inboxes a)
  sent zero = ([], refl)
  sent (suc a) = ([], refl)

  queue : (a : ℕ) → All (λ s. s.rxq ≡ (arrival_of h.arrivals s.id).queue) (list_at h.sent a)
  queue zero zero d l = refl
  queue zero (suc k) d l = absurd (omega arith)
  queue (suc a) k d l = absurd (omega arith)

  replied : (a : ℕ) → IsPrefix (map (λ c. c.id) (list_at h.tx_choices a))
      (map (λ s. s.id) (list_at h.sent a))
  replied zero = ([], refl)
  replied (suc a) = ([], refl)

  class : (a : ℕ) → All (λ c. c.choice.class ≡ Some (packet_at (packet ∷ []) c.id).flow_number)
      (list_at h.tx_choices a)
  class zero zero d l = ap (λ n. Some n) (sym flow)
  class zero (suc k) d l = absurd (omega arith)
  class (suc a) k d l = absurd (omega arith)

  want : (a : ℕ) → All (λ c. IsSome c.choice.want) (list_at h.tx_choices a)
  want zero zero d l = refl
  want zero (suc k) d l = absurd (omega arith)
  want (suc a) k d l = absurd (omega arith)

  shipped : (t x : ℕ) → is_in x (lane_at h.tx_lanes t).accepted ≡ true → (t ≡ 0) × (x ≡ 0)
  shipped zero x s = (refl, in-one x s)
  shipped (suc t) x s = absurd (in-none x s)

  tx_lanes-one : (p i : ℕ) → i < length (list_at (accepted_lists h.tx_lanes) p) → (p ≡ 0) × (i ≡ 0)
  tx_lanes-one zero i l = (refl, omega arith)
  tx_lanes-one (suc p) i l = absurd (omega arith)

  no_drops : (t : ℕ) → (lane_at h.tx_lanes t).drops ≡ []
  no_drops zero = refl
  no_drops (suc t) = refl

  -- It is regular.
  pub one-regular : Regular (packet ∷ []) 1 h
  one-regular = record {
    matched = record {
      choices = refl;
      inboxes = refl;
      sent = refl;
      tx_choices = refl;
      writes = refl;
    };
    arrived = record {
      numbered = refl;
      of_the_capture = omega arith;
      taken = taken;
      chosen = chosen;
      chosen_taken = chosen_taken;
    };
    steered = steered;
    delivered = delivered;
    replies = record { sent = sent; queue = queue; chosen = replied; class = class; want = want };
    shipped = record {
      accepted = λ t x s. let at = shipped t x s in
          (0, _, ap (λ n. choice_in n (list_at h.tx_choices 0)) at.1, sym at.0);
      once = apart-one (accepted_lists h.tx_lanes) 0 tx_lanes-one;
      no_drops = no_drops;
      port = λ x s. (0, subst (λ n. is_in n (0 ∷ []) ≡ true) (sym (in-one x s)) refl);
      port_once = once-one;
    };
    answers = λ k d l. absurd (omega arith);
  }
