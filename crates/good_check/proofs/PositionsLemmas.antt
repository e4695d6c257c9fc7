-- The position of a packet at the lane of a choice, by what is known of the packet.
use Rattle.std.proofs.Common.{ℕ, ◌≡◌, ◌<◌, ◌≤◌, true, List, Option, Some, None}
use Rattle.std.proofs.Common.{length, refl, ap, ◌∙◌, sym, arith, inl, inr, get_or}
use Rattle.std.specs.Option.{is_some, option_and_then, option_map}
use Rattle.std.proofs.Math.ListN.{get_or-eq_default}
use Rattle.std.proofs.lemmas.Bool.{cases_Bool, cases_eq, cases_lt, eq-eqb, ne_eqb}
use Rattle.steer_base.specs.Counters.{number}
use Rattle.steer_base.specs.Entries.{place_in}
use Rattle.steer_base.specs.declared.choice.Chosen.{Chosen}
use Rattle.steer_base.specs.declared.packet.Packet.{Packet}
use Rattle.history.specs.Finding.{is_in}
use Rattle.history.specs.Known.{IsKnown}
use Rattle.history.specs.Lines.{accepted_place, choice_of}
use Rattle.history.specs.Lists.{lane_at, no_lane}
use Rattle.history.specs.Regular.{Regular}
use Rattle.history.specs.declared.history.History.{History}
use Rattle.history.specs.declared.known.Known.{Known}
use Rattle.history.proofs.OwnLemmas.{own-first}
use Rattle.history.proofs.RegularLemmas.{arrived-accepted, lane-accepted}
use Rattle.history.proofs.SamePlaces.{no_place, some_same}
use Rattle.good_check.specs.Choices.{rx_position}
use Rattle.good_check.specs.Positions.{position_in}

pub nowhere : (x : ℕ) (xs : List ℕ) → (is_in x xs ≡ true → ⊥) → place_in x xs ≡ None
nowhere x xs h = elim (cases_Bool (is_in x xs)) [
  | inl t ↦ absurd (h t)
  | inr f ↦ no_place x xs f
]

-- with the own lane of a packet, and its place there
pub at-own : (start lane : ℕ) (own : Option ℕ) (places : ℕ → Option ℕ)
    → ((c : ℕ) (n : ℕ) → places c ≡ Some n → own ≡ Some c)
    → position_in start own (option_and_then places own) lane
    ≡ option_map (number start) (places lane)
at-own start lane None places h =
    let none : places lane ≡ None = no-value (places lane) (λ n e.
    let f : None ≡ Some lane = h lane n e in absurd (cc)) in
    sym (ap (option_map (number start)) none)
  where
    no-value : (o : Option ℕ) → ((n : ℕ) → o ≡ Some n → ⊥) → o ≡ None
    no-value None h = refl
    no-value (Some n) h = absurd (h n refl)
at-own start lane (Some own) places h = elim (cases_eq own lane) [
  | inl e ↦ rw (eq-eqb own lane e) (ap (λ l. option_map (number start) (places l)) e)
  | inr ne ↦
      let none : places lane ≡ None = no-value (places lane) (λ n e.
      ne (some_same own lane (h lane n e))) in
      rw (ne_eqb own lane ne) (sym (ap (option_map (number start)) none))
]
  where
    no-value : (o : Option ℕ) → ((n : ℕ) → o ≡ Some n → ⊥) → o ≡ None
    no-value None h = refl
    no-value (Some n) h = absurd (h n refl)

module _ (packets : List Packet) (apps : ℕ) (h : History) (regular : Regular packets apps h)
    (known : Known) (is : IsKnown h known) where
  placed-in : (x c n : ℕ) → place_in x (lane_at h.lanes c).accepted ≡ Some n
      → is_in x (lane_at h.lanes c).accepted ≡ true
  placed-in x c n e = ap is_some e

  at-arrived : (c : Chosen) → c.id < length h.arrivals
      → position_in h.start (get_or known.lanes c.id None) (get_or known.accepted c.id None)
      c.choice.lane ≡ rx_position h c
  at-arrived c l =
      let places = λ (lane : ℕ). place_in c.id (lane_at h.lanes lane).accepted in
      let own : Option ℕ = option_map (λ d. d.lane) (choice_of h c.id) in
      let first : accepted_place h.lanes c.id
      ≡ option_and_then places own =
      own-first (λ lane. place_in c.id lane.accepted) no_lane h.lanes
      own refl
      (λ lane s. lane-accepted packets apps h regular lane c.id s) in
      ap (λ o. position_in h.start o (get_or known.accepted c.id None) c.choice.lane)
      (is.lanes.slot c.id l)
      ∙ ap (λ o. position_in h.start own o c.choice.lane) (is.accepted.slot c.id l ∙ first)
      ∙ at-own h.start c.choice.lane own places (λ lane n e.
      lane-accepted packets apps h regular lane c.id (placed-in c.id lane n e))

  beyond : (c : Chosen) → length h.arrivals ≤ c.id
      → position_in h.start (get_or known.lanes c.id None) (get_or known.accepted c.id None)
      c.choice.lane ≡ rx_position h c
  beyond c l =
      let none : place_in c.id (lane_at h.lanes c.choice.lane).accepted ≡ None =
      nowhere c.id (lane_at h.lanes c.choice.lane).accepted (λ s.
      let k = arrived-accepted packets apps h regular c.choice.lane c.id s in omega (arith, k, l))
      in
      let slot : get_or known.lanes c.id None ≡ None =
      get_or-eq_default known.lanes None (omega (arith, is.lanes.width, l)) in
      ap (λ o. position_in h.start o (get_or known.accepted c.id None) c.choice.lane) slot
      ∙ sym (ap (option_map (number h.start)) none)

  pub position-known : (c : Chosen)
      → position_in h.start (get_or known.lanes c.id None) (get_or known.accepted c.id None)
      c.choice.lane ≡ rx_position h c
  position-known c = elim (cases_lt c.id (length h.arrivals)) [
    | inl l ↦ at-arrived c l
    | inr l ↦ beyond c l
  ]
