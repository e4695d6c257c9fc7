-- Where a packet stands, by what its line shows: the place that its list has for it.
use Rattle.std.proofs.Common.{ℕ, ◌<◌, ◌≡◌, ◌≢◌, ◌^◌, true, Option, Some, None, refl, ap, ◌∙◌, sym}
use Rattle.std.proofs.Common.{arith, inl, inr}
use Rattle.std.specs.Option.{is_some, option_and_then, option_map, option_or}
use Rattle.std.proofs.lemmas.Bool.{cases_eq, eq-eqb, ne_eqb}
use Rattle.steer_base.specs.Counters.{distance, number}
use Rattle.steer_base.specs.declared.choice.Choice.{Choice}
use Rattle.steer_base.specs.declared.put.LaneDrop.{LaneDrop}
use Rattle.steer_base.specs.declared.put.Put.{Put}
use Rattle.steer_base.specs.declared.put.Put.TheVariants.{At, Dropped}
use Rattle.history.specs.Lines.{dropped_as}
use Rattle.history.specs.Shown.{without_class}
use Rattle.history.proofs.FoundAgain.Traces.{lane_or}
use Rattle.report_reader.specs.Slots.{accepted_slot, at_lane, dropped_slot, in_list, place_for}
use Rattle.report_reader.specs.Slots.{shipped_slot}

-- a list has a packet only if it is its own one, and then at its place
pub record IsOwn (list own : ℕ) (place here : Option ℕ) : Type 0 where
  pub own_place : list ≡ own → here ≡ place
  pub no_other : list ≢ own → here ≡ None

-- there is no place where the own one has none
pub own-none : (list own : ℕ) (here : Option ℕ) → IsOwn list own None here → here ≡ None
own-none list own here i = elim (cases_eq list own) [
  | inl e ↦ i.own_place e
  | inr ne ↦ i.no_other ne
]

own-some : (list own n : ℕ) (here : Option ℕ) → IsOwn list own (Some n) here
    → here ≡ place_for list (Some (record { list = own; place = n }))
own-some list own n here i = elim (cases_eq list own) [
  | inl e ↦ i.own_place e ∙ (rw (eq-eqb own list (sym e)) refl)
  | inr ne ↦ i.no_other ne ∙ (rw (ne_eqb own list (λ e. ne (sym e))) refl)
]

pub own-list : (list own : ℕ) (place here : Option ℕ) → IsOwn list own place here
    → here ≡ place_for list (in_list own place)
own-list list own None here i = own-none list own here i
own-list list own (Some n) here i = own-some list own n here i

-- how far a number is past the start of the counters
distance-number : (start n : ℕ) → start < 2 ^ 32 → n < 2 ^ 32 → distance (number start n) start ≡ n
distance-number start n s l = omega (arith, s, l)

at-distance : (list start n : ℕ) (c : Choice) → start < 2 ^ 32 → n < 2 ^ 32
    → place_for list (Some (record { list = c.lane; place = n }))
    ≡ place_for list (at_lane (Some c) (distance (number start n) start))
at-distance list start n c s l =
    ap (λ k. place_for list (at_lane (Some c) k)) (sym (distance-number start n s l))

module _ (list start : ℕ) (fits : start < 2 ^ 32) (choice : Option Choice) (here : Option ℕ) where
  -- an accepted packet, at the lane of its choice; what was not accepted has no position
  pub own-accepted : (place : Option ℕ) (fallen : Option Put)
      → IsOwn list (lane_or choice) place here
      → ((n : ℕ) → place ≡ Some n → n < 2 ^ 32)
      → ((n : ℕ) → place ≡ Some n → is_some choice ≡ true)
      → ((n : ℕ) → fallen ≡ Some (At n) → ⊥)
      → here ≡ place_for list (accepted_slot start choice
      (option_or (option_map (λ n. At n) (option_map (number start) place)) fallen))
  own-accepted None None i low chosen fell = own-none list (lane_or choice) here i
  own-accepted None (Some (At n)) i low chosen fell = absurd (fell n refl)
  own-accepted None (Some (Dropped n a p c)) i low chosen fell =
      own-none list (lane_or choice) here i
  own-accepted (Some n) fallen i low chosen fell = by choice (chosen n refl) i
    where
      by : (o : Option Choice) → is_some o ≡ true → IsOwn list (lane_or o) (Some n) here
          → here ≡ place_for list (accepted_slot start o (Some (At (number start n))))
      by None s j = absurd (cc)
      by (Some c) s j = own-some list c.lane n here j ∙ at-distance list start n c fits (low n refl)

  -- a reply that a transmit queue accepted
  pub own-shipped : (place : Option ℕ) → IsOwn list (lane_or choice) place here
      → ((n : ℕ) → place ≡ Some n → n < 2 ^ 32)
      → ((n : ℕ) → place ≡ Some n → is_some choice ≡ true)
      → here ≡ place_for list
      (shipped_slot start (option_map without_class choice) (option_map (number start) place))
  own-shipped None i low chosen = own-none list (lane_or choice) here i
  own-shipped (Some n) i low chosen = by choice (chosen n refl) i
    where
      by : (o : Option Choice) → is_some o ≡ true → IsOwn list (lane_or o) (Some n) here
          → here ≡ place_for list
          (shipped_slot start (option_map without_class o) (Some (number start n)))
      by None s j = absurd (cc)
      by (Some c) s j =
          own-some list c.lane n here j ∙ at-distance list start n (without_class c) fits
          (low n refl)

-- a dropped packet, at the lane of its choice; an accepted one was not dropped
pub own-dropped : (list start : ℕ) (choice : Option Choice) (here accepted place : Option ℕ)
    (drop : Option LaneDrop) → IsOwn list (lane_or choice) place here
    → ((n : ℕ) → accepted ≡ Some n → place ≡ None) → is_some drop ≡ is_some place
    → ((n : ℕ) → place ≡ Some n → is_some choice ≡ true)
    → here ≡ place_for list (dropped_slot choice
    (option_or (option_map (λ n. At n) (option_map (number start) accepted))
    (option_and_then (λ d. option_map (dropped_as d) place) drop)))
own-dropped list start choice here (Some n) place drop i never both chosen =
    own-none list (lane_or choice) here (record {
      own_place = λ e. i.own_place e ∙ never n refl;
      no_other = i.no_other;
    })
own-dropped list start choice here None None None i never both chosen =
    own-none list (lane_or choice) here i
own-dropped list start choice here None None (Some d) i never both chosen = absurd (cc)
own-dropped list start choice here None (Some k) None i never both chosen = absurd (cc)
own-dropped list start choice here None (Some k) (Some d) i never both chosen =
    by choice (chosen k refl) i
  where
    by : (o : Option Choice) → is_some o ≡ true → IsOwn list (lane_or o) (Some k) here
        → here ≡ place_for list (dropped_slot o (Some (dropped_as d k)))
    by None s j = absurd (cc)
    by (Some c) s j = own-some list c.lane k here j
