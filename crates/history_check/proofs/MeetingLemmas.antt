-- One arrival more, with the counts of the choices that were met.
use Rattle.std.proofs.Common.{ℕ, ◌+◌, ◌<◌, ◌≤◌, ◌≡◌, ◌≢◌, true, false, List, [], length, drop}
use Rattle.std.proofs.Common.{refl, ap, ◌∙◌, sym, arith, suc, inl, inr, get_or, set, subst}
use Rattle.std.specs.Prelude.{◌&&◌, Bool, nat_le, slice_index}
use Rattle.std.proofs.lemmas.Bool.{cases_eq, cases_lt, eq-eqb, ne_eqb}
use Rattle.std.proofs.lemmas.List.{get_or-set_other, get_or-set_same, length-map, length-set}
use Rattle.history.specs.Lists.{arrivals_at, list_at}
use Rattle.history.specs.declared.arrival.Arrival.{Arrival}
use Rattle.history.specs.declared.history.History.{History}
use Rattle.history_check.specs.Meeting.{AreMet, HasOther, IsAt, chosen_ids}
use Rattle.history_check.specs.Tests.{begins, is_polled}
use Rattle.history_check.proofs.BeginsLemmas.{arrival-same, arrival-differs, arrival-elsewhere}
use Rattle.history_check.proofs.BeginsLemmas.{begins-end, begins-short}

module _ (h : History) (i own x : ℕ) (met : List ℕ) (at : IsAt h i own x)
    (are : AreMet h i met) where
  abbrev place : ℕ
  place = slice_index met own

  abbrev a : Arrival
  a = at.0

  one-more : i + 1 ≡ suc i
  one-more = omega arith

  -- the choices of another queue
  other : (q : ℕ) → q < length met → q ≢ own
      → begins (drop (slice_index met q) (chosen_ids h q)) (arrivals_at (drop (i + 1) h.arrivals) q)
      ≡ begins (chosen_ids h q) (arrivals_at h.arrivals q)
  other q l ne =
      arrival-elsewhere q i (i + 1) (slice_index met q) h.arrivals a (chosen_ids h q) at.1 at.2
      one-more (ne_eqb a.queue q (λ e. ne (sym e ∙ at.3))) ∙ are q l

  pub met-nowhere : length met ≤ own → AreMet h (i + 1) met
  met-nowhere past q l = other q l (λ e. omega (arith, past, l, e))

  pub met-ended : length (chosen_ids h own) ≤ place → AreMet h (i + 1) met
  met-ended end q l = elim (cases_eq q own) [
    | inl e ↦
        let short : length (chosen_ids h q) ≤ slice_index met q =
        subst (λ p. length (chosen_ids h p) ≤ slice_index met p) (sym e) end in
        begins-end (slice_index met q) (chosen_ids h q) (arrivals_at (drop (i + 1) h.arrivals) q)
        short
        ∙ sym (begins-end (slice_index met q) (chosen_ids h q)
        (arrivals_at (drop i h.arrivals) q) short) ∙ are q l
    | inr ne ↦ other q l ne
  ]

  pub met-next : own < length met → place < length (chosen_ids h own)
      → get_or (chosen_ids h own) place 0 ≡ x → AreMet h (i + 1) (set met own (place + 1))
  met-next there left same q l =
      let within : q < length met = omega (arith, l, length-set met own (place + 1)) in
      elim (cases_eq q own) [
        | inl e ↦
            let count : slice_index (set met own (place + 1)) q ≡ suc place =
            ap (slice_index (set met own (place + 1))) e
            ∙ get_or-set_same met own (place + 1) 0 there ∙ omega arith in
            let step : begins (drop (suc place) (chosen_ids h own))
            (arrivals_at (drop (i + 1) h.arrivals) own)
            ≡ begins (chosen_ids h own) (arrivals_at h.arrivals own) =
            arrival-same own i (i + 1) place h.arrivals a (chosen_ids h own) at.1 at.2
            one-more (eq-eqb a.queue own at.3) left (same ∙ sym at.4) ∙ are own there in
            ap (λ n. begins (drop n (chosen_ids h q)) (arrivals_at (drop (i + 1) h.arrivals) q))
            count
            ∙ subst (λ p. begins (drop (suc place) (chosen_ids h p))
            (arrivals_at (drop (i + 1) h.arrivals) p)
            ≡ begins (chosen_ids h p) (arrivals_at h.arrivals p)) (sym e) step
        | inr ne ↦
            ap (λ n. begins (drop n (chosen_ids h q)) (arrivals_at (drop (i + 1) h.arrivals) q))
            (get_or-set_other met own q (place + 1) 0 ne) ∙ other q within ne
      ]

  pub met-other : own < length met → length met ≡ length h.choices
      → place < length (chosen_ids h own) → get_or (chosen_ids h own) place 0 ≢ x → HasOther h
  met-other there count left differs = (
    own,
    omega (arith, there, count),
    sym (are own there)
        ∙ arrival-differs own i (i + 1) place h.arrivals a (chosen_ids h own) at.1 at.2
        one-more (eq-eqb a.queue own at.3) left (λ e. differs (e ∙ at.4)),
  )

-- a queue with a choice for another packet fails its test
and-false : (a b c : Bool) → c ≡ false → (a && b && c) ≡ false
and-false false b c e = refl
and-false true false c e = refl
and-false true true c e = e

pub other-fails : (h : History) (q : ℕ) → begins (chosen_ids h q) (arrivals_at h.arrivals q) ≡ false
    → is_polled h q ≡ false
other-fails h q e = and-false
    (nat_le (slice_index h.taken q) (length (arrivals_at h.arrivals q)))
    (nat_le (length (list_at h.choices q)) (slice_index h.taken q))
    (begins (chosen_ids h q) (arrivals_at h.arrivals q)) e

-- a count is that of all choices if and only if none is left
pub all-met : (h : History) (q m : ℕ) → nat_le (length (list_at h.choices q)) m
    ≡ begins (drop m (chosen_ids h q)) []
all-met h q m =
    let count : length (chosen_ids h q) ≡ length (list_at h.choices q) =
    length-map (list_at h.choices q) (λ c. c.id) in
    elim (cases_lt m (length (list_at h.choices q))) [
      | inl l ↦ (let f : nat_le (length (list_at h.choices q)) m ≡ false = grind arith in f
          ∙ sym (begins-short m (chosen_ids h q) (omega arith)))
      | inr l ↦ (let t : nat_le (length (list_at h.choices q)) m ≡ true = grind arith in t
          ∙ sym (begins-end m (chosen_ids h q) [] (omega arith)))
    ]
