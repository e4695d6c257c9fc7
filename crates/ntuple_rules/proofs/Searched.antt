-- What a search among the groups finds, where a sieve lets through those that find the flow.
use Rattle.std.proofs.Common.{◌≡◌, ◌<◌, ◌≤◌, ◌+◌, ◌-◌, ◌/◌, ◌%◌, ◌^◌, ◌⊎◌, ⊎_elim, inl, inr, ℕ}
use Rattle.std.proofs.Common.{zero, suc, List, [], ◌∷◌, ◌++◌, length, drop, get_or, set, All, Bool}
use Rattle.std.proofs.Common.{true, false, Option, Some, None, bit_or, cond, eqb, ltb}
use Rattle.std.proofs.Common.{option_and_then}
use Rattle.std.specs.Option.{option_or}
use Rattle.std.proofs.lemmas.Bool.{cases_lt, eqb-true, eqb-false, ltb-true, ltb-false}
use Rattle.std.proofs.lemmas.Option.{get_or_from_slice_get, slice_get-get_or, slice_get_past}
use Rattle.std.proofs.lemmas.Option.{slice_get_within}
use Rattle.std.proofs.Common.{is_some, slice_get, MatchOption, refl, ap, sym, subst, ◌∙◌, arith}
use Rattle.std.specs.Int.{bit_at}
use Rattle.std.proofs.lemmas.Nat.{shr-shr}
use Rattle.std.proofs.lemmas.Nat.Bits.{bit_at-lt, bit_at-suc, bit_at-zero, bit_at_or}
use Rattle.steer_base.specs.declared.flow.Flow.{Flow}
use Rattle.ntuple_rules.specs.declared.rule.Rule.{Rule}
use Rattle.ntuple_rules.specs.declared.fields.Shape.{Shape}
use Rattle.ntuple_rules.specs.declared.group.Group.{Group}
use Rattle.ntuple_rules.specs.declared.sieve.Sieve.{Sieve}
use Rattle.ntuple_rules.specs.Groups.{found_among, found_at, found_in, lesser, FindsMoreAt, InOrder}
use Rattle.ntuple_rules.specs.Groups.{significant_bits, shape_of, Adds, FindsNoMore, IsAt, IsNew}
use Rattle.ntuple_rules.specs.Groups.{StartsAtFirst}
use Rattle.ntuple_rules.specs.Matches.{matches}
use Rattle.ntuple_rules.specs.Sieves.{AllowsAt, AllowsFlow, AllowsMore, AllowsRule, GoesOn, Sifts}
use Rattle.ntuple_rules.proofs.Allowed.{set_other, set_same}
use Rattle.ntuple_rules.proofs.Found.{found_in-adds, found_in-new, lesser-assoc}

-- a new group finds nothing
pub no_more-new : (groups : List Group) (group : Group) (shape : Shape) (first : ℕ)
    → IsNew group shape first → FindsNoMore groups (groups ++ group ∷ [])
no_more-new [] group shape first new zero flow found =
    absurd (none_is (found_in group flow) (found_in-new group shape first flow new) found)
  where
    none_is : (o : Option ℕ) → o ≡ None → is_some o ≡ true → ⊥
    none_is None e is = cc
    none_is (Some n) e is = cc
no_more-new [] group shape first new (suc i) flow found = found
no_more-new (g ∷ gs) group shape first new zero flow found = found
no_more-new (g ∷ gs) group shape first new (suc i) flow found =
    no_more-new gs group shape first new i flow found

-- a rule more is found where its group is
pub finds_more : (old groups : List Group) (place : ℕ) (here group : Group) (rule : Rule)
    (number : ℕ) → here ≡ get_or groups place here → FindsNoMore old groups
    → IsAt groups place (shape_of rule) → Adds here group (significant_bits rule) number
    → FindsMoreAt old (set groups place group) place rule
finds_more old groups place here group rule number is no_more at adds i flow found =
    by (eqb i place) refl
  where
    within : place < length groups
    within = slice_get_within groups place at.group at.stands

    stands : slice_get groups place ≡ Some here
    stands = slice_get-get_or groups place here within ∙ ap Some (sym is)

    shaped : here.shape ≡ shape_of rule
    shaped =
        ap (λ (g : Group). g.shape)
        (is ∙ get_or_from_slice_get groups place at.group here at.stands)
        ∙ at.shaped

    Found : Option Group → Type 0
    Found o = is_some (option_and_then (λ g. found_in g flow) o) ≡ true

    here_or_rule : (was : Option ℕ) (b : Bool)
        → found_in here flow ≡ was → matches rule flow ≡ b
        → is_some (option_or was (cond b (Some number) None)) ≡ true → i ≡ place
        → is_some (found_at old i flow) ≡ true ⊎ ((i ≡ place) × (matches rule flow ≡ true))
    here_or_rule (Some n) b was is' some e =
        inl (no_more i flow (subst Found (sym (ap (slice_get groups) e ∙ stands))
        (ap is_some was)))
    here_or_rule None true was is' some e = inr (e, is')
    here_or_rule None false was is' some e = absurd cc

    by : (b : Bool) → eqb i place ≡ b
        → is_some (found_at old i flow) ≡ true ⊎ ((i ≡ place) × (matches rule flow ≡ true))
    by true e =
        let same : i ≡ place = eqb-true i place e in
        let now : is_some (found_in group flow) ≡ true =
        subst Found (ap (slice_get (set groups place group)) same
        ∙ set_same groups place group within) found in
        here_or_rule (found_in here flow) (matches rule flow) refl refl
        (sym (ap is_some (found_in-adds flow here group rule number shaped adds)) ∙ now) same
    by false e =
        inl (no_more i flow
        (subst Found (set_other groups place i group (eqb-false i place e)) found))

-- a rule more is let through where its group is
pub sifts_more : (old new : List Group) (sieves more : List Sieve) (place : ℕ) (rule : Rule)
    → Sifts old sieves → FindsMoreAt old new place rule → AllowsMore sieves more
    → AllowsRule more place rule → Sifts new more
sifts_more old new sieves more place rule sifts finds allows admits i flow found =
    by (finds i flow found)
  where
    by : is_some (found_at old i flow) ≡ true ⊎ ((i ≡ place) × (matches rule flow ≡ true))
        → AllowsAt more i flow
    by (inl before) = allows i flow (sifts i flow before)
    by (inr is) = subst (λ j. AllowsAt more j flow) (sym is.0) (admits flow is.1)

-- a group of a sieve
pub of_sieve : (sieves : List Sieve) (place i : ℕ) (sieve : Sieve) (flow : Flow) → place % 64 ≡ 0
    → i < 64 → slice_get sieves (place / 64) ≡ Some sieve → AllowsAt sieves (place + i) flow
    → 16 ≤ place + i → AllowsFlow sieve.sets.items i flow
of_sieve sieves place i sieve flow first below is allows later =
    let index : (place + i) / 64 ≡ place / 64 = omega (arith, first, below) in
    let bit : (place + i) % 64 ≡ i = omega (arith, first, below) in
    subst (λ k. AllowsFlow sieve.sets.items k flow) bit
    (subst (λ found. MatchOption found ⊥
    (λ s. AllowsFlow s.sets.items ((place + i) % 64) flow)) (ap (slice_get sieves) index ∙ is)
    (allows later))

-- a group is in no sieve, or in the one that lets it through
pub candidate : (place i let_through always : ℕ) → (place + i < 16 → bit_at always i ≡ 1)
    → (16 ≤ place + i → bit_at let_through i ≡ 1) → bit_at (bit_or let_through always) i ≡ 1
candidate place i let_through always first later =
    ⊎_elim
    (λ less. omega (arith, bit_at_or let_through always i, first less, bit_at-lt let_through i))
    (λ more. omega (arith, bit_at_or let_through always i, later more, bit_at-lt always i))
    (cases_lt (place + i) 16)

-- groups in order start at their first rules
pub order-starts : (groups : List Group) (low high : ℕ) → InOrder low groups high
    → All StartsAtFirst groups
order-starts [] low high order k d within = absurd (omega (arith, within))
order-starts (g ∷ gs) low high order zero d within = order.1
order-starts (g ∷ gs) low high order (suc k) d within =
    order-starts gs g.first high order.2 k d (omega (arith, within))

-- one group more
among_step : (groups : List Group) (i : ℕ) (flow : Flow)
    → found_among (drop i groups) flow
    ≡ lesser (found_at groups i flow) (found_among (drop (suc i) groups) flow)
among_step [] zero flow = refl
among_step [] (suc i) flow = refl
among_step (g ∷ gs) zero flow = refl
among_step (g ∷ gs) (suc i) flow = among_step gs i flow

-- groups that find nothing
none_between : (groups : List Group) (flow : Flow) (n i : ℕ)
    → ((k : ℕ) → k < n → found_at groups (i + k) flow ≡ None)
    → found_among (drop i groups) flow ≡ found_among (drop (i + n) groups) flow
none_between groups flow zero i none =
    ap (λ k. found_among (drop k groups) flow) (omega arith)
none_between groups flow (suc n) i none =
    let here : found_at groups i flow ≡ None =
    subst (λ k. found_at groups k flow ≡ None) (omega arith) (none 0 (omega arith)) in
    among_step groups i flow
    ∙ ap (λ found. lesser found (found_among (drop (suc i) groups) flow)) here
    ∙ none_between groups flow n (suc i)
    (λ k below. subst (λ j. found_at groups j flow ≡ None) (omega arith)
    (none (suc k) (omega (arith, below))))
    ∙ ap (λ k. found_among (drop k groups) flow) (omega arith)

-- a group that is not left finds nothing
not_left : (found : Option ℕ) (bit : ℕ) → (is_some found ≡ true → bit ≡ 1) → bit ≡ 0
    → found ≡ None
not_left None bit sound not = refl
not_left (Some n) bit sound not = absurd (omega (arith, sound refl, not))

bit_at-shr : (n k i : ℕ) → bit_at (n / 2 ^ k / 2) i ≡ bit_at n (k + 1 + i)
bit_at-shr n k i =
    sym (bit_at-suc (n / 2 ^ k) i) ∙ ap (λ m. m % 2) (shr-shr n k (suc i))
    ∙ ap (bit_at n) (omega arith)

module _ (groups : List Group) (flow : Flow) where
  -- the groups up to the next one that is left find nothing
  pub goes_on : (from at skipped end left : ℕ) (old found : Option ℕ)
      → GoesOn groups flow old from found at
      → ((i : ℕ) → at + i < end → is_some (found_at groups (at + i) flow) ≡ true
      → bit_at left i ≡ 1)
      → at + skipped < end → ((i : ℕ) → i < skipped → bit_at left i ≡ 0)
      → GoesOn groups flow old from (lesser found (found_at groups (at + skipped) flow))
      (at + (skipped + 1))
  goes_on from at skipped end left old found goes sound within not =
      let none = none_between groups flow skipped at
      (λ k below. not_left (found_at groups (at + k) flow) (bit_at left k)
      (sound k (omega (arith, below, within))) (not k below)) in
      let step = among_step groups (at + skipped) flow in
      let next : suc (at + skipped) ≡ at + (skipped + 1) = omega arith in
      lesser-assoc found (found_at groups (at + skipped) flow)
      (found_among (drop (at + (skipped + 1)) groups) flow)
      ∙ ap (lesser found)
      (ap (λ k. lesser (found_at groups (at + skipped) flow) (found_among (drop k groups) flow))
      (sym next) ∙ sym step ∙ sym none)
      ∙ goes

  -- where none is left, the others find nothing
  pub goes_to_end : (from at end left : ℕ) (old found : Option ℕ) → left ≡ 0
      → GoesOn groups flow old from found at
      → ((i : ℕ) → at + i < end → is_some (found_at groups (at + i) flow) ≡ true
      → bit_at left i ≡ 1)
      → at ≤ end → GoesOn groups flow old from found end
  goes_to_end from at end left old found ended goes sound within =
      let none = none_between groups flow (end - at) at
      (λ k below. not_left (found_at groups (at + k) flow) (bit_at left k)
      (sound k (omega (arith, below, within))) (ap (λ n. bit_at n k) ended ∙ bit_at-zero k)) in
      let is : at + (end - at) ≡ end = omega (arith, within) in
      ap (lesser found) (ap (λ k. found_among (drop k groups) flow) (sym is) ∙ sym none) ∙ goes

  -- and neither do those past the last
  pub goes_past : (from at end : ℕ) (old found : Option ℕ) → GoesOn groups flow old from found at
      → length groups ≤ at → at ≤ end → GoesOn groups flow old from found end
  goes_past from at end old found goes past within =
      let none = none_between groups flow (end - at) at
      (λ k below. ap (option_and_then (λ group. found_in group flow))
      (slice_get_past groups (at + k) (omega (arith, past)))) in
      let is : at + (end - at) ≡ end = omega (arith, within) in
      ap (lesser found) (ap (λ k. found_among (drop k groups) flow) (sym is) ∙ sym none) ∙ goes

-- the bits that are left
pub sound_next : (groups : List Group) (flow : Flow) (at skipped end left : ℕ)
    → ((i : ℕ) → at + i < end → is_some (found_at groups (at + i) flow) ≡ true
    → bit_at left i ≡ 1)
    → (i : ℕ) → at + (skipped + 1) + i < end
    → is_some (found_at groups (at + (skipped + 1) + i) flow) ≡ true
    → bit_at (left / 2 ^ skipped / 2) i ≡ 1
sound_next groups flow at skipped end left sound i within found =
    let is : at + (skipped + 1) + i ≡ at + (skipped + 1 + i) = omega arith in
    bit_at-shr left skipped i
    ∙ sound (skipped + 1 + i) (omega (arith, within))
    (subst (λ k. is_some (found_at groups k flow) ≡ true) is found)

pub past_next : (at skipped end left : ℕ)
    → ((i : ℕ) → end ≤ at + i → bit_at left i ≡ 0)
    → (i : ℕ) → end ≤ at + (skipped + 1) + i → bit_at (left / 2 ^ skipped / 2) i ≡ 0
past_next at skipped end left past i beyond =
    bit_at-shr left skipped i ∙ past (skipped + 1 + i) (omega (arith, beyond))

pub below_end : (at skipped end left : ℕ) → ((i : ℕ) → end ≤ at + i → bit_at left i ≡ 0)
    → bit_at left skipped ≡ 1 → at + skipped < end
below_end at skipped end left past one = by (ltb (at + skipped) end) refl
  where
    by : (b : Bool) → ltb (at + skipped) end ≡ b → at + skipped < end
    by true e = ltb-true (at + skipped) end e
    by false e = absurd (omega (arith, one, past skipped (ltb-false (at + skipped) end e)))
