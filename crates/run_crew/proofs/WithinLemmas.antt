-- The wire sends each packet to a queue of the plan.
use Rattle.std.proofs.Common.{◌||◌}
use Rattle.std.proofs.lemmas.Bool.{leb-false, ltb-false}
use Rattle.run_coupling.proofs.Tries.GivenLemmas.{all-joined}
use Rattle.run_crew.specs.ThreadLaws.{ArrivalsAreWithin}
use Rattle.run_crew.proofs.Names.{◌≡◌, inl, inr, ℕ, zero, suc, ◌-◌, ◌%◌, ◌/◌, ◌^◌, ◌<◌, ◌==◌, Bool}
use Rattle.run_crew.proofs.Names.{true, false, List, [], ◌∷◌, Option, Some, None, All, length, sym}
use Rattle.run_crew.proofs.Names.{refl, ap, ◌∙◌, subst, arith, nat_le, nat_lt, slice_index}
use Rattle.run_crew.proofs.Names.{unwrap_or, cases_Bool, All-cons, All-head, All-nil, All-tail}
use Rattle.run_crew.proofs.Names.{filter_place, table_place, Filter, Arrival, QueuePlan}
use Rattle.run_crew.proofs.Names.{Redirection, Input, setup_in, packet_hash, length-map, filter_in}
use Rattle.run_crew.proofs.Names.{place_in, oldest_first, ByFilter, Leads, LooksUpFilter, Routes}
use Rattle.run_crew.proofs.Names.{HintView}
use Rattle.run_crew.proofs.ChoiceFunctions.{none-some, some-is}

or-left : (a b : Bool) → (a || b) ≡ false → a ≡ false
or-left false b e = refl
or-left true b e = e

or-right : (a b : Bool) → (a || b) ≡ false → b ≡ false
or-right false b e = e
or-right true b e = absurd (cc)

-- a filter of a word is of one of the queues
filter-within : (word queues cpus : ℕ) (f : Filter) → filter_in word queues cpus ≡ Some f
    → f.queue < queues
filter-within word queues cpus f is =
    elim (cases_Bool (word == 0)) [
      | inl e ↦ let none : None ≡ Some f = rw e at is in none-some f none
      | inr e ↦
          let some = rw e at is in
          elim (cases_Bool (nat_le queues ((word - 1) % 16)
          || (nat_le cpus ((word - 1) / 16 % 32) || nat_le (2 ^ 32) ((word - 1) / 512)))) [
            | inl out ↦ let none : None ≡ Some f = rw out at some in none-some f none
            | inr within ↦
                let there = rw within at some in
                let same = ap (λ (g : Filter). g.queue) (some-is _ f there) in
                let low = leb-false queues ((word - 1) % 16) (or-left _ _ within) in
                omega (arith, same, low)
          ]
    ]

-- a place of a word is one of so many
pub place-within : (word count place : ℕ) → place_in word count ≡ Some place → place < count
place-within word count place is =
    elim (cases_Bool ((word == 0) || nat_lt count word)) [
      | inl out ↦ let none : None ≡ Some place = rw out at is in none-some place none
      | inr within ↦
          let there : Some (word - 1) ≡ Some place = rw within at is in
          let same = some-is (word - 1) place there in
          let low = ltb-false count word (or-right (word == 0) (nat_lt count word) within) in
          let some = or-left (word == 0) (nat_lt count word) within in
          omega (arith, same, low, not-zero word some)
    ]
  where
    not-zero : (word : ℕ) → (word == 0) ≡ false → 0 < word
    not-zero zero e = absurd (cc)
    not-zero (suc word) e = omega arith

index-within : (n : ℕ) (xs : List ℕ) (k : ℕ) → 0 < n → All (λ x. x < n) xs → slice_index xs k < n
index-within n [] k some all = some
index-within n (x ∷ xs) zero some all = All-head (λ x. x < n) x xs all
index-within n (x ∷ xs) (suc k) some all =
    index-within n xs k some (All-tail (λ x. x < n) x xs all)

module _ (i : Input) where
  abbrev Q : ℕ
  Q = length i.plan.queues

  abbrev reta : Redirection
  reta = record { queues = Q; entries = i.plan.reta }

  abbrev IsIn : Arrival → Type 0
  IsIn a = a.queue < Q

  some-queue : 0 < Q
  some-queue = i.plan.within.queues_length.at_least

  homes : length (setup_in i).homes ≡ Q
  homes = length-map i.plan.queues (λ (q : QueuePlan). q.home)

  looked-up : (place : Option ℕ) (old new : HintView) (filter : Option Filter) (f : Filter)
      → LooksUpFilter (setup_in i) place old new filter → filter ≡ Some f → f.queue < Q
  looked-up None old new filter f (none, same) is = none-some f (sym none ∙ is)
  looked-up (Some place) old new filter f (value, means, load) is =
      subst (λ n. f.queue < n) homes
      (filter-within value (length (setup_in i).homes) (setup_in i).cpus f (sym means ∙ is))

  by-filter : (hash : ℕ) (filter : Option Filter) (a : Arrival) (old new : HintView)
      → ((f : Filter) → filter ≡ Some f → f.queue < Q)
      → ByFilter (setup_in i) reta hash filter a old new → IsIn a
  by-filter hash (Some f) a old new low (way, same) =
      let queue = ap (λ r. r.queue) way in
      let less = low f refl in
      omega (arith, queue, less)
  by-filter hash None a old new low (queue, way, (value, means, load)) =
      let same = ap (λ r. r.queue) way in
      let less = by-word (place_in value (length (setup_in i).homes)) refl in
      omega (arith, same, means, less)
    where
      by-word : (o : Option ℕ) → place_in value (length (setup_in i).homes) ≡ o
          → unwrap_or o (slice_index i.plan.reta (table_place hash)) < Q
      by-word None is =
          index-within Q i.plan.reta (table_place hash) some-queue i.plan.within.reta_within
      by-word (Some place) is =
          subst (λ n. place < n) homes
          (place-within value (length (setup_in i).homes) place is)

  routed : (hash : Option ℕ) (a : Arrival) (old new : HintView)
      → Routes (setup_in i) i.plan.filters reta hash a old new → IsIn a
  routed None a old new (way, same) =
      let queue = ap (λ r. r.queue) way in let some = some-queue in omega (arith, queue, some)
  routed (Some hash) a old new (filter, mid, looks, by) =
      by-filter hash filter a mid new
      (λ f is. looked-up (filter_place i.plan.filters (Some hash)) old mid filter f looks is) by

  led : (late : List Arrival) (old new : HintView)
      → Leads (setup_in i) i.plan.filters reta late old new → All IsIn late
  led [] old new same = All-nil IsIn
  led (a ∷ rest) old new (before, mid, older, way, announced) =
      All-cons IsIn a rest (routed (packet_hash (setup_in i) a.id) a before mid way)
      (led rest old before older)

  oldest-in : (late : List Arrival) → All IsIn late → All IsIn (oldest_first late)
  oldest-in [] all = All-nil IsIn
  oldest-in (a ∷ rest) all =
      all-joined IsIn (oldest_first rest) (a ∷ [])
      (oldest-in rest (All-tail IsIn a rest all))
      (All-cons IsIn a [] (All-head IsIn a rest all) (All-nil IsIn))

pub arrivals_are_within : ArrivalsAreWithin
arrivals_are_within i arrivals old new (late, mid, are, leads, ends) =
    subst (All (IsIn i)) (sym are) (oldest-in i late (led i late old mid leads))
