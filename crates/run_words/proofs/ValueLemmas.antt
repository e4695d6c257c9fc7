-- The word of a value means that value, and only such words mean one.
use Rattle.std.proofs.Common.{◌≡◌, ℕ, ◌+◌, ◌-◌, ◌*◌, ◌/◌, ◌%◌, ◌^◌, ◌<◌, ◌≤◌, ◌==◌, ◌||◌, nat_le}
use Rattle.std.proofs.Common.{nat_lt, Bool, true, false, refl, sym, ap, ◌∙◌, arith, Option, None}
use Rattle.std.proofs.Common.{Some, if◌then◌else◌, true≢false, ◌&&◌, ◌⊎◌, inl, inr}
use Rattle.std.proofs.Math.Bool.{and-false}
use Rattle.std.proofs.lemmas.Bool.Decides.{leb_tells, nat_tests}
use Rattle.std.proofs.lemmas.Nat.Bits.{bit_at_above}
use Rattle.steer_base.specs.Sets.{has}
use Rattle.steer_base.specs.declared.cpu_mask.CpuMask.{CpuMask}
use Rattle.steer_base.specs.declared.filter.Filter.{Filter}
use Rattle.run_words.specs.Codes.{OnlyCoded, ReadBack}
use Rattle.run_words.specs.Values.{cpus_in, cpus_word, filter_in, filter_word, flows_in}
use Rattle.run_words.specs.Values.{flows_word, place_in, place_word, queues_in, queues_word}

place_back : (count place : ℕ) → place < count → place_in (place_word place) count ≡ Some place
place_back count place lt =
    let zero : ((place + 1) == 0) ≡ false = grind (arith, nat_tests) in
    let over : nat_lt count (place + 1) ≡ false = grind (arith, nat_tests) in
    rw (zero, over) (ap Some (omega arith))

-- the parts of a filter's word
module _ (queues cpus : ℕ) (f : Filter) (few_queues : queues ≤ 16) (few_cpus : cpus ≤ 32)
    (queue : f.queue < queues) (cpu : f.cpu < cpus) (mark : f.mark < 2 ^ 32) where
  abbrev rest : ℕ
  rest = filter_word f - 1

  queue_part : rest % 16 ≡ f.queue
  queue_part = omega arith

  cpu_part : rest / 16 % 32 ≡ f.cpu
  cpu_part = omega arith

  mark_part : rest / 512 ≡ f.mark
  mark_part = omega arith

  filter_back : filter_in (filter_word f) queues cpus ≡ Some f
  filter_back =
      let zero : (filter_word f == 0) ≡ false = grind (arith, nat_tests) in
      let a : nat_le queues f.queue ≡ false = grind (arith, nat_tests) in
      let b : nat_le cpus f.cpu ≡ false = grind (arith, nat_tests) in
      let c : nat_le (2 ^ 32) f.mark ≡ false = grind (arith, nat_tests) in
      rw (zero, queue_part, cpu_part, mark_part, a, b, c) refl

cpus_back : (cpus : ℕ) (mask : CpuMask) → mask.0 < 2 ^ cpus
    → cpus_in (cpus_word mask) cpus ≡ mask
cpus_back cpus mask lt =
    let t : nat_lt mask.0 (2 ^ cpus) ≡ true = grind (arith, nat_tests) in rw t refl

queues_back : (count set : ℕ) → set < 2 ^ count → queues_in (queues_word set) count ≡ set
queues_back count set lt =
    let t : nat_lt set (2 ^ count) ≡ true = grind (arith, nat_tests) in rw t refl

flows_back : (count generation : ℕ) → count ≤ 32768
    → flows_in (flows_word count generation) ≡ count
flows_back count generation few =
    let low : (count + generation * 2 ^ 32) % 2 ^ 32 ≡ count = omega arith in
    let t : nat_le count 32768 ≡ true = grind (arith, nat_tests) in
    rw (low, t) refl

size_back : (size : ℕ) → size ≤ 65536 → (if nat_le size 65536 then size else 0) ≡ size
size_back size few =
    let t : nat_le size 65536 ≡ true = grind (arith, nat_tests) in rw t refl

pub read_back : ReadBack
read_back =
    record {
      place = place_back;
      filter = filter_back;
      cpus = cpus_back;
      queues = queues_back;
      flows = flows_back;
      socket = size_back;
      done = refl;
    }

-- ---- only coded values

none_some : {A X : Type 0} {x : A} → None ≡ Some x → X
none_some e = absurd (true≢false (ap is_none e))
  where
    is_none : {A : Type 0} → Option A → Bool
    is_none None = true
    is_none (Some x) = false

place_only : (word count place : ℕ) → place_in word count ≡ Some place → word ≡ place_word place
place_only word count place is =
    by ((word == 0) || nat_lt count word) refl is
  where
    value : Option ℕ → ℕ
    value None = 0
    value (Some x) = x

    by : (t : Bool) → ((word == 0) || nat_lt count word) ≡ t
        → (if t then None else Some (word - 1)) ≡ Some place → word ≡ place + 1
    by true test found = none_some found
    by false test found =
        let e : word - 1 ≡ place = ap value found in
        let positive : 0 < word = grind (arith, nat_tests) in
        omega (arith, e, positive)

-- the filter that a word may mean
abbrev made : ℕ → Filter
made word = record {
  queue = (word - 1) % 16;
  cpu = (word - 1) / 16 % 32;
  mark = (word - 1) / 512;
}

made_coded : (word : ℕ) → 0 < word → word ≡ filter_word (made word)
made_coded word positive = omega arith

filter_only : (word queues cpus : ℕ) (f : Filter) → filter_in word queues cpus ≡ Some f
    → word ≡ filter_word f
filter_only word queues cpus f is = by_zero (word == 0) refl is
  where
    value : Option Filter → Filter
    value None = made word
    value (Some x) = x

    by_range : (t : Bool) → 0 < word → (if t then None else Some (made word)) ≡ Some f
        → word ≡ filter_word f
    by_range true positive found = none_some found
    by_range false positive found = made_coded word positive ∙ ap filter_word (ap value found)

    by_zero : (t : Bool) → (word == 0) ≡ t
        → (if t then None else
        (if nat_le queues ((word - 1) % 16)
        || (nat_le cpus ((word - 1) / 16 % 32) || nat_le (2 ^ 32) ((word - 1) / 512))
        then None else Some (made word)))
        ≡ Some f → word ≡ filter_word f
    by_zero true test found = none_some found
    by_zero false test found =
        let positive : 0 < word = grind (arith, nat_tests) in
        by_range (nat_le queues ((word - 1) % 16)
        || (nat_le cpus ((word - 1) / 16 % 32) || nat_le (2 ^ 32) ((word - 1) / 512)))
        positive found

pub only_coded : OnlyCoded
only_coded = record { place = place_only; filter = filter_only }

-- ---- sets

pub below_bits : (word cpus cpu : ℕ) → word < 2 ^ cpus → has (record { 0 = word }) cpu ≡ true
    → cpu < cpus
below_bits word cpus cpu lt is = by_order (leb_tells cpus cpu)
  where
    by_order : ((nat_le cpus cpu ≡ true) × (cpus ≤ cpu))
        ⊎ ((nat_le cpus cpu ≡ false) × (cpu < cpus)) → cpu < cpus
    by_order (inr (t, low)) = low
    by_order (inl (t, high)) =
        absurd (true≢false (sym is ∙ (ap (λ (n : ℕ). nat_lt cpu 32 && n == 1)
        (bit_at_above word cpus cpu lt high) ∙ and-false (nat_lt cpu 32))))
