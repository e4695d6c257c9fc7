-- Sets of processors and of queues, and the members of a list of candidates.
use Rattle.std.specs.Prelude.{ℕ, ◌-◌, ◌%◌, ◌^◌, Bool, true, false, List, [], ◌∷◌, ◌==◌, ◌&&◌}
use Rattle.std.specs.Prelude.{nat_lt, length, slice_index, filter, bit_and, bit_or}
use Rattle.std.specs.Int.{bit_at}
use Rattle.std.specs.List.{range_with_len}
use Rattle.steer_base.specs.declared.cpu_mask.CpuMask.{CpuMask}

-- whether a number is in the set: bit n, for numbers below the width
abbrev pub in_bits : (width bits number : ℕ) → Bool
in_bits width bits n = nat_lt n width && bit_at bits n == 1

-- whether a processor is in the set; 32 and more are in none
abbrev pub has : CpuMask → ℕ → Bool
has mask cpu = in_bits 32 mask.0 cpu

-- whether a receive queue is in the set; 16 and more are in none
abbrev pub has_queue : ℕ → ℕ → Bool
has_queue queues queue = in_bits 16 queues queue

-- those of the numbers below n that pass the test, ascending; closed, since n is often a numeral
unfoldable pub those_below : ℕ → (ℕ → Bool) → List ℕ
those_below n test = filter test (range_with_len 0 n)

-- the members of a set of processors, ascending
abbrev pub members : CpuMask → List ℕ
members mask = those_below 32 (has mask)

-- the processors below a number
abbrev pub first_cpus : ℕ → CpuMask
first_cpus count = record { 0 = 2 ^ count - 1 }

-- a set with a processor more, and with one less
abbrev pub with_cpu : CpuMask → ℕ → CpuMask
with_cpu mask cpu = record { 0 = bit_or mask.0 (2 ^ cpu) }

abbrev pub without_cpu : CpuMask → ℕ → CpuMask
without_cpu mask cpu = record { 0 = bit_and mask.0 (2 ^ 32 - 1 - 2 ^ cpu) }

abbrev pub is_empty : List ℕ → Bool
is_empty [] = true
is_empty (x ∷ xs) = false

-- the candidate at the index `hash mod k` among k
abbrev pub at_hash : List ℕ → ℕ → ℕ
at_hash candidates hash = slice_index candidates (hash % length candidates)
