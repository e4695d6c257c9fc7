-- How counts of 64 bits rise: a count saturates at the largest value of its type.
use Rattle.std.specs.Prelude.{if◌then◌else◌, ◌≤◌, ℕ, ◌+◌, ◌-◌, ◌^◌, min, max, Bool}

-- the largest value of a count, which is also the value of a count that is not kept
abbrev pub last_count : ℕ
last_count = 2 ^ 64 - 1

-- a count after it rose by n, saturating
abbrev pub raised : ℕ → ℕ → ℕ
raised n before = max before (min (before + n) last_count)

-- a count of failures after a call that failed or succeeded
abbrev pub counted : Bool → ℕ → ℕ
counted failed before = if failed then raised 1 before else before

-- a count rose, or is at its largest value
abbrev pub Rose : ℕ → ℕ → Type 0
Rose before now = raised 1 before ≤ now
