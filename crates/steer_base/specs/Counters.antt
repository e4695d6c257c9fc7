-- Counter numbers: 32-bit counters that wrap, compared by signed difference as the kernel's code
-- compares its queue heads and tails; and table sizes, which are rounded up to powers of two
-- (kernel scaling chapter, section RFS).
use Rattle.std.specs.Prelude.{ℕ, ◌+◌, ◌-◌, ◌%◌, ◌^◌, Bool, ◌==◌, ◌&&◌, nat_lt, nat_le, find, map}
use Rattle.std.specs.Prelude.{unwrap_or, if◌then◌else◌}
use Rattle.std.specs.List.{range_with_len}

-- the number that a counter shows at a count, where it showed `start` at 0
abbrev pub number : ℕ → ℕ → ℕ
number start count = (start + count) % 2 ^ 32

-- head minus tail, modulo 2^32
abbrev pub distance : ℕ → ℕ → ℕ
distance head tail = (head + (2 ^ 32 - tail)) % 2 ^ 32

-- the head is less than half of the range past the tail, and at least so many
abbrev pub has_reached : (head tail more : ℕ) → Bool
has_reached head tail more =
    nat_lt (distance head tail) (2 ^ 31) && nat_le more (distance head tail)

-- the first of the powers of two up to 2^32 that is at least n, and 0 where none is
unfoldable pub first_power : ℕ → ℕ
first_power n =
    unwrap_or (find (λ power. nat_le n power) (map (λ k. 2 ^ k) (range_with_len 0 33))) 0

-- the least power of two that is at least n, and 0 for 0
abbrev pub rounded_up : ℕ → ℕ
rounded_up n = if n == 0 then 0 else first_power n
