-- The transmit queue that a reply is sent on: the map of receive queues is asked before that of
-- processors (kernel scaling chapter, section XPS). The index by the hash and the last list, of all
-- queues, are this project's own.
use Rattle.std.specs.Prelude.{ℕ, Bool, true, List, Option, unwrap_or, if◌then◌else◌}
use Rattle.steer_base.specs.Sets.{those_below, is_empty, at_hash}

-- the first list with a member, else the last
abbrev pub first_filled : List ℕ → List ℕ → List ℕ → List ℕ
first_filled first second third =
    if is_empty first then (if is_empty second then third else second) else first

-- The candidates among so many transmit queues, ascending: those whose receive-queue map has the
-- queue; with none, those whose processor map has the processor; with none of these either, all.
abbrev pub candidates : (count : ℕ) → (ℕ → ℕ → Bool) → (ℕ → ℕ → Bool) → (rxq cpu : ℕ) → List ℕ
candidates count by_queue by_cpu rxq cpu =
    first_filled
    (those_below count (λ tx. by_queue tx rxq))
    (those_below count (λ tx. by_cpu tx cpu))
    (those_below count (λ tx. true))

-- The pick: the candidate at `hash mod k` among k, and the first without a hash.
abbrev pub pick_of : (count : ℕ) → (ℕ → ℕ → Bool) → (ℕ → ℕ → Bool) → (rxq cpu : ℕ) → Option ℕ → ℕ
pick_of count by_queue by_cpu rxq cpu hash =
    at_hash (candidates count by_queue by_cpu rxq cpu) (unwrap_or hash 0)
