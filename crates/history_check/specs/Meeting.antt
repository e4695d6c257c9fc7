-- The choices of each queue, met in the order in which its packets arrived.
use Rattle.std.specs.Prelude.{ℕ, ◌≡◌, ◌<◌, List, drop, false, length, map, slice_index}
use Rattle.std.specs.Prelude.{slice_index_or}
use Rattle.history.specs.Lists.{arrivals_at, list_at}
use Rattle.history.specs.declared.arrival.Arrival.{Arrival}
use Rattle.history.specs.declared.history.History.{History}
use Rattle.history_check.specs.Tests.{begins}

-- the packets of the choices of a queue
abbrev pub chosen_ids : History → ℕ → List ℕ
chosen_ids h q = map (λ c. c.id) (list_at h.choices q)

-- the arrival at an index is at this queue and is this packet
abbrev pub IsAt : History → (index queue id : ℕ) → Type 0
IsAt h i queue id = (a : Arrival) × (i < length h.arrivals) × (a ≡ slice_index_or h.arrivals i a)
    × (a.queue ≡ queue) × (a.id ≡ id)

-- The choices of each queue from the counts on, against its arrivals from an index on, are as all
-- its choices against all its arrivals: the earlier ones are met.
abbrev pub AreMet : History → ℕ → List ℕ → Type 0
AreMet h i met = (q : ℕ) → q < length met
    → begins (drop (slice_index met q) (chosen_ids h q)) (arrivals_at (drop i h.arrivals) q)
    ≡ begins (chosen_ids h q) (arrivals_at h.arrivals q)

-- the choices of a queue are not for its first arrivals
abbrev pub HasOther : History → Type 0
HasOther h = (q : ℕ) × (q < length h.choices)
    × (begins (chosen_ids h q) (arrivals_at h.arrivals q) ≡ false)
