-- Entries of older generations are shown as unset.
use Rattle.std.proofs.Common.{ℕ, ◌≡◌, ◌<◌, ◌≤◌, List, [], ◌∷◌, None, length, replicate}
use Rattle.std.proofs.Common.{refl, ap, arith, zero, suc, set, Some, ◌∙◌}
use Rattle.std.proofs.lemmas.Bool.{eq-eqb, ne_eqb}
use Rattle.std.proofs.lemmas.List.{map-set}
use Rattle.std.proofs.lemmas.List.Elements.{All-head, All-tail}
use Rattle.sock_flow_table.specs.Generations.{AreUpTo, current, never, shown}
use Rattle.sock_flow_table.specs.declared.noted.Noted.{Noted}

-- a later generation shows none of them
pub shown-later : (last now : ℕ) (entries : List Noted) → last < now → AreUpTo last entries
    → shown now entries ≡ replicate (length entries) None
shown-later last now [] later up = refl
shown-later last now (e ∷ es) later up =
    let old : e.generation ≤ last = All-head (λ noted. noted.generation ≤ last) e es up in
    rw (ne_eqb e.generation now (omega arith))
    (ap (λ xs. None ∷ xs) (shown-later last now es later
    (All-tail (λ noted. noted.generation ≤ last) e es up)))

-- nor is an entry shown that was never noted
pub shown-never : (n : ℕ) → shown 1 (replicate n never) ≡ replicate n None
shown-never zero = refl
shown-never (suc n) = ap (λ xs. None ∷ xs) (shown-never n)

-- an entry that is noted is shown
pub shown-noted : (now : ℕ) (entries : List Noted) (place cpu : ℕ)
    → shown now (set entries place (record { generation = now; cpu = cpu }))
    ≡ set (shown now entries) place (Some cpu)
shown-noted now entries place cpu =
    map-set (current now) entries place (record { generation = now; cpu = cpu })
    ∙ rw (eq-eqb now now refl) refl
