-- The packets of each class in their order, as a chain from each packet to the next one.
use Rattle.std.specs.Prelude.{ℕ, ◌≡◌, ◌<◌, ◌++◌, Bool, List, [], ◌∷◌, Option, Some, None, length}
use Rattle.std.specs.Prelude.{filter, slice_index_or}
use Rattle.steer_base.specs.Entries.{is_class}
use Rattle.rule_check.specs.declared.chains.Chains.{Chains}

-- whether a packet is of a class, by a list of the classes of all packets
abbrev pub is_in_class : List (Option ℕ) → ℕ → ℕ → Bool
is_in_class classes class x = is_class class (slice_index_or classes x None)

-- the packets of a class, in their order
abbrev pub in_class : List (Option ℕ) → ℕ → List ℕ → List ℕ
in_class classes class xs = filter (is_in_class classes class) xs

-- A chain that begins at a packet, or nowhere, goes through these packets.
abbrev pub IsChain : List (Option ℕ) → Option ℕ → List ℕ → Type 0
IsChain next from [] = from ≡ None
IsChain next from (x ∷ xs) = (from ≡ Some x) × IsChain next (slice_index_or next x None) xs

-- Each class has the chain of its packets, in their order.
abbrev pub AreChained : List (Option ℕ) → Chains → List ℕ → Type 0
AreChained classes chains xs =
    (class : ℕ) → class < length chains.first.items
    → IsChain chains.next.items (slice_index_or chains.first.items class None)
    (in_class classes class xs)

-- Of the packets `came` those of `gone` have left, class by class in their order, and the chain of
-- each class has the others.
abbrev pub AreLeft : List (Option ℕ) → Chains → List ℕ → List ℕ → Type 0
AreLeft classes chains came gone =
    (class : ℕ) → class < length chains.first.items
    → (rest : List ℕ)
    × IsChain chains.next.items (slice_index_or chains.first.items class None) rest
    × (in_class classes class gone ++ rest ≡ in_class classes class came)
