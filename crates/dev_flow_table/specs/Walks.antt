-- The walk of a class from lane to lane, over the choices of one producer since its table was
-- cleared.
use Rattle.std.specs.Prelude.{ℕ, zero, suc, ◌≡◌, ◌≢◌, ◌≤◌, ◌<◌, ◌^◌, ◌⊎◌, ◌==◌, Bool, false, List}
use Rattle.std.specs.Prelude.{[], ◌∷◌, Some}
use Rattle.std.specs.Prelude.{length, slice_index_or, take, if◌then◌else◌}
use Rattle.steer_base.specs.Choices.{by_entry}
use Rattle.steer_base.specs.Counters.{number}
use Rattle.steer_base.specs.Entries.{entry, position}
use Rattle.steer_base.specs.declared.choice.Chosen.{Chosen}
use Rattle.steer_base.specs.declared.limits.TheConstants.{MAX_PACKETS}

-- A choice for a class by the rule, after these choices, whose packet was put when so many packets
-- of each lane were retired: over the entry of the class, with a head that its lane had shown by
-- then; and of the packets of earlier choices each that an offline lane accepted was retired by
-- then.
pub record IsRuled (start : ℕ) (accepted : ℕ → List ℕ) (retired : ℕ → ℕ) (before : List Chosen)
    (class : ℕ) (c : Chosen) : Type 0 where
  pub desired : ℕ
  pub online : ℕ → Bool
  pub head : ℕ
  pub rule : c.choice
      ≡ by_entry class c.choice.want desired (entry start accepted before class).tail (λ _. head)
      online (entry start accepted before class).lane
  pub seen : (lane : ℕ) → (entry start accepted before class).lane ≡ Some lane
      → c.choice.head ≡ Some head
      → (n : ℕ) × (head ≡ number start n) × (n ≤ retired lane)
  pub drained : (i n : ℕ) (d : Chosen) → i < length before
      → online (slice_index_or before i d).choice.lane ≡ false
      → position accepted (slice_index_or before i d) ≡ Some n
      → n ≤ retired (slice_index_or before i d).choice.lane

-- The choices of a producer: each with a class is by the rule, at the retired counts of its put;
-- these never fall; and of two accepted packets of one lane the one of the earlier choice stands
-- before the other.
pub record IsWalk (start : ℕ) (accepted : ℕ → List ℕ) (retired : ℕ → ℕ → ℕ)
    (cs : List Chosen) : Type 0 where
  pub start_small : start < 2 ^ 32
  pub few : (lane : ℕ) → length (accepted lane) ≤ MAX_PACKETS
  pub few_retired : (i lane : ℕ) → retired i lane ≤ MAX_PACKETS
  pub rising : (i j lane : ℕ) → i ≤ j → retired i lane ≤ retired j lane
  pub in_order : (i j n m : ℕ) (d : Chosen) → i < j → j < length cs
      → (slice_index_or cs i d).choice.lane ≡ (slice_index_or cs j d).choice.lane
      → position accepted (slice_index_or cs i d) ≡ Some n
      → position accepted (slice_index_or cs j d) ≡ Some m → n < m
  pub ruled : (i class : ℕ) (d : Chosen) → i < length cs
      → (slice_index_or cs i d).choice.class ≡ Some class
      → IsRuled start accepted (retired i) (take i cs) class (slice_index_or cs i d)

-- Of two choices for one class, the earlier packet, where it was accepted, was retired before the
-- later one was put, or the two have one lane.
abbrev pub WalkKeepsOrder : Type 0
WalkKeepsOrder =
    (start : ℕ) (accepted : ℕ → List ℕ) (retired : ℕ → ℕ → ℕ) (cs : List Chosen)
    → IsWalk start accepted retired cs
    → (i j class n : ℕ) (d : Chosen) → i < j → j < length cs
    → (slice_index_or cs i d).choice.class ≡ Some class
    → (slice_index_or cs j d).choice.class ≡ Some class
    → position accepted (slice_index_or cs i d) ≡ Some n
    → (n ≤ retired j (slice_index_or cs i d).choice.lane)
    ⊎ ((slice_index_or cs i d).choice.lane ≡ (slice_index_or cs j d).choice.lane)

-- There are choices by the rule of which two for one class have two lanes.
abbrev pub WalksMove : Type 0
WalksMove =
    (accepted : ℕ → List ℕ) × (retired : ℕ → ℕ → ℕ) × (first : Chosen) × (second : Chosen)
    × IsWalk 0 accepted retired (first ∷ second ∷ []) × (first.choice.class ≡ Some 0)
    × (second.choice.class ≡ Some 0)
    × (first.choice.lane ≢ second.choice.lane)

-- ---- where a table was cleared

-- the first choice since the last change of a table's size, if choice i was made at size i
unfoldable pub since_resize : (ℕ → ℕ) → ℕ → ℕ
since_resize size zero = 0
since_resize size (suc i) = if size i == size (suc i) then since_resize size i else suc i

-- Since the last change a table had one size, and after each earlier choice its size changed.
abbrev pub SinceIsLastChange : Type 0
SinceIsLastChange =
    (size : ℕ → ℕ) (j : ℕ)
    → (since_resize size j ≤ j)
    × ((k : ℕ) → since_resize size j ≤ k → k ≤ j → size k ≡ size j)
    × ((i : ℕ) → i < since_resize size j → (k : ℕ) × (i ≤ k) × (k < j) × (size k ≢ size (suc k)))
