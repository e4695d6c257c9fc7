-- What holds of a hop after any events.
use Rattle.std.specs.Prelude.{ℕ, ◌+◌, ◌≤◌, ◌<◌, ◌≡◌, ◌≢◌, ◌^◌, true, List, Some, length, drop}
use Rattle.std.specs.Prelude.{count_by, slice_index}
use Rattle.steer_base.specs.Entries.{of_class, position}
use Rattle.steer_base.specs.declared.choice.Chosen.{Chosen}
use Rattle.hop_model.specs.declared.shape.TheConstants.{MAX_HOP_ROOM}
use Rattle.hop_model.specs.Hop.{HopState, accepted_at, fell_at, out_at, pulled_at, delivered_at}
use Rattle.hop_model.specs.Hop.{retired_at, arrivals_of, choices_of, chosen_at, taken_of, placed_of}
use Rattle.hop_model.specs.Hop.{since_of, inside_of}
use Rattle.hop_model.specs.Standing.{Standing}

-- The choices of a producer are for its first arrivals, the puts for its first choices, and at most
-- one packet is in hand.
pub record Hands (arrivals : ℕ → List ℕ) (taken : ℕ → ℕ) (choices : ℕ → List Chosen)
    (placed since : ℕ → ℕ) : Type 0 where
  pub of_arrivals : (p i : ℕ) → i < length (choices p)
      → (chosen_at (choices p) i).id ≡ slice_index (arrivals p) i
  pub arrived : (p : ℕ) → taken p ≤ length (arrivals p)
  pub chosen : (p : ℕ) → length (choices p) ≤ taken p
  pub put : (p : ℕ) → placed p ≤ length (choices p)
  pub one : (p : ℕ) → taken p ≤ placed p + 1
  pub past : (p : ℕ) → since p ≤ placed p

-- No packet is twice in these lists.
abbrev pub Distinct : (ℕ → List ℕ) → Type 0
Distinct lists =
    (p q i j : ℕ) → i < length (lists p) → j < length (lists q)
    → slice_index (lists p) i ≡ slice_index (lists q) j → (p ≡ q) × (i ≡ j)

-- A lane's hand has at most one packet, which was pulled, then delivered, then retired.
pub record Counts (accepted : ℕ → List ℕ) (pulled delivered retired : ℕ → ℕ) : Type 0 where
  pub retired_first : (c : ℕ) → retired c ≤ delivered c
  pub delivered_first : (c : ℕ) → delivered c ≤ pulled c
  pub pulled_first : (c : ℕ) → pulled c ≤ length (accepted c)
  pub one : (c : ℕ) → pulled c ≤ retired c + 1

-- The packet was put to the lane, by a choice of it.
abbrev pub WasPut : (ℕ → List Chosen) → (ℕ → ℕ) → ℕ → ℕ → Type 0
WasPut choices placed c x =
    (p : ℕ) × (i : ℕ) × (i < placed p) × ((chosen_at (choices p) i).id ≡ x)
    × ((chosen_at (choices p) i).choice.lane ≡ c)

-- Each packet in the lists of the lanes was put there.
abbrev pub Puts : (ℕ → List ℕ) → (ℕ → List Chosen) → (ℕ → ℕ) → Type 0
Puts lists choices placed =
    (c j : ℕ) → j < length (lists c) → WasPut choices placed c (slice_index (lists c) j)

-- No packet is twice in the lists, none is both accepted and dropped, and what is in an out lane
-- was accepted and delivered.
pub record Places (accepted fell : ℕ → List ℕ) (delivered : ℕ → ℕ) (out : ℕ → List ℕ) : Type 0 where
  pub once : Distinct accepted
  pub fell_once : Distinct fell
  pub never_both : (c d i j : ℕ) → i < length (accepted c) → j < length (fell d)
      → slice_index (accepted c) i ≢ slice_index (fell d) j
  pub out_once : Distinct out
  pub from : (o j : ℕ) → j < length (out o)
      → (c : ℕ) × (i : ℕ) × (i < delivered c) × (slice_index (accepted c) i ≡ slice_index (out o) j)

-- The packets of each class of each producer are at its current lane, up to its recorded count.
abbrev pub Stands : (ℕ → List ℕ) → (ℕ → ℕ) → (ℕ → List Chosen) → (ℕ → ℕ) → Type 0
Stands accepted retired choices since =
    (p k : ℕ) → Standing accepted retired (of_class k (drop (since p) (choices p)))

-- What was accepted before the last resize is retired.
abbrev pub Past : (ℕ → List ℕ) → (ℕ → ℕ) → (ℕ → List Chosen) → (ℕ → ℕ) → Type 0
Past accepted retired choices since =
    (p i n : ℕ) → i < since p → position accepted (chosen_at (choices p) i) ≡ Some n
    → n ≤ retired (chosen_at (choices p) i).choice.lane

-- Each list has one member for each producer, or for each lane.
pub record Wide (s : HopState) : Type 0 where
  pub counts : length s.counts ≡ length s.arrivals
  pub taken : length s.taken ≡ length s.arrivals
  pub choices : length s.choices ≡ length s.arrivals
  pub placed : length s.placed ≡ length s.arrivals
  pub since : length s.since ≡ length s.arrivals
  pub visits : length s.arrivals ≤ length s.visits
  pub offers : length s.bare.offers ≡ length s.bare.accepted
  pub drops : length s.bare.drops ≡ length s.bare.accepted
  pub pulled : length s.bare.pulled ≡ length s.bare.accepted
  pub delivered : length s.bare.delivered ≡ length s.bare.accepted
  pub retired : length s.bare.retired ≡ length s.bare.accepted

-- The gate: who is inside, that nobody is inside a closed gate, and that an actor that has weighed
-- and not put is inside.
pub record Gate (s : HopState) : Type 0 where
  pub inside : s.bare.inside ≡ count_by (λ b. b) s.visits
  pub shut : s.bare.closed ≡ true → s.bare.inside ≡ 0
  pub weighed : (p : ℕ) → placed_of s p < length (choices_of s p) → inside_of s p ≡ true

-- Packets are numbers below the room, which is at most MAX_HOP_ROOM, and the counters have 32 bits.
pub record Small (s : HopState) : Type 0 where
  pub below : (p i : ℕ) → i < length (arrivals_of s p)
      → slice_index (arrivals_of s p) i < s.fixed.room
  pub room : s.fixed.room ≤ MAX_HOP_ROOM
  pub start : s.fixed.start < 2 ^ 32

-- The invariant of a hop: what holds after any events.
pub record Sound (s : HopState) : Type 0 where
  pub small : Small s
  pub wide : Wide s
  pub hands : Hands (arrivals_of s) (taken_of s) (choices_of s) (placed_of s) (since_of s)
  pub once : Distinct (arrivals_of s)
  pub counts : Counts (accepted_at s.bare) (pulled_at s.bare) (delivered_at s.bare)
      (retired_at s.bare)
  pub puts : Puts (accepted_at s.bare) (choices_of s) (placed_of s)
  pub falls : Puts (fell_at s.bare) (choices_of s) (placed_of s)
  pub places : Places (accepted_at s.bare) (fell_at s.bare) (delivered_at s.bare) (out_at s.bare)
  pub stands : Stands (accepted_at s.bare) (retired_at s.bare) (choices_of s) (since_of s)
  pub past : Past (accepted_at s.bare) (retired_at s.bare) (choices_of s) (since_of s)
  pub lanes : (p i : ℕ) → i < length (choices_of s p)
      → (chosen_at (choices_of s p) i).choice.lane < length s.bare.accepted
  pub gate : Gate s
