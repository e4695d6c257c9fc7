-- Nothing is lost: each packet that was put is where its put left it, and each that was delivered
-- is in an out lane.
use Rattle.std.specs.Prelude.{ℕ, ◌<◌, ◌≡◌, ◌≢◌, ◌⊎◌, List, length, slice_index}
use Rattle.std.specs.List.{Contains}
use Rattle.steer_base.specs.declared.choice.Chosen.{Chosen}
use Rattle.hop_model.specs.declared.event.HopEvent.{HopEvent}
use Rattle.hop_model.specs.declared.shape.HopShape.{HopShape}
use Rattle.hop_model.specs.Events.{AllMayAsk, MayAsk, happens, run}
use Rattle.hop_model.specs.Hop.{Fixed, HopState, accepted_at, chosen_at, choices_of, delivered_at}
use Rattle.hop_model.specs.Hop.{fell_at, out_at, placed_of}
use Rattle.hop_model.specs.Shape.{IsShape, fresh_hop, new_hop}
use Rattle.hop_model.specs.Sound.{Sound}

-- The packet of a choice was accepted or dropped by the lane of that choice.
abbrev pub WasLeft : (ℕ → List ℕ) → (ℕ → List ℕ) → Chosen → Type 0
WasLeft accepted fell c =
    Contains (accepted c.choice.lane) c.id ⊎ Contains (fell c.choice.lane) c.id

-- A packet is in one of the out lanes.
abbrev pub IsInOutLane : (ℕ → List ℕ) → ℕ → Type 0
IsInOutLane out x = (o : ℕ) × Contains (out o) x

-- Each packet that was put was accepted or dropped by the lane of its choice, and each that was
-- delivered is in an out lane.
pub record NothingLost (s : HopState) : Type 0 where
  pub put : (p i : ℕ) → i < placed_of s p
      → WasLeft (accepted_at s.bare) (fell_at s.bare) (chosen_at (choices_of s p) i)
  pub delivered : (c i : ℕ) → i < delivered_at s.bare c
      → IsInOutLane (out_at s.bare) (slice_index (accepted_at s.bare c) i)

-- A packet is in one list, at one place, and in no other of these lists.
pub record IsOnceIn (lists others : ℕ → List ℕ) (lane x : ℕ) : Type 0 where
  pub at : ℕ
  pub within : at < length (lists lane)
  pub is : slice_index (lists lane) at ≡ x
  pub once : (d k : ℕ) → k < length (lists d) → slice_index (lists d) k ≡ x → (d ≡ lane) × (k ≡ at)
  pub not_other : (d k : ℕ) → k < length (others d) → slice_index (others d) k ≢ x

-- The packet of a choice is at exactly one place of all accepted and dropped lists, at the lane of
-- that choice.
abbrev pub IsLeftOnce : HopState → Chosen → Type 0
IsLeftOnce s c =
    IsOnceIn (accepted_at s.bare) (fell_at s.bare) c.choice.lane c.id
    ⊎ IsOnceIn (fell_at s.bare) (accepted_at s.bare) c.choice.lane c.id

-- ---- laws

-- Nothing is lost in a hop in which nothing has happened.
abbrev pub FreshLosesNothing : Type 0
FreshLosesNothing =
    (fixed : Fixed) (counts : List ℕ) (guests lanes outs : ℕ)
    → NothingLost (fresh_hop fixed counts guests lanes outs)

-- If nothing is lost in a sound hop, nothing is lost after an event.
abbrev pub EachLosesNothing : Type 0
EachLosesNothing =
    (s : HopState) (e : HopEvent) → MayAsk s e → Sound s → NothingLost s
    → NothingLost (happens s e).0

-- From a new hop on, after any events, nothing is lost.
abbrev pub LosesNothing : Type 0
LosesNothing =
    (shape : HopShape) (es : List HopEvent) → IsShape shape → AllMayAsk es (new_hop shape)
    → NothingLost (run es (new_hop shape))

-- If nothing is lost, each packet that was put is at exactly one place.
abbrev pub EachPutIsOnce : Type 0
EachPutIsOnce =
    (s : HopState) → Sound s → NothingLost s → (p i : ℕ) → i < placed_of s p
    → IsLeftOnce s (chosen_at (choices_of s p) i)
