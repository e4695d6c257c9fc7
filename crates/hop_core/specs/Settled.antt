-- Settings that every choice agrees with: the class of each packet at a producer, and the lane to
-- which the producer sends its packets without a class.
use Rattle.std.specs.Prelude.{ℕ, ◌≤◌, ◌<◌, ◌≡◌, ◌≢◌, ◌⊎◌, Bool, true, List, Option, Some, None}
use Rattle.std.specs.Prelude.{length}
use Rattle.steer_base.specs.Entries.{position}
use Rattle.steer_base.specs.declared.choice.Chosen.{Chosen}
use Rattle.hop_model.specs.declared.event.HopEvent.{HopEvent}
use Rattle.hop_model.specs.declared.event.HopEvent.TheVariants as event
use Rattle.hop_model.specs.Events.{MayAsk, happens}
use Rattle.hop_core.specs.Flows.{FlowAllowed}
use Rattle.hop_model.specs.Hop.{Fixed, HopState, accepted_at, choices_of, chosen_at, next_of}
use Rattle.hop_model.specs.Hop.{placed_of, retired_at, since_of, taken_of}
use Rattle.hop_model.specs.Shape.{fresh_hop}
use Rattle.hop_model.specs.Sound.{Sound}

-- If the packet of a choice is accepted and not retired, it is at the lane to which its producer
-- sends such packets now.
abbrev pub AtPlain : (ℕ → List ℕ) → (ℕ → ℕ) → (ℕ → ℕ) → Chosen → Type 0
AtPlain accepted retired plain c =
    (n : ℕ) → position accepted c ≡ Some n → retired c.choice.lane < n → c.choice.lane ≡ plain c.id

-- A producer is settled by settings: its choices since the last resize have the class that the
-- settings give; and a packet without a class that is not retired is at the lane to which its
-- producer sends such packets, or is in hand and goes there.
pub record Settled (choices : ℕ → List Chosen) (since placed : ℕ → ℕ) (accepted : ℕ → List ℕ)
    (retired : ℕ → ℕ) (class_of : ℕ → ℕ → Option ℕ) (plain : ℕ → ℕ → ℕ) : Type 0 where
  pub classes : (p i : ℕ) → since p ≤ i → i < length (choices p)
      → (chosen_at (choices p) i).choice.class ≡ class_of p (chosen_at (choices p) i).id
  pub stands : (p i : ℕ) → since p ≤ i → i < placed p
      → (chosen_at (choices p) i).choice.class ≡ None
      → AtPlain accepted retired (plain p) (chosen_at (choices p) i)
  pub goes : (p : ℕ) → placed p < length (choices p)
      → (chosen_at (choices p) (placed p)).choice.class ≡ None
      → (chosen_at (choices p) (placed p)).choice.lane
      ≡ plain p (chosen_at (choices p) (placed p)).id

-- A hop is settled by settings: each of its producers is.
abbrev pub SettledIn : (ℕ → ℕ → Option ℕ) → (ℕ → ℕ → ℕ) → HopState → Type 0
SettledIn class_of plain s =
    Settled (choices_of s) (since_of s) (placed_of s) (accepted_at s.bare) (retired_at s.bare)
    class_of plain

-- An enabled weigh is by the settings; the other events are free.
abbrev pub IsBySettings : (ℕ → ℕ → Option ℕ) → (ℕ → ℕ → ℕ) → HopState → HopEvent → Type 0
IsBySettings class_of plain s (event.Weigh p class want desired online) =
    length (choices_of s p) < taken_of s p
    → (class ≡ class_of p (next_of s p)) × (class ≡ None → desired ≡ plain p (next_of s p))
IsBySettings class_of plain s _ = Unit {0}

-- Other settings may replace these: no packet is between its choice and its put; the choices since
-- the last resize have the same classes; and each packet without a class goes where it went, or the
-- lane where it went is empty.
pub record MayReset (s : HopState) (class_of now_class_of : ℕ → ℕ → Option ℕ)
    (plain now_plain : ℕ → ℕ → ℕ) : Type 0 where
  pub hands : (p : ℕ) → p < length s.arrivals → length (choices_of s p) ≤ placed_of s p
  pub classes : (p i : ℕ) → p < length s.arrivals → since_of s p ≤ i → i < length (choices_of s p)
      → now_class_of p (chosen_at (choices_of s p) i).id
      ≡ class_of p (chosen_at (choices_of s p) i).id
  pub lanes : (p x : ℕ) → p < length s.arrivals
      → (now_plain p x ≡ plain p x)
      ⊎ (length (accepted_at s.bare (plain p x)) ≤ retired_at s.bare (plain p x))

-- ---- laws

-- A hop in which nothing has happened is settled by any settings.
abbrev pub FreshIsSettled : Type 0
FreshIsSettled =
    (class_of : ℕ → ℕ → Option ℕ) (plain : ℕ → ℕ → ℕ)
    (fixed : Fixed) (counts : List ℕ) (guests lanes outs : ℕ)
    → SettledIn class_of plain (fresh_hop fixed counts guests lanes outs)

-- Every event leaves a hop settled if its weighs are by the settings.
abbrev pub EachKeepsSettled : Type 0
EachKeepsSettled =
    (class_of : ℕ → ℕ → Option ℕ) (plain : ℕ → ℕ → ℕ) (s : HopState) (e : HopEvent)
    → MayAsk s e → Sound s
    → IsBySettings class_of plain s e → SettledIn class_of plain s
    → SettledIn class_of plain (happens s e).0

-- A resize leaves a hop settled by settings that give other classes at its producer only.
abbrev pub ResizeSettles : Type 0
ResizeSettles =
    (class_of now_class_of : ℕ → ℕ → Option ℕ) (plain : ℕ → ℕ → ℕ) (s : HopState) (p count : ℕ)
    → MayAsk s (event.Resize p count) → Sound s
    → ((q x : ℕ) → q ≢ p → now_class_of q x ≡ class_of q x)
    → SettledIn class_of plain s → SettledIn now_class_of plain (happens s (event.Resize p count)).0

-- Settings that may replace others leave a hop settled.
abbrev pub ResetSettles : Type 0
ResetSettles =
    (class_of now_class_of : ℕ → ℕ → Option ℕ) (plain now_plain : ℕ → ℕ → ℕ) (s : HopState)
    → Sound s
    → MayReset s class_of now_class_of plain now_plain → SettledIn class_of plain s
    → SettledIn now_class_of now_plain s

-- The settings give all packets that pass a test one class at the producer, and one lane without a
-- class.
abbrev pub AreAlike : (ℕ → ℕ → Option ℕ) → (ℕ → ℕ → ℕ) → (ℕ → Bool) → ℕ → Type 0
AreAlike class_of plain test p =
    (x y : ℕ) → test x ≡ true → test y ≡ true
    → (class_of p x ≡ class_of p y) × (plain p x ≡ plain p y)

-- In a settled hop each put is allowed for a flow whose packets the settings treat alike.
abbrev pub SettledAllowsPuts : Type 0
SettledAllowsPuts =
    (class_of : ℕ → ℕ → Option ℕ) (plain : ℕ → ℕ → ℕ) (test : ℕ → Bool) (p o q : ℕ)
    (hash : Option ℕ) (s : HopState)
    → AreAlike class_of plain test p → Sound s → SettledIn class_of plain s
    → FlowAllowed test p o s (event.Put q hash)
