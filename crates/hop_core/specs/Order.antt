-- Delivery in order through a hop, for each tight set of packets.
use Rattle.std.specs.Prelude.{ℕ, ◌<◌, ◌≡◌, ◌≢◌, ◌⊎◌, Bool, true, not, ◌&&◌, List, [], ◌∷◌, Some}
use Rattle.std.specs.Prelude.{length, take, drop, filter, slice_index}
use Rattle.std.specs.List.{All}
use Rattle.steer_base.specs.Orders.{InOrder, was_dropped}
use Rattle.steer_base.specs.declared.choice.Chosen.{Chosen}
use Rattle.hop_model.specs.declared.event.HopEvent.{HopEvent}
use Rattle.hop_model.specs.declared.event.HopEvent.TheVariants as event
use Rattle.hop_model.specs.Hop.{Bare, HopState, accepted_at, delivered_at, retired_at, pulled_at}
use Rattle.hop_model.specs.Hop.{out_at, arrivals_of, choices_of, placed_of, recent, in_hand}
use Rattle.hop_model.specs.Hop.{next_out}
use Rattle.hop_model.specs.Events.{happens}
use Rattle.hop_core.specs.Gathered.{Gathered}

-- whether a packet is of a set and was not dropped
abbrev pub is_kept : (ℕ → Bool) → Bare → ℕ → Bool
is_kept set b x = set x && not (was_dropped b.drops x)

-- Delivery in order: the packets of a set in the out lane are a prefix of its arrivals at the
-- producer without the dropped ones.
abbrev pub IsInOrder : (ℕ → Bool) → ℕ → ℕ → HopState → Type 0
IsInOrder set p o s = InOrder set (arrivals_of s p) s.bare.drops (out_at s.bare o)

-- Every packet of a set that is accepted and not retired is at this lane.
abbrev pub OnlyAt : (ℕ → Bool) → Bare → ℕ → Type 0
OnlyAt set b lane = (d : ℕ) → d ≢ lane → filter set (drop (retired_at b d) (accepted_at b d)) ≡ []

-- All choices of a set since the last resize have this class.
abbrev pub OneClass : (ℕ → Bool) → List Chosen → ℕ → Type 0
OneClass set cs k = All (λ c. set c.id ≡ true → c.choice.class ≡ Some k) cs

-- A set of packets of one producer and one out lane is tight in an event: it arrives at that
-- producer only and is delivered to that out lane only; and when a packet of it is put, all its
-- choices since the last resize have one class, or the packet goes to the lane of all those that
-- are not retired.
abbrev pub Tight : (ℕ → Bool) → ℕ → ℕ → HopState → HopEvent → Type 0
Tight set p o s (event.Arrive q id) = set id ≡ true → q ≡ p
Tight set p o s (event.Put q hash) =
    placed_of s q < length (choices_of s q) → set (in_hand s q).id ≡ true →
    ((k : ℕ) × OneClass set (recent s p) k) ⊎ OnlyAt set s.bare (in_hand s q).choice.lane
Tight set p o s (event.Deliver c to) =
    delivered_at s.bare c < pulled_at s.bare c → set (next_out s.bare c) ≡ true → to ≡ o
Tight set p o s (event.Take q) = Unit {0}
Tight set p o s (event.Enter a) = Unit {0}
Tight set p o s (event.Leave a) = Unit {0}
Tight set p o s (event.Weigh q class want desired online) = Unit {0}
Tight set p o s (event.Pull c) = Unit {0}
Tight set p o s (event.Retire c) = Unit {0}
Tight set p o s (event.Resize q count) = Unit {0}
Tight set p o s event.Close = Unit {0}
Tight set p o s event.Reopen = Unit {0}

-- A set is tight in each event of a list.
abbrev pub AllTight : (ℕ → Bool) → ℕ → ℕ → List HopEvent → HopState → Type 0
AllTight set p o [] s = Unit {0}
AllTight set p o (e ∷ es) s = Tight set p o s e × AllTight set p o es (happens s e).0

-- The invariant of a tight set: it arrives at its producer only, and those of it that were put and
-- not dropped are the delivered ones followed by those that wait at one lane.
pub record Ordered (set : ℕ → Bool) (p o : ℕ) (s : HopState) : Type 0 where
  pub mine : (q i : ℕ) → i < length (arrivals_of s q) → set (slice_index (arrivals_of s q) i) ≡ true
      → q ≡ p
  pub lane : ℕ
  pub gathered : Gathered set (accepted_at s.bare) (delivered_at s.bare) (retired_at s.bare)
      (out_at s.bare o)
      (filter (is_kept set s.bare) (take (placed_of s p) (arrivals_of s p))) lane
