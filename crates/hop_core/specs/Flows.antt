-- Delivery in order of a flow of one producer, as a machine above keeps it from event to event.
use Rattle.std.specs.Prelude.{ℕ, ◌≤◌, ◌<◌, ◌≡◌, ◌⊎◌, Bool, true, ◌&&◌, ◌==◌, length, slice_index}
use Rattle.std.specs.List.{list_any}
use Rattle.hop_model.specs.declared.event.HopEvent.{HopEvent}
use Rattle.hop_model.specs.declared.event.HopEvent.TheVariants as event
use Rattle.hop_model.specs.Hop.{HopState, accepted_at, pulled_at, delivered_at, retired_at}
use Rattle.hop_model.specs.Hop.{arrivals_of, choices_of, chosen_at, placed_of, recent, in_hand}
use Rattle.hop_model.specs.Hop.{next_out}
use Rattle.hop_core.specs.Order.{OneClass, Ordered}

-- The packets of a set arrive at this producer only.
abbrev pub ArrivesAt : (ℕ → Bool) → ℕ → HopState → Type 0
ArrivesAt set p s =
    (q i : ℕ) → i < length (arrivals_of s q) → set (slice_index (arrivals_of s q) i) ≡ true → q ≡ p

-- Each set of packets that pass the test of a flow and arrived at one producer only is kept in
-- order.
abbrev pub FlowOrdered : (ℕ → Bool) → ℕ → ℕ → HopState → Type 0
FlowOrdered test p o s =
    (set : ℕ → Bool) → ((x : ℕ) → set x ≡ true → test x ≡ true) → ArrivesAt set p s
    → Ordered set p o s

-- Each packet of a producer that passes a flow's test and is accepted and not retired is at this
-- lane.
abbrev pub FlowAt : (ℕ → Bool) → ℕ → ℕ → HopState → Type 0
FlowAt test p lane s =
    (d j i : ℕ) → retired_at s.bare d ≤ j → j < length (accepted_at s.bare d) → i < placed_of s p
    → (chosen_at (choices_of s p) i).id ≡ slice_index (accepted_at s.bare d) j
    → test (slice_index (accepted_at s.bare d) j) ≡ true → d ≡ lane

-- The premise on an event for the order of a flow: its packets are delivered to its out lane; and
-- when its producer puts one, all choices of the flow since the last resize have one class, or the
-- packet goes to the lane of all those that are not retired.
abbrev pub FlowAllowed : (ℕ → Bool) → ℕ → ℕ → HopState → HopEvent → Type 0
FlowAllowed test p o s (event.Put q hash) =
    q ≡ p → placed_of s p < length (choices_of s p) → test (in_hand s p).id ≡ true
    → ((k : ℕ) × OneClass test (recent s p) k) ⊎ FlowAt test p (in_hand s p).choice.lane s
FlowAllowed test p o s (event.Deliver c to) =
    delivered_at s.bare c < pulled_at s.bare c → test (next_out s.bare c) ≡ true → to ≡ o
FlowAllowed test p o s (event.Arrive q id) = Unit {0}
FlowAllowed test p o s (event.Take q) = Unit {0}
FlowAllowed test p o s (event.Enter a) = Unit {0}
FlowAllowed test p o s (event.Leave a) = Unit {0}
FlowAllowed test p o s (event.Weigh q class want desired online) = Unit {0}
FlowAllowed test p o s (event.Pull c) = Unit {0}
FlowAllowed test p o s (event.Retire c) = Unit {0}
FlowAllowed test p o s (event.Resize q count) = Unit {0}
FlowAllowed test p o s event.Close = Unit {0}
FlowAllowed test p o s event.Reopen = Unit {0}

-- the packets of a flow that arrived at a producer
abbrev pub arrived_by : (ℕ → Bool) → ℕ → HopState → ℕ → Bool
arrived_by test p s x = list_any (λ y. y == x) (arrivals_of s p) && test x
