-- An event leaves what the other producers and the other lanes have.
use Rattle.std.specs.Prelude.{ℕ, ◌≡◌, ◌≢◌, Option, Some, None, slice_index}
use Rattle.hop_model.specs.declared.event.HopEvent.{HopEvent}
use Rattle.hop_model.specs.declared.event.HopEvent.TheVariants as event
use Rattle.hop_model.specs.Events.{happens}
use Rattle.hop_model.specs.Hop.{HopState, accepted_at, arrivals_of, choices_of, delivered_at}
use Rattle.hop_model.specs.Hop.{drops_at}
use Rattle.hop_model.specs.Hop.{in_hand, offers_at, placed_of, pulled_at, retired_at, since_of}
use Rattle.hop_model.specs.Hop.{taken_of}

-- the producer whose lists an event may change, if any
abbrev pub producer_of : HopEvent → Option ℕ
producer_of (event.Arrive p id) = Some p
producer_of (event.Take p) = Some p
producer_of (event.Weigh p class want desired online) = Some p
producer_of (event.Put p hash) = Some p
producer_of (event.Resize p count) = Some p
producer_of _ = None

-- the lane whose lists an event may change, if any
abbrev pub changed_lane : HopState → HopEvent → Option ℕ
changed_lane s (event.Put p hash) = Some (in_hand s p).choice.lane
changed_lane s (event.Pull c) = Some c
changed_lane s (event.Deliver c o) = Some c
changed_lane s (event.Retire c) = Some c
changed_lane s _ = None

-- A producer has the same in two states.
pub record SameProducer (q : ℕ) (s t : HopState) : Type 0 where
  pub arrivals : arrivals_of t q ≡ arrivals_of s q
  pub taken : taken_of t q ≡ taken_of s q
  pub choices : choices_of t q ≡ choices_of s q
  pub placed : placed_of t q ≡ placed_of s q
  pub since : since_of t q ≡ since_of s q
  pub count : slice_index t.counts q ≡ slice_index s.counts q

-- A lane has the same in two states.
pub record SameLane (d : ℕ) (s t : HopState) : Type 0 where
  pub accepted : accepted_at t.bare d ≡ accepted_at s.bare d
  pub offers : offers_at t.bare d ≡ offers_at s.bare d
  pub drops : drops_at t.bare d ≡ drops_at s.bare d
  pub pulled : pulled_at t.bare d ≡ pulled_at s.bare d
  pub delivered : delivered_at t.bare d ≡ delivered_at s.bare d
  pub retired : retired_at t.bare d ≡ retired_at s.bare d

-- Each event leaves what every other producer has.
abbrev pub EachLeavesProducers : Type 0
EachLeavesProducers =
    (s : HopState) (e : HopEvent) (q : ℕ) → producer_of e ≢ Some q
    → SameProducer q s (happens s e).0

-- Each event leaves what every other lane has.
abbrev pub EachLeavesLanes : Type 0
EachLeavesLanes =
    (s : HopState) (e : HopEvent) (d : ℕ) → changed_lane s e ≢ Some d → SameLane d s (happens s e).0
