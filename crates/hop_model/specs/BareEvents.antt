-- What the events of a hop do to its bare part, the part without producers, and to each of its
-- lanes.
use Rattle.std.specs.Prelude.{ℕ, ◌+◌, ◌-◌, ◌≤◌, ◌<◌, ◌≡◌, ◌⊎◌, true, false, ◌==◌, List, Option}
use Rattle.std.specs.Prelude.{length, if◌then◌else◌}
use Rattle.steer_base.specs.Lanes.{LaneLists}
use Rattle.backlog.specs.Puts.{after_put, after_take}
use Rattle.backlog.specs.Rising.{AreRising}
use Rattle.hop_model.specs.declared.event.HopEvent.{HopEvent}
use Rattle.hop_model.specs.declared.event.HopEvent.TheVariants as event
use Rattle.hop_model.specs.Events.{MayAsk, happens}
use Rattle.hop_model.specs.Hop.{Bare, Fixed, HopState, accepted_at, deliver_at, delivered_at}
use Rattle.hop_model.specs.Hop.{in_hand, lane_of, pull_at, pulled_at, put_at, retire_at, retired_at}
use Rattle.hop_model.specs.Hop.{with_closed, with_inside}
use Rattle.hop_model.specs.Shape.{fresh_hop}
use Rattle.hop_model.specs.Sound.{Sound}

-- An event of the gate or of a lane, or nothing.
pub data BareEvent : Type 0 where
  nothing : BareEvent
  enters : BareEvent
  leaves : BareEvent
  closes : BareEvent
  opens : BareEvent
  offers : ℕ → ℕ → Option ℕ → BareEvent  -- to a lane, a packet with this hash
  pulls : ℕ → BareEvent  -- a lane
  delivers : ℕ → ℕ → BareEvent  -- a lane, to an out lane
  retires : ℕ → BareEvent  -- a lane

-- what an event of the bare part does to it
abbrev pub bare_after : Fixed → Bare → BareEvent → Bare
bare_after f b nothing = b
bare_after f b enters = with_inside b (b.inside + 1)
bare_after f b leaves = with_inside b (b.inside - 1)
bare_after f b closes = with_closed b true
bare_after f b opens = with_closed b false
bare_after f b (offers c id hash) = put_at f b c id hash
bare_after f b (pulls c) = pull_at b c
bare_after f b (delivers c o) = deliver_at b c o
bare_after f b (retires c) = retire_at b c

-- When an event of the bare part may happen: actors enter through an open gate, which closes only
-- with nobody inside; a lane with an empty hand pulls a waiting packet, delivers the one in its
-- hand, and then retires it.
abbrev pub MayBe : Bare → BareEvent → Type 0
MayBe b nothing = Unit {0}
MayBe b enters = b.closed ≡ false
MayBe b leaves = 0 < b.inside
MayBe b closes = b.inside ≡ 0
MayBe b opens = b.closed ≡ true
MayBe b (offers c id hash) = c < length b.accepted
MayBe b (pulls c) =
    (c < length b.accepted) × (pulled_at b c ≤ retired_at b c)
    × (pulled_at b c < length (accepted_at b c))
MayBe b (delivers c o) =
    (c < length b.accepted) × (o < length b.outs) × (delivered_at b c < pulled_at b c)
MayBe b (retires c) = (c < length b.accepted) × (retired_at b c < delivered_at b c)

-- the event of the bare part that an event of the hop is, unless it is idle
abbrev pub bare_event : HopState → HopEvent → BareEvent
bare_event s (event.Arrive p id) = nothing
bare_event s (event.Take p) = nothing
bare_event s (event.Enter a) = enters
bare_event s (event.Leave a) = leaves
bare_event s (event.Weigh p class want desired online) = nothing
bare_event s (event.Put p hash) = offers (in_hand s p).choice.lane (in_hand s p).id hash
bare_event s (event.Pull c) = pulls c
bare_event s (event.Deliver c o) = delivers c o
bare_event s (event.Retire c) = retires c
bare_event s (event.Resize p count) = nothing
bare_event s event.Close = closes
bare_event s event.Reopen = opens

-- the lane with this number after an event of the bare part, by the definitions of the lane's own
-- crate
abbrev pub lane_after : BareEvent → ℕ → LaneLists → LaneLists
lane_after (offers c id hash) d l = if d == c then after_put l id hash else l
lane_after (pulls c) d l = if d == c then after_take l else l
lane_after _ d l = l

-- Each list of a bare part has one member for each lane.
pub record HasLanes (b : Bare) : Type 0 where
  pub offers_long : length b.offers ≡ length b.accepted
  pub drops_long : length b.drops ≡ length b.accepted
  pub pulled_long : length b.pulled ≡ length b.accepted

-- Along the drops of each lane neither of their counts falls, and none is over the lane's own.
abbrev pub LaneDropsRise : HopState → Type 0
LaneDropsRise s = (c : ℕ) → AreRising (lane_of s.fixed s.bare c)

-- ---- laws

-- An event of a hop is one event of its bare part, if that may happen, or leaves the whole state.
abbrev pub EachIsBare : Type 0
EachIsBare =
    (s : HopState) (e : HopEvent) → MayAsk s e → Sound s
    → (MayBe s.bare (bare_event s e)
    × ((happens s e).0.bare ≡ bare_after s.fixed s.bare (bare_event s e)))
    ⊎ ((happens s e).0 ≡ s)

-- After an event of the bare part each lane is as before or what its own put or take makes of it.
abbrev pub EachLaneIsItsOwn : Type 0
EachLaneIsItsOwn =
    (f : Fixed) (b : Bare) (e : BareEvent) → HasLanes b → MayBe b e → (d : ℕ)
    → lane_of f (bare_after f b e) d ≡ lane_after e d (lane_of f b d)

-- Each list of a sound hop has one member for each lane.
abbrev pub SoundHasLanes : Type 0
SoundHasLanes = (s : HopState) → Sound s → HasLanes s.bare

-- An event of the bare part leaves each list with one member for each lane.
abbrev pub BareKeepsLanes : Type 0
BareKeepsLanes = (f : Fixed) (b : Bare) (e : BareEvent) → HasLanes b → HasLanes (bare_after f b e)

-- The counts of drops rise in a hop in which nothing has happened.
abbrev pub FreshDropsRise : Type 0
FreshDropsRise =
    (fixed : Fixed) (counts : List ℕ) (guests lanes outs : ℕ)
    → LaneDropsRise (fresh_hop fixed counts guests lanes outs)

-- Every event of a hop leaves the counts of drops rising.
abbrev pub EachKeepsDropsRising : Type 0
EachKeepsDropsRising =
    (s : HopState) (e : HopEvent) → MayAsk s e → Sound s → LaneDropsRise s → LaneDropsRise
    (happens s e).0
