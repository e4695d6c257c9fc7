-- One arrival, and what the wire has given to its rings.
use Rattle.std.specs.Prelude.{◌≡◌, ℕ, ◌+◌, ◌<◌, ◌≤◌, length, slice_index_or}
use Rattle.rtrb.specs.Ring.{SameProducer, known_free, sent}
use Rattle.steer_base.specs.Journals.{grown}
use Rattle.history.specs.Lists.{arrivals_at}
use Rattle.history.specs.declared.arrival.Arrival.{Arrival}
use Rattle.steer_model.specs.State.Setup.{Setup, packet_hash}
use Rattle.workers.specs.declared.wire.Wire.{Wire}
use Rattle.run_words.specs.HintViews.{HintView, after_step}
use Rattle.run_crew.specs.Routes.{Routes, announcement}

-- A packet arrived: it came its way, its queue was announced, and the arrival was noted.
pub record Arrives (given : Setup) (filters id : ℕ) (before after : Wire) (old new : HintView)
    : Type 0 where
  pub arrival : Arrival
  pub mid : HintView
  pub same_id : arrival.id ≡ id
  pub routes : Routes given filters before.reta (packet_hash given id) arrival old mid
  pub announces : new ≡ after_step (announcement arrival) mid
  pub noted : after.arrivals ≡ grown before.arrivals arrival
  pub reta : after.reta ≡ before.reta

-- ---- rings

-- There is a ring for each receive queue.
abbrev pub HasRings : Setup → Wire → Type 0
HasRings given wire = length wire.rings.items ≡ length given.homes

-- Each ring was given just the packets that arrived at its queue, in order, and has room for all
-- that are to come.
pub record ArePushed (packets : ℕ) (wire : Wire) : Type 0 where
  pub sent_are : (q : ℕ) (d : _) → q < length wire.rings.items
      → sent (slice_index_or wire.rings.items q d) ≡ arrivals_at wire.arrivals.items q
  pub room : (q : ℕ) (d : _) → q < length wire.rings.items
      → packets ≤ known_free (slice_index_or wire.rings.items q d) + length wire.arrivals.items

-- The rings are the same ones.
pub record KeepsRings (before after : Wire) : Type 0 where
  pub count : length after.rings.items ≡ length before.rings.items
  pub same : (q : ℕ) (d : _) → q < length before.rings.items
      → SameProducer (slice_index_or before.rings.items q d) (slice_index_or after.rings.items q d)
