-- When a flow changes its processor, and when its replies change their transmit queue (kernel
-- scaling chapter, sections RFS and XPS).
use Rattle.std.specs.Prelude.{ℕ, ◌<◌, ◌≡◌, true, Some, None}
use Rattle.std.specs.Prelude.{length, take, drop, unwrap_or, slice_get}
use Rattle.history.specs.Lists.{list_at}
use Rattle.history.specs.declared.history.History.{History}
use Rattle.history.specs.declared.sent.Sent.{Sent}
use Rattle.hop_model.specs.Hop.{chosen_at}
use Rattle.steer_base.specs.Choices.{desired_cpu}
use Rattle.steer_base.specs.Entries.{entry}
use Rattle.steer_base.specs.Moves.{MovesByThree}
use Rattle.steer_base.specs.Sets.{has}
use Rattle.steer_base.specs.declared.choice.Chosen.{Chosen}
use Rattle.steer_base.specs.declared.choice.Entry.{Entry}
use Rattle.steer_model.specs.Good.Choices.{accepted_in}
use Rattle.steer_model.specs.Good.Inputs.{Input, setup_in, settings_at, since_at}
use Rattle.steer_model.specs.State.Settings.{Settings, plain_lane}
use Rattle.xps_map.specs.Maps.{picked}
use Rattle.steer_model.specs.State.Setup.{flow_number_of, packet_hash}

-- ---- the receive side

-- Choice k of a receive queue moves its class exactly by the three conditions, with these settings,
-- over the entry that the choices before it from `since` on give, and with the head that it kept.
abbrev pub MovesClass : Input → History → (queue index : ℕ) → Settings → (since class : ℕ) → Type 0
MovesClass i h q k s since class =
    let c : Chosen = chosen_at (list_at h.choices q) k in
    let before : Entry =
    entry h.start (accepted_in h.lanes) (drop since (take k (list_at h.choices q))) class in
    MovesByThree c.choice
    (desired_cpu (Some class) c.choice.want s.online (plain_lane (setup_in i) s q c.id))
    before.tail (λ lane. unwrap_or c.choice.head 0) (has s.online) before.lane

-- Each choice for a class moves it exactly by the three conditions, and each choice without a class
-- goes to the processor to which its queue sends such packets.
pub record FlowsMoveAsSaid (i : Input) (h : History) (at : ℕ → ℕ → ℕ) : Type 0 where
  pub classes : (q k class : ℕ) → k < length (list_at h.choices q)
      → (chosen_at (list_at h.choices q) k).choice.class ≡ Some class
      → MovesClass i h q k (settings_at i h (at q k)) (since_at h.commands q (at q) k) class
  pub plain : (q k : ℕ) → k < length (list_at h.choices q)
      → (chosen_at (list_at h.choices q) k).choice.class ≡ None
      → (chosen_at (list_at h.choices q) k).choice.lane
      ≡ plain_lane (setup_in i) (settings_at i h (at q k)) q (chosen_at (list_at h.choices q) k).id

-- ---- the transmit side

-- Transmit choice k of an application changes its flow's queue exactly by the three conditions,
-- with the picked queue as the desired one and all queues online: the flow has no queue, or another
-- than the picked one whose head, as the choice saw it, has reached the recorded tail.
abbrev pub ChangesFlow : Input → History → ℕ → ℕ → Settings → Sent → Type 0
ChangesFlow i h a k s r =
    let c : Chosen = chosen_at (list_at h.tx_choices a) k in
    let before : Entry =
    entry h.start (accepted_in h.tx_lanes) (take k (list_at h.tx_choices a))
    (flow_number_of (setup_in i) r.id) in
    MovesByThree c.choice (picked s.maps r.rxq r.cpu (packet_hash (setup_in i) r.id))
    before.tail (λ tx. unwrap_or c.choice.head 0) (λ tx. true) before.lane

-- Each reply changes its flow's transmit queue exactly by the three conditions.
abbrev pub FlowsChangeAsSaid : Input → History → (ℕ → ℕ → ℕ) → Type 0
FlowsChangeAsSaid i h at =
    (a k : ℕ) (r : Sent) → k < length (list_at h.tx_choices a)
    → slice_get (list_at h.sent a) k ≡ Some r
    → ChangesFlow i h a k (settings_at i h (at a k)) r
