-- A good history's choices on the receive side, the wants that they keep, and the heads that the
-- choices of both sides saw (kernel scaling chapter, sections RPS and RFS).
use Rattle.std.specs.Prelude.{ℕ, ◌≤◌, ◌<◌, ◌≡◌, List, Option, Some, None, length, take, drop, map}
use Rattle.std.specs.Prelude.{slice_get, slice_index, unwrap_or}
use Rattle.steer_base.specs.Choices.{class_of, desired_cpu, migrate}
use Rattle.steer_base.specs.Counters.{distance}
use Rattle.steer_base.specs.Entries.{current_lane, entry, of_class}
use Rattle.steer_base.specs.Sets.{has}
use Rattle.steer_base.specs.declared.choice.Chosen.{Chosen}
use Rattle.hop_model.specs.Hop.{chosen_at}
use Rattle.history.specs.Lists.{arrivals_at, lane_at, list_at}
use Rattle.history.specs.declared.history.History.{History}
use Rattle.history.specs.declared.lane_list.LaneList.{LaneList}
use Rattle.history.specs.declared.sock_write.SockWrite.{SockWrite}
use Rattle.steer_model.specs.Good.Inputs.{Input, Prefixes, settings_at, setup_in, since_at}
use Rattle.steer_model.specs.State.Settings.{Settings, class_at, plain_lane}
use Rattle.steer_model.specs.State.Setup.{Setup, packet_hash}

-- ---- clause 3

-- what a lane of a history accepted
abbrev pub accepted_in : List LaneList → ℕ → List ℕ
accepted_in lanes c = (lane_at lanes c).accepted

-- Choice k of queue q is the migration rule over the entry that the choices before it give from
-- `since` on, with these settings, its own want and its own head.
abbrev pub IsByRule : Input → History → (queue index : ℕ) → Settings → (since : ℕ) → Type 0
IsByRule i h q k s since =
    let p : Setup = setup_in i in
    let c : Chosen = chosen_at (list_at h.choices q) k in
    let class : Option ℕ = class_at p s q c.id in
    c.choice
    ≡ migrate class c.choice.want (desired_cpu class c.choice.want s.online (plain_lane p s q c.id))
    (entry h.start (accepted_in h.lanes) (drop since (take k (list_at h.choices q))))
    (λ lane. unwrap_or c.choice.head 0) (has s.online)

-- Each choice of each receive queue is by the rule, with the settings after its commands; this
-- holds in every state of a run.
pub record AreByRule (i : Input) (h : History) (at : ℕ → ℕ → ℕ) : Type 0 where
  pub prefixes : (q : ℕ) → Prefixes (length (list_at h.choices q)) (length h.commands) (at q)
  pub each : (q k : ℕ) → k < length (list_at h.choices q)
      → IsByRule i h q k (settings_at i h (at q k)) (since_at h.commands q (at q) k)

-- There is one choice for each packet that was taken, in the order of the arrivals, by the rule.
pub record ChoicesAreByRule (i : Input) (h : History) (at : ℕ → ℕ → ℕ) : Type 0 where
  pub all : (q : ℕ)
      → map (λ c. c.id) (list_at h.choices q)
      ≡ take (slice_index h.taken q) (arrivals_at h.arrivals q)
  pub by_rule : AreByRule i h at

-- ---- clause 4

-- An application made this write to the socket flow table.
abbrev pub WasWritten : History → SockWrite → Type 0
WasWritten h w = (a j : ℕ) × (slice_get (list_at h.writes a) j ≡ Some w)

-- A want that is set is the processor of a write at the entry of the packet's hash, by the size of
-- the socket flow table after the commands of the choice.
abbrev pub WantsAreWritten : Input → History → (ℕ → ℕ → ℕ) → Type 0
WantsAreWritten i h at =
    (q k want : ℕ) → k < length (list_at h.choices q)
    → (chosen_at (list_at h.choices q) k).choice.want ≡ Some want
    → (place : ℕ)
    × (class_of (settings_at i h (at q k)).sock
    (packet_hash (setup_in i) (chosen_at (list_at h.choices q) k).id) ≡ Some place)
    × WasWritten h (record { entry = place; cpu = want })

-- ---- clause 5

-- the current lane of a class after these choices
abbrev pub lane_of_class : Option ℕ → List Chosen → Option ℕ
lane_of_class None cs = None
lane_of_class (Some class) cs = current_lane (of_class class cs)

-- The lane whose head choice k saw, if it saw one: the current lane of its class.
abbrev pub lane_seen : List Chosen → ℕ → Option ℕ
lane_seen cs k = lane_of_class (chosen_at cs k).choice.class (take k cs)

-- Along the choices of one producer the heads seen at one lane never fall, as counts, and none is
-- over the number that the lane retired in the end.
pub record HeadsRise (start : ℕ) (lanes : List LaneList) (cs : List Chosen) : Type 0 where
  pub within : (k head lane : ℕ) → k < length cs
      → (chosen_at cs k).choice.head ≡ Some head → lane_seen cs k ≡ Some lane
      → distance head start ≤ (lane_at lanes lane).retired
  pub rise : (j k before head lane : ℕ) → j < k → k < length cs
      → (chosen_at cs j).choice.head ≡ Some before → lane_seen cs j ≡ Some lane
      → (chosen_at cs k).choice.head ≡ Some head → lane_seen cs k ≡ Some lane
      → distance before start ≤ distance head start

-- Along the choices of each receive queue and of each application the heads seen at one lane never
-- fall, and none is over what the lane retired in the end.
pub record HeadsAreRising (h : History) : Type 0 where
  pub rx : (q : ℕ) → HeadsRise h.start h.lanes (list_at h.choices q)
  pub tx : (a : ℕ) → HeadsRise h.start h.tx_lanes (list_at h.tx_choices a)
