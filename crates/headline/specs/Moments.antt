-- The moments of a run: the events at which packets arrived, choices were made, and packets were
-- accepted or dropped. The lists of a history keep values without their moments.
use Rattle.std.specs.Prelude.{ℕ, ◌+◌, ◌<◌, ◌≡◌, List, [], ◌∷◌, ◌++◌, Option, Some, None}
use Rattle.std.specs.Prelude.{length, slice_get, take}
use Rattle.history.specs.Lists.{lane_at, list_at}
use Rattle.history.specs.declared.arrival.Arrival.{Arrival}
use Rattle.history.specs.declared.history.History.{History}
use Rattle.hop_model.specs.Hop.{Fixed, HopState, accepted_at, choice_of, choices_of, drops_at}
use Rattle.hop_model.specs.Hop.{in_hand, lane_of, next_of, placed_of, pulled_at}
use Rattle.steer_base.specs.Choices.{desired_cpu}
use Rattle.steer_base.specs.Drops.{lane_drop_cause}
use Rattle.steer_base.specs.Entries.{last_or}
use Rattle.steer_base.specs.HashTables.{place_in_rows}
use Rattle.steer_base.specs.declared.choice.Chosen.{Chosen}
use Rattle.steer_base.specs.declared.put.LaneDrop.{LaneDrop}
use Rattle.steer_base.specs.declared.step.Step.{Step}
use Rattle.steer_model.specs.Good.Inputs.{Input, setup_in}
use Rattle.step_laws.specs.Origins.TableWrites.{after_events, socket_write, writes_of}
use Rattle.steer_model.specs.State.Machine.{Machine, history_lanes, note_of}
use Rattle.steer_model.specs.State.Settings.{class_at, plain_lane}
use Rattle.steer_model.specs.State.Setup.{flow_number_of, packet_hash}
use Rattle.steer_model.specs.State.Start.{fresh_rx, fresh_tx, new_machine, steps_of}
use Rattle.steer_model.specs.Steps.Applications.{everyone, in_reply, pick_for}
use Rattle.steer_model.specs.Steps.Pollers.{arrival_by, route_by, seen_by}
use Rattle.steer_model.specs.declared.note.Note.TheVariants as note
use Rattle.steer_properties.specs.Choices.Clear.{MovesAreClear}
use Rattle.headline.specs.Events.{all_events}

-- ---- an event of a run

-- the machine that a plan starts over the packets of a capture
abbrev pub start_of : Input → Machine
start_of i = new_machine i.plan i.packets i.cut

-- the events of the run, those of the plan's steps
abbrev pub run_events : Input → List Step
run_events i = all_events (start_of i) (steps_of i.plan)

-- the machine of a run after its first n events
abbrev pub state_at : Input → List Step → ℕ → Machine
state_at i events n = after_events (take n events) (start_of i)

-- One event of a run led from a state to the next one, and did this there.
pub record Moment (i : Input) (events : List Step) (Did : Machine → Machine → Type 0) : Type 0 where
  pub before : ℕ  -- how many events were before it
  pub within : before < length events
  pub did : Did (state_at i events before) (state_at i events (before + 1))

-- ---- arrivals

-- Packet k arrived as the next one. It went to the queue to which the filters and the redirection
-- table of the state before lead.
pub record HasArrivedNext (k : ℕ) (a : Arrival) (m n : Machine) : Type 0 where
  pub next : k ≡ length m.arrivals
  pub is : a ≡ arrival_by k (route_by m (packet_hash m.setup k))
  pub made : n.arrivals ≡ m.arrivals ++ a ∷ []

-- ---- choices

-- what some first events of a run left at a place of the socket flow table: the processor that an
-- application recorded there last, and none if none did since another size cleared the table
abbrev pub last_left : Input → List Step → ℕ → Option ℕ
last_left i events place = last_or None (writes_of (socket_write place) events (start_of i))

-- what a packet with this class finds that they left at the place of its hash
abbrev pub left_for : Input → List Step → Option ℕ → Option ℕ → Option ℕ
left_for i events (Some class) (Some place) = last_left i events place
left_for i events (Some class) None = None
left_for i events None place = None

-- what the first n events of a run left at the entry of a packet of a queue
abbrev pub last_want : Input → List Step → (count queue packet : ℕ) → Option ℕ
last_want i events n q x =
    let m : Machine = state_at i events n in
    left_for i (take n events) (class_at m.setup m.settings q x)
    (place_in_rows m.socket (packet_hash m.setup x))

-- Choice k of queue q was made with this want, as the next one of the queue, by the rule with the
-- heads, entries and settings of the state before. Right after it, each earlier choice that it
-- moved away from is clear.
pub record HasChosenNext (q k : ℕ) (c : Chosen) (want : Option ℕ) (m n : Machine) : Type 0 where
  pub next : k ≡ length (choices_of m.rx q)
  pub packet : c.id ≡ next_of m.rx q
  pub choice : c.choice
      ≡ choice_of m.rx q (class_at m.setup m.settings q c.id) want
      (desired_cpu (class_at m.setup m.settings q c.id) want m.settings.online
      (plain_lane m.setup m.settings q c.id))
      m.settings.online
  pub made : choices_of n.rx q ≡ choices_of m.rx q ++ c ∷ []
  pub clear : MovesAreClear (history_lanes n.rx.bare) (choices_of n.rx q)

-- Choice k of a queue had its moment, and before that its poller looked and noted the want. This is
-- what it saw in the socket flow table, and what was last written to the entry of its packet.
pub record ChosenAt (i : Input) (events : List Step) (q k : ℕ) (c : Chosen) : Type 0 where
  pub look : ℕ  -- how many events were before the look
  pub weigh : ℕ  -- and how many before the choice
  pub order : look < weigh
  pub within : weigh < length events
  pub want : Option ℕ
  pub seen : want ≡ seen_by (state_at i events look) q c.id
  pub written : want ≡ last_want i events look q c.id
  pub noted : note_of (state_at i events (look + 1)) q ≡ note.Looked want
  pub made : HasChosenNext q k c want (state_at i events weigh) (state_at i events (weigh + 1))

-- Transmit choice k of application a was made for the reply that was the next one, by the rule with
-- the heads and the entries of the state before and the pick of its maps. Right after it, each
-- earlier choice that it moved away from is clear.
pub record HasRepliedNext (a k : ℕ) (c : Chosen) (m n : Machine) : Type 0 where
  pub next : k ≡ length (choices_of m.tx a)
  pub packet : c.id ≡ next_of m.tx a
  pub choice : c.choice
      ≡ choice_of m.tx a (Some (flow_number_of m.setup (in_reply m a).id))
      (Some (pick_for m (in_reply m a))) (pick_for m (in_reply m a)) everyone
  pub made : choices_of n.tx a ≡ choices_of m.tx a ++ c ∷ []
  pub clear : MovesAreClear (history_lanes n.tx.bare) (choices_of n.tx a)

-- ---- packets that are put

-- A producer has packet x in hand, and has chosen lane c for it.
pub record IsInHand (s : HopState) (c x producer : ℕ) : Type 0 where
  pub chosen : placed_of s producer < length (choices_of s producer)
  pub packet : (in_hand s producer).id ≡ x
  pub lane : (in_hand s producer).choice.lane ≡ c

-- The packet that a producer had in hand, with this hash, became drop j of lane c. The drop keeps
-- the counts of the lane in the state before, and has the cause that the rule gives for them and
-- for the packets that were put there before.
pub record HasDroppedNext (f : Fixed) (hash : Option ℕ) (c j : ℕ) (d : LaneDrop) (s t : HopState)
    : Type 0 where
  pub hand : (producer : ℕ) × IsInHand s c d.id producer
  pub next : j ≡ length (drops_at s.bare c)
  pub accepted : d.accepted ≡ length (accepted_at s.bare c)
  pub pulled : d.pulled ≡ pulled_at s.bare c
  pub cause : lane_drop_cause (lane_of f s.bare c) hash ≡ Some d.cause
  pub made : drops_at t.bare c ≡ drops_at s.bare c ++ d ∷ []

-- The packet that a producer had in hand, with this hash, became packet k that lane c accepted. By
-- the rule it had no cause to be dropped in the state before.
pub record HasAcceptedNext (f : Fixed) (hash : Option ℕ) (c k x : ℕ) (s t : HopState) : Type 0 where
  pub hand : (producer : ℕ) × IsInHand s c x producer
  pub next : k ≡ length (accepted_at s.bare c)
  pub no_drop : lane_drop_cause (lane_of f s.bare c) hash ≡ None
  pub made : accepted_at t.bare c ≡ accepted_at s.bare c ++ x ∷ []

-- the packet of a drop of a processor was dropped there as drop j, by the limits of the plan
abbrev pub ProcessorDrops : Input → ℕ → ℕ → LaneDrop → Machine → Machine → Type 0
ProcessorDrops i c j d m n =
    HasDroppedNext (fresh_rx i.plan i.packets).fixed (packet_hash (setup_in i) d.id) c j d m.rx n.rx

-- a packet was accepted by a processor as packet k, by the limits of the plan
abbrev pub ProcessorAccepts : Input → (cpu index packet : ℕ) → Machine → Machine → Type 0
ProcessorAccepts i c k x m n =
    HasAcceptedNext (fresh_rx i.plan i.packets).fixed (packet_hash (setup_in i) x) c k x m.rx n.rx

-- a reply was accepted by a transmit queue as reply k
abbrev pub QueueAccepts : Input → (tx index packet : ℕ) → Machine → Machine → Type 0
QueueAccepts i t k x m n =
    HasAcceptedNext (fresh_tx i.plan i.packets).fixed (packet_hash (setup_in i) x) t k x m.tx n.tx

-- ---- all of them

-- Each arrival, each choice, each drop of a processor, and each packet that a processor or a
-- transmit queue accepted has its moment among the events of the plan's steps.
pub record HaveMomentsOfTheRun (i : Input) (h : History) : Type 0 where
  pub arrivals : (k : ℕ) (a : Arrival) → slice_get h.arrivals k ≡ Some a
      → Moment i (run_events i) (HasArrivedNext k a)
  pub choices : (q k : ℕ) (c : Chosen) → slice_get (list_at h.choices q) k ≡ Some c
      → ChosenAt i (run_events i) q k c
  pub replies : (a k : ℕ) (c : Chosen) → slice_get (list_at h.tx_choices a) k ≡ Some c
      → Moment i (run_events i) (HasRepliedNext a k c)
  pub drops : (c j : ℕ) (d : LaneDrop) → slice_get (lane_at h.lanes c).drops j ≡ Some d
      → Moment i (run_events i) (ProcessorDrops i c j d)
  pub accepted : (c k x : ℕ) → slice_get (lane_at h.lanes c).accepted k ≡ Some x
      → Moment i (run_events i) (ProcessorAccepts i c k x)
  pub queued : (t k x : ℕ) → slice_get (lane_at h.tx_lanes t).accepted k ≡ Some x
      → Moment i (run_events i) (QueueAccepts i t k x)
