-- Forged reports of runs: what a good history could show that no run leaves. Each is a pattern in
-- lists, of queue 0 or application 0 where nothing else is said, with packets counted from 0, and
-- is refused by what it is named for.
use Rattle.std.specs.Prelude.{IsSome, ℕ, ◌≡◌, ◌<◌, None, Some, length, slice_get}
use Rattle.std.specs.List.{Contains}
use Rattle.history.specs.Lists.{list_at}
use Rattle.history.specs.Regular.{route_of}
use Rattle.history.specs.declared.arrival.Arrival.{Arrival}
use Rattle.history.specs.declared.history.History.{History}
use Rattle.history.specs.declared.sent.Sent.{Sent}
use Rattle.hop_model.specs.Hop.{chosen_at}
use Rattle.steer_base.specs.Arrivals.{route}
use Rattle.steer_base.specs.Choices.{class_of}
use Rattle.steer_base.specs.Counters.{rounded_up}
use Rattle.steer_base.specs.declared.command.Command.TheVariants as give
use Rattle.steer_base.specs.declared.put.LaneDrop.{LaneDrop}
use Rattle.steer_model.specs.Good.Inputs.{Input, WasDone, setup_in}
use Rattle.steer_model.specs.State.Setup.{packet_hash}
use Rattle.headline.specs.ByRun.{IsByRun}
use Rattle.headline.specs.HopOrders.{AcceptedAs, DeliveredAs, DroppedAs, SawHead, receive_lists}
use Rattle.headline.specs.HopOrders.{transmit_lists}

-- A head of the future. Choice 2 saw that processor 1 had retired four packets; but the packet of
-- choice 3 was accepted there with only two before it.
abbrev pub FutureHeadIsForged : Type 0
FutureHeadIsForged =
    (i : Input) (h : History) → IsByRun i h → SawHead (receive_lists h) 0 2 1 4
    → AcceptedAs (receive_lists h) 0 3 1 2 → ⊥

-- Two flows swapped. The packet of choice 0 was accepted by processor 1 with three before it, that
-- of choice 1 with none.
abbrev pub SwappedPutsAreForged : Type 0
SwappedPutsAreForged =
    (i : Input) (h : History) → IsByRun i h → AcceptedAs (receive_lists h) 0 0 1 3
    → AcceptedAs (receive_lists h) 0 1 1 0 → ⊥

-- An inbox in another order than the processor's. Of two packets that processor 1 accepted one
-- after the other the first has three packets before it in inbox 0, the second none.
abbrev pub SwappedInboxIsForged : Type 0
SwappedInboxIsForged =
    (i : Input) (h : History) → IsByRun i h → DeliveredAs (receive_lists h) 1 0 0 3
    → DeliveredAs (receive_lists h) 1 1 0 0 → ⊥

-- A port in another order than the transmit queue's, in the same way.
abbrev pub SwappedPortIsForged : Type 0
SwappedPortIsForged =
    (i : Input) (h : History) → IsByRun i h → DeliveredAs (transmit_lists h) 0 0 0 3
    → DeliveredAs (transmit_lists h) 0 1 0 0 → ⊥

-- A drop whose counts are of the past. The packet of choice 2 was accepted by processor 1 with one
-- before it; the drop of the packet of choice 3 counts one accepted packet, and not two.
abbrev pub StaleDropIsForged : Type 0
StaleDropIsForged =
    (i : Input) (h : History) (d : LaneDrop) → IsByRun i h
    → AcceptedAs (receive_lists h) 0 2 1 1 → DroppedAs (receive_lists h) 0 3 1 1 d
    → d.accepted ≡ 1 → ⊥

-- The same after five accepted packets.
abbrev pub StalerDropIsForged : Type 0
StalerDropIsForged =
    (i : Input) (h : History) (d : LaneDrop) → IsByRun i h
    → AcceptedAs (receive_lists h) 0 4 1 4 → DroppedAs (receive_lists h) 0 5 1 0 d
    → d.accepted ≡ 1 → ⊥

-- A head and a drop that disagree. Choice 4 saw that processor 1 had retired two packets; and the
-- drop of its packet there counts no pulled one.
abbrev pub UnpulledHeadIsForged : Type 0
UnpulledHeadIsForged =
    (i : Input) (h : History) (d : LaneDrop) → IsByRun i h → SawHead (receive_lists h) 0 4 1 2
    → DroppedAs (receive_lists h) 0 4 1 0 d → d.pulled ≡ 0 → ⊥

-- A head of the future at a transmit queue. The choice for reply 4 saw that queue 0 had retired
-- five replies; but reply 5 was accepted there with only four before it.
abbrev pub FutureTransmitHeadIsForged : Type 0
FutureTransmitHeadIsForged =
    (i : Input) (h : History) → IsByRun i h → SawHead (transmit_lists h) 0 4 0 5
    → AcceptedAs (transmit_lists h) 0 5 0 4 → ⊥

-- A full backlog that accepts. With a backlog of one the packet of choice 2 was accepted by
-- processor 1 with two before it; and then choice 3 saw that none was retired.
abbrev pub OverfullBacklogIsForged : Type 0
OverfullBacklogIsForged =
    (i : Input) (h : History) → IsByRun i h → i.plan.backlog ≡ 1
    → AcceptedAs (receive_lists h) 0 2 1 2 → SawHead (receive_lists h) 0 3 1 0 → ⊥

-- Two queues that wait for each other. At processor 1 queue 0 was behind queue 1 with its choice 0,
-- and at processor 2 queue 1 was behind queue 0 with its own; but each made the other choice later.
abbrev pub CircleOfQueuesIsForged : Type 0
CircleOfQueuesIsForged =
    (i : Input) (h : History) → IsByRun i h → AcceptedAs (receive_lists h) 0 0 1 1
    → AcceptedAs (receive_lists h) 0 1 2 0 → AcceptedAs (receive_lists h) 1 0 2 1
    → AcceptedAs (receive_lists h) 1 1 1 0 → ⊥

-- Settings that go back. Queue 1 was behind queue 0 at processor 1 with its choice 0, which is by
-- the settings after fewer commands than choice 0 of queue 0.
abbrev pub StaleSettingsAreForged : Type 0
StaleSettingsAreForged =
    (i : Input) (h : History) (run : IsByRun i h) → AcceptedAs (receive_lists h) 0 0 1 0
    → AcceptedAs (receive_lists h) 1 0 1 1 → run.settings.at 1 0 < run.settings.at 0 0 → ⊥

-- A want of its own. Choice 0 of queue 0 saw a want, and queue 0 chose for all packets that
-- applications took, so none was written before.
abbrev pub OwnWantIsForged : Type 0
OwnWantIsForged =
    (i : Input) (h : History) (want : ℕ) → IsByRun i h → 0 < length (list_at h.choices 0)
    → (chosen_at (list_at h.choices 0) 0).choice.want ≡ Some want
    → ((a n : ℕ) (s : Sent) → slice_get (list_at h.sent a) n ≡ Some s
    → (j : ℕ) × (j < length (list_at h.choices 0))
    × ((chosen_at (list_at h.choices 0) j).id ≡ s.id))
    → ⊥

-- A filter of its own. The first packet of all came by a filter.
abbrev pub OwnFilterIsForged : Type 0
OwnFilterIsForged =
    (i : Input) (h : History) (a : Arrival) (hash queue : ℕ) → IsByRun i h
    → Contains h.arrivals a → a.id ≡ 0 → packet_hash (setup_in i) 0 ≡ Some hash
    → route_of a ≡ route (Some hash) (Some queue) 0 → ⊥

-- A want that is unset. Choices 0 and 1 of queue 0 are for packets of one hash; the first saw a
-- want, the second none, though it has a class; and no command set the size of the table.
abbrev pub UnsetWantIsForged : Type 0
UnsetWantIsForged =
    (i : Input) (h : History) (want entry : ℕ) → IsByRun i h → 1 < length (list_at h.choices 0)
    → (chosen_at (list_at h.choices 0) 0).choice.want ≡ Some want
    → class_of (rounded_up i.plan.sock)
    (packet_hash (setup_in i) (chosen_at (list_at h.choices 0) 0).id) ≡ Some entry
    → packet_hash (setup_in i) (chosen_at (list_at h.choices 0) 1).id
    ≡ packet_hash (setup_in i) (chosen_at (list_at h.choices 0) 0).id
    → IsSome (chosen_at (list_at h.choices 0) 1).choice.class
    → (chosen_at (list_at h.choices 0) 1).choice.want ≡ None
    → ((size : ℕ) → WasDone h (give.Sock size) → ⊥) → ⊥
