-- The actors of a run before any turn, each kind in the order of its numbers.
use Rattle.std.specs.Prelude.{◌≡◌, ℕ, false, true, List, [], None, Some, length, slice_get}
use Rattle.std.specs.Prelude.{slice_index}
use Rattle.std.specs.declared.alloc.Global.{Global}
use Rattle.rtrb.specs.Ring.{IsPair, known_free, received, sent}
use Rattle.rtrb.specs.declared.AnyItems.{AnyItems}
use Rattle.rtrb.specs.declared.producer.Producer.{Producer}
use Rattle.steer_base.specs.Journals.{journal}
use Rattle.steer_base.specs.declared.packet.Packet.{Packet}
use Rattle.dev_flow_table.specs.Tables.{cleared}
use Rattle.plan_reader.specs.declared.plan.Plan.{Plan}
use Rattle.steer_model.specs.Capture.FlowCounts.{flow_count}
use Rattle.steer_model.specs.State.Setup.{Setup}
use Rattle.steer_model.specs.State.Start.{initial_settings}
use Rattle.run_words.specs.Values.{flows_word}
use Rattle.run_workers.specs.Hands.Pollers.{IsPoller}
use Rattle.run_workers.specs.Hands.Servers.{HasFlowsBelow, IsServer}
use Rattle.run_workers.specs.declared.drain.Drain.{Drain}
use Rattle.run_workers.specs.declared.drain.Exit.{Exit}
use Rattle.run_workers.specs.declared.drain.Exit.TheVariants.{Inboxes, Port}
use Rattle.run_workers.specs.declared.poller.Poller.{Poller}
use Rattle.run_workers.specs.declared.server.Server.{Server}
use Rattle.run_workers.specs.Actors.{Each}
use Rattle.workers.specs.declared.actors.Actors.{Actors}

-- what contracts see of the end of a ring at which packets arrive, by their numbers
abbrev pub RingEnd : Type 0
RingEnd = Producer ℕ Global AnyItems

-- the flow count of a receive queue, rounded up
abbrev pub first_count : Plan → ℕ → ℕ
first_count plan q = slice_index (initial_settings plan).counts q

-- The poller of receive queue q, which has taken nothing from its ring and has seen the plan's flow
-- count, with room for so many choices.
pub record IsFirstPoller (plan : Plan) (room q : ℕ) (p : Poller) : Type 0 where
  pub queue : p.queue ≡ q
  pub ring : received p.ring ≡ []
  pub hand : p.hand ≡ None
  pub flows : p.flows ≡ flows_word (first_count plan q) 0
  pub table : p.table ≡ cleared (first_count plan q) plan.start false
  pub choices : p.choices ≡ journal [] room
  pub accepted : p.accepted ≡ 0
  pub kept : p.kept ≡ None
  pub is : (cpus : ℕ) → IsPoller cpus p

-- What empties the lane l to this exit, counts from this number, and has pulled nothing.
pub record IsFirstDrain (exit : Exit) (initial l : ℕ) (d : Drain) : Type 0 where
  pub lane : d.lane ≡ l
  pub exit_is : d.exit ≡ exit
  pub hand : d.hand ≡ None
  pub retired : d.retired ≡ 0
  pub start : d.start ≡ initial

-- Application a, which stands where the plan says, counts from the plan's start, and has taken
-- nothing, with room for so many packets of so many flows.
pub record IsFirstServer (plan : Plan) (room flows a : ℕ) (v : Server) : Type 0 where
  pub app : v.app ≡ a
  pub home : slice_get plan.apps a ≡ Some v.home
  pub start : v.start ≡ plan.start
  pub hand : v.hand ≡ None
  pub table : v.table ≡ cleared flows plan.start true
  pub sent : v.sent ≡ journal [] room
  pub choices : v.choices ≡ journal [] room
  pub writes : v.writes ≡ journal [] room
  pub kept : v.kept.visit ≡ None
  pub is : (given : Setup) → HasFlowsBelow given room flows → IsServer given v

-- The actors are those of a plan for these packets: a poller for each receive queue, what empties
-- each processor's backlog, each application, and what empties each transmit queue.
pub record AreFirst (plan : Plan) (packets : List Packet) (a : Actors) : Type 0 where
  pub queues : length a.pollers.items ≡ length plan.queues
  pub pollers : Each (IsFirstPoller plan (length packets)) a.pollers.items
  pub cpus : length a.drains.items ≡ plan.cpus
  pub drains : Each (IsFirstDrain Inboxes plan.start) a.drains.items
  pub apps : length a.servers.items ≡ length plan.apps
  pub servers : Each (IsFirstServer plan (length packets) (flow_count packets)) a.servers.items
  pub txs : length a.ships.items ≡ length plan.tx
  pub ships : Each (IsFirstDrain Port plan.start) a.ships.items

-- There is a ring for each poller, with room for so many packets, to which nothing was given.
pub record ArePaired (room : ℕ) (rings : List RingEnd) (pollers : List Poller) : Type 0 where
  pub count : length rings ≡ length pollers
  pub empty : Each (λ q r. sent r ≡ []) rings
  pub free : Each (λ q r. known_free r ≡ room) rings
  pub pairs : Each (λ q r. (p : Poller) → slice_get pollers q ≡ Some p → IsPair r p.ring) rings
