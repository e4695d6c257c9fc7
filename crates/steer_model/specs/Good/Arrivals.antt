-- A good history's arrivals: the sizes of its lists, and what each arrival saw (kernel scaling
-- chapter, sections RSS and accelerated RFS).
use Rattle.std.specs.Prelude.{ℕ, ◌≡◌, ◌⊎◌, true, Option, Some, None, length, map, slice_get}
use Rattle.std.specs.Prelude.{slice_index}
use Rattle.std.specs.List.{All, range_with_len}
use Rattle.steer_base.specs.Arrivals.{filter_place, route, table_place}
use Rattle.steer_base.specs.Choices.{has_moved}
use Rattle.steer_base.specs.Filters.{home_queue}
use Rattle.steer_base.specs.declared.choice.Chosen.{Chosen}
use Rattle.steer_base.specs.declared.command.Command.TheVariants as give
use Rattle.history.specs.Finding.{is_in}
use Rattle.history.specs.Lists.{lane_at, list_at}
use Rattle.history.specs.Regular.{route_of}
use Rattle.history.specs.declared.arrival.Arrival.{Arrival}
use Rattle.history.specs.declared.history.History.{History}
use Rattle.steer_model.specs.Good.Inputs.{Input, WasDone, setup_in}
use Rattle.steer_model.specs.State.Setup.{packet_hash}

-- ---- clause 1

-- All packets of the capture arrived, in their order. The history has the capture's number of
-- packets and its cut, the plan's start, and lists for the plan's queues, processors and transmit
-- queues.
pub record HasArrived (i : Input) (h : History) : Type 0 where
  pub all : map (λ a. a.id) h.arrivals ≡ range_with_len 0 (length i.packets)
  pub total : h.total ≡ length i.packets
  pub cut : h.cut ≡ i.cut
  pub start : h.start ≡ i.plan.start
  pub queues : length h.taken ≡ length i.plan.queues
  pub cpus : length h.lanes ≡ i.plan.cpus
  pub txs : length h.tx_lanes ≡ length i.plan.tx

-- ---- clause 2

-- an entry of the redirection table has this queue: by the plan, or by a done command for it
abbrev pub EntryFrom : Input → History → ℕ → ℕ → Type 0
EntryFrom i h place q = (slice_index i.plan.reta place ≡ q) ⊎ WasDone h (give.Reta place q)

-- A filter that a packet with this hash finds sends it to queue f: a choice moved to a processor
-- whose lowest queue f is, its packet was accepted there, and its hash has the same filter.
pub record FilterFrom (i : Input) (h : History) (hash f : ℕ) : Type 0 where
  pub queue : ℕ
  pub choice : Chosen
  pub chosen : (k : ℕ) × (slice_get (list_at h.choices queue) k ≡ Some choice)
  pub moved : has_moved choice.choice.why ≡ true
  pub home : home_queue (setup_in i).homes choice.choice.lane ≡ Some f
  pub accepted : is_in choice.id (lane_at h.lanes choice.choice.lane).accepted ≡ true
  pub place : ℕ
  pub there : filter_place i.plan.filters (packet_hash (setup_in i) choice.id) ≡ Some place
  pub here : filter_place i.plan.filters (Some hash) ≡ Some place

-- an arrival without a hash is at queue 0, and one with this hash at the queue of an entry or of a
-- filter
abbrev pub SeenBy : Input → History → Option ℕ → Arrival → Type 0
SeenBy i h None a = route_of a ≡ route None None 0
SeenBy i h (Some hash) a =
    ((q : ℕ) × (route_of a ≡ route (Some hash) None q) × EntryFrom i h (table_place hash) q)
    ⊎ ((f : ℕ) × (route_of a ≡ route (Some hash) (Some f) 0) × FilterFrom i h hash f)

-- Each arrival is at the queue of the values that it kept, and these are values of the run.
abbrev pub QueuesAreSeen : Input → History → Type 0
QueuesAreSeen i h = All (λ a. SeenBy i h (packet_hash (setup_in i) a.id) a) h.arrivals
