-- What the machine may ask of its hops, in every state: each event of each step that names what
-- there is.
use Rattle.std.specs.Prelude.{ℕ, ◌+◌, ◌<◌, ◌≤◌, ◌≡◌, true, [], ◌∷◌, Option, None, Some, length}
use Rattle.std.specs.Prelude.{slice_index, slice_index_or}
use Rattle.steer_base.specs.declared.command.Command.TheVariants as give
use Rattle.steer_base.specs.declared.filter.Filter.{Filter}
use Rattle.steer_base.specs.declared.limits.TheConstants.{MAX_FLOW_COUNT}
use Rattle.hop_model.specs.declared.event.HopEvent.TheVariants as event
use Rattle.hop_model.specs.Events.{AllMayAsk, MayAsk}
use Rattle.hop_model.specs.Hop.{next_of}
use Rattle.history.specs.declared.sent.Sent.{Sent}
use Rattle.steer_model.specs.Steps.Applications.{next_in, sending}
use Rattle.steer_model.specs.Steps.Commands.{answer_to, is_done}
use Rattle.steer_model.specs.State.Machine.{Machine}
use Rattle.steer_model.specs.Steps.Pollers.{route_by, weighing}
use Rattle.steer_model.specs.State.Setup.{app_for, packet_hash}

-- The machine may ask its receive hop for the arrival of the next packet, the events of a poller
-- and of a processor, the visit of an application, and another flow count.
pub record AsksRx (m : Machine) : Type 0 where
  pub arrive : length m.arrivals < length m.setup.packets
      → MayAsk m.rx
      (event.Arrive (route_by m (packet_hash m.setup (length m.arrivals))).queue
      (length m.arrivals))
  pub take : (q : ℕ) → q < length m.setup.homes → MayAsk m.rx (event.Take q)
  pub enter : (q : ℕ) → q < length m.setup.homes → MayAsk m.rx (event.Enter q)
  pub weigh : (q : ℕ) (want : Option ℕ) → q < length m.setup.homes
      → MayAsk m.rx (weighing m q (next_of m.rx q) want)
  pub put : (q : ℕ) (hash : Option ℕ) → q < length m.setup.homes → MayAsk m.rx (event.Put q hash)
  pub leave : (q : ℕ) → q < length m.setup.homes → MayAsk m.rx (event.Leave q)
  pub pull : (c : ℕ) → c < m.setup.cpus → MayAsk m.rx (event.Pull c)
  pub deliver : (c x : ℕ) → c < m.setup.cpus → MayAsk m.rx (event.Deliver c (app_for m.setup x))
  pub retire : (c : ℕ) → c < m.setup.cpus → MayAsk m.rx (event.Retire c)
  pub visit : (a : ℕ) → a < m.setup.apps
      → AllMayAsk
      (event.Enter (length m.setup.homes + a) ∷ event.Leave (length m.setup.homes + a) ∷ []) m.rx
  pub flows : (q count : ℕ) → q < length m.setup.homes → count ≤ MAX_FLOW_COUNT
      → is_done (answer_to m (give.Flows q count)) ≡ true
      → AllMayAsk (event.Close ∷ event.Resize q count ∷ event.Reopen ∷ []) m.rx

-- The machine may ask its transmit hop for the next packet of an inbox, the other events of an
-- application, and those of a transmit queue.
pub record AsksTx (m : Machine) : Type 0 where
  pub send : (a x : ℕ) → a < m.setup.apps → next_in m a ≡ Some x
      → AllMayAsk (event.Arrive a x ∷ event.Take a ∷ []) m.tx
  pub enter : (a : ℕ) → a < m.setup.apps → MayAsk m.tx (event.Enter a)
  pub weigh : (a : ℕ) (reply : Sent) → a < m.setup.apps → MayAsk m.tx (sending m a reply)
  pub put : (a : ℕ) (hash : Option ℕ) → a < m.setup.apps → MayAsk m.tx (event.Put a hash)
  pub leave : (a : ℕ) → a < m.setup.apps → MayAsk m.tx (event.Leave a)
  pub pull : (t : ℕ) → t < m.setup.txs → MayAsk m.tx (event.Pull t)
  pub deliver : (t : ℕ) → t < m.setup.txs → MayAsk m.tx (event.Deliver t 0)
  pub retire : (t : ℕ) → t < m.setup.txs → MayAsk m.tx (event.Retire t)

-- An expiry can read what it needs for a filter: the head of a processor that exists, and the flow
-- count of a queue that exists, which is at most MAX_FLOW_COUNT.
pub record IsSeated (m : Machine) (filter : Filter) : Type 0 where
  pub processor : filter.cpu < length m.rx.bare.accepted
  pub queue : filter.queue < length m.settings.counts
  pub flows : slice_index m.settings.counts filter.queue ≤ MAX_FLOW_COUNT

-- An expiry can read what it needs for each filter that is set.
abbrev pub AreSeated : Machine → Type 0
AreSeated m =
    (i : ℕ) (filter : Filter) → slice_index_or m.filters i None ≡ Some filter → IsSeated m filter
