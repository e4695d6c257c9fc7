-- What the journals of the wire and the pollers say of arrivals at the closing of a run.
use Rattle.std.specs.Prelude.{◌≡◌, ◌⊎◌, ℕ, ◌<◌, ◌≤◌, Bool, List, [], Some, length, map, All}
use Rattle.std.specs.List.{Contains, range_with_len}
use Rattle.hint_words.specs.declared.step.HintStep.TheVariants.{ClearIf, Store}
use Rattle.history.specs.Lists.{arrival_of}
use Rattle.history.specs.Regular.{route_of}
use Rattle.history.specs.declared.arrival.Arrival.{Arrival}
use Rattle.history.specs.declared.history.History.{History}
use Rattle.hop_rule.specs.Moments.{nth_step}
use Rattle.steer_base.specs.Arrivals.{route}
use Rattle.run_words.specs.Numbers.{hint_number}
use Rattle.run_words.specs.declared.hint_word.HintWord.TheVariants as word
use Rattle.steer_model.specs.Good.Inputs.{Input, setup_in}
use Rattle.steer_model.specs.State.Setup.{packet_hash}
use Rattle.run_coupling.specs.Laws.SharedCodes.{AreShared}
use Rattle.run_coupling.specs.Coupling.Ends.{AllArrived}
use Rattle.run_coupling.specs.Coupling.Hints.{HintCodes, IsRouted}
use Rattle.run_coupling.specs.Coupling.Marks.{LoadsFilter}
use Rattle.run_crew.specs.Routes.{Ends}
use Rattle.run_words.specs.HintViews.{HintView}

-- The wire's own steps are in turn: it looked for a filter for each packet that has a hash, before
-- it announced the packet or a later one.
pub record IsInTurn (i : Input) (h : History) (c : HintCodes) (seats : List HintView)
    (wire : HintView) : Type 0 where
  pub look : (packet : ℕ) → ℕ
  pub looks : (a : Arrival) (hash queue : ℕ) → Contains h.arrivals a
      → packet_hash (setup_in i) a.id ≡ Some hash
      → route_of a ≡ route (Some hash) (Some queue) 0
      → LoadsFilter i h c seats wire (look a.id) hash queue
  pub tells : (x y n value hash : ℕ) → x ≤ y → packet_hash (setup_in i) x ≡ Some hash
      → nth_step wire.steps n ≡ Some (Store (c.packet y) value) → look x < n

-- The coupling invariants of the wire: all packets arrived; each came by what was loaded; each
-- store of its seat is the queue of an arrival in its word, but for the word that says that all
-- have arrived; and so what it stored in a packet's word is the queue of the packet's arrival. It
-- announced the packets in turn, and cleared nothing.
pub record ArrivalsAreCoupled (i : Input) (h : History) (c : HintCodes) (seats : List HintView)
    (seat : HintView) : Type 0 where
  pub among : Contains seats seat
  pub arrived : AllArrived i h
  pub routed : All (λ (a : Arrival). IsRouted i h c seats (packet_hash (setup_in i) a.id) a)
      h.arrivals
  pub stored : (number value : ℕ) → Contains seat.steps (Store number value)
      → (number ≡ hint_number word.Done)
      ⊎ ((a : Arrival) × Contains h.arrivals a × (number ≡ c.packet a.id)
      × (value ≡ c.place a.queue))
  pub packets : (x q : ℕ) → Contains seat.steps (Store (c.packet x) (c.place q))
      → (arrival_of h.arrivals x).queue ≡ q
  pub in_turn : IsInTurn i h c seats seat
  pub cleared : (number value : ℕ) (done : Bool)
      → Contains seat.steps (ClearIf number value done) → ⊥

-- If a wire without steps let these arrivals arrive and all packets did, its coupling invariants
-- hold at the closing of seats among which its own is.
abbrev pub WireKeepsCoupling : Type 0
WireKeepsCoupling =
    (i : Input) (h : History) (c : HintCodes) (seats : List HintView) (old new : HintView)
    → AreShared c → Contains seats new → old.steps ≡ []
    → map (λ a. a.id) h.arrivals ≡ range_with_len 0 (length i.packets)
    → Ends (setup_in i) i.plan.filters
    (record { queues = length i.plan.queues; entries = i.plan.reta }) h.arrivals old new
    → ArrivalsAreCoupled i h c seats new
