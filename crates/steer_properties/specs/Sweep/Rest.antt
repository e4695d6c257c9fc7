-- When the machine is at rest: all that can be done without a command is done.
use Rattle.std.specs.Prelude.{ℕ, ◌<◌, ◌≡◌, ◌⊎◌, length}
use Rattle.std.specs.List.{Contains}
use Rattle.hop_model.specs.Events.{IsEmptied}
use Rattle.hop_model.specs.Hop.{arrivals_of, fell_at, out_at, placed_of}
use Rattle.hop_core.specs.NothingLost.{IsInOutLane}
use Rattle.steer_model.specs.Steps.Applications.{sent_of}
use Rattle.steer_model.specs.State.Machine.{Machine, note_of}
use Rattle.steer_model.specs.declared.note.Note.TheVariants as note

-- A poller put all packets that arrived at its queue, and asks for no filter.
pub record PollerRests (q : ℕ) (m : Machine) : Type 0 where
  pub put : placed_of m.rx q ≡ length (arrivals_of m.rx q)
  pub quiet : note_of m q ≡ note.Nothing

-- An application began a reply to each packet of its inbox, and put all of them.
pub record SenderRests (a : ℕ) (m : Machine) : Type 0 where
  pub begun : length (sent_of m a) ≡ length (out_at m.rx.bare a)
  pub put : placed_of m.tx a ≡ length (arrivals_of m.tx a)

-- A machine is at rest: every packet of the capture arrived, pollers and applications rest, and all
-- that processors and transmit queues accepted is retired.
pub record AtRest (m : Machine) : Type 0 where
  pub arrived : length m.arrivals ≡ length m.setup.packets
  pub pollers : (q : ℕ) → q < length m.setup.homes → PollerRests q m
  pub cpus : (c : ℕ) → c < m.setup.cpus → IsEmptied m.rx.bare c
  pub senders : (a : ℕ) → a < m.setup.apps → SenderRests a m
  pub txs : (t : ℕ) → t < m.setup.txs → IsEmptied m.tx.bare t

-- A packet was dropped by a processor, or it is in an inbox and its reply is on the port.
abbrev pub IsThrough : Machine → ℕ → Type 0
IsThrough m x =
    ((c : ℕ) × Contains (fell_at m.rx.bare c) x)
    ⊎ (IsInOutLane (out_at m.rx.bare) x × Contains (out_at m.tx.bare 0) x)
