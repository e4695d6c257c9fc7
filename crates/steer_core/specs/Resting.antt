-- When the turn of a poller or of an application would change nothing.
use Rattle.std.specs.Prelude.{ℕ, ◌<◌, ◌≡◌, ◌≢◌, false, Option, Some, None, length, nat_lt}
use Rattle.std.specs.Prelude.{if◌then◌else◌}
use Rattle.steer_base.specs.Sets.{has}
use Rattle.steer_base.specs.declared.choice.Chosen.{Chosen}
use Rattle.steer_base.specs.declared.cpu_mask.CpuMask.{CpuMask}
use Rattle.hop_model.specs.Events.{IsEmptied}
use Rattle.hop_model.specs.Hop.{HopState, accepted_at, arrivals_of, inside_of, out_at, placed_of}
use Rattle.hop_model.specs.Hop.{retired_at}
use Rattle.hop_model.specs.Reads.{to_put}
use Rattle.steer_model.specs.State.Machine.{Machine}
use Rattle.steer_model.specs.State.Setup.{packet_hash}
use Rattle.steer_model.specs.Steps.CompoundSteps.{Progress, one_round}
use Rattle.steer_model.specs.Steps.Pollers.{route_by}
use Rattle.steer_model.specs.Steps.Applications.{sent_of}
use Rattle.steer_properties.specs.Sweep.Rest.{PollerRests, SenderRests}
use Rattle.steer_core.specs.declared.actors.busy.Busy.{Busy}

-- A poller rests outside the gate.
pub record PollerIsDone (q : ℕ) (m : Machine) : Type 0 where
  pub rests : PollerRests q m
  pub outside : inside_of m.rx q ≡ false

-- An application rests outside the gate.
pub record SenderIsDone (a : ℕ) (m : Machine) : Type 0 where
  pub rests : SenderRests a m
  pub outside : inside_of m.tx a ≡ false

-- Each actor that is not busy is at rest: a poller and an application outside the gate, a processor
-- and a transmit queue with an empty lane.
pub record OthersAreDone (busy : Busy) (m : Machine) : Type 0 where
  pub pollers : (q : ℕ) → q < length m.setup.homes → has busy.pollers q ≡ false → PollerIsDone q m
  pub cpus : (c : ℕ) → c < m.setup.cpus → has busy.cpus c ≡ false → IsEmptied m.rx.bare c
  pub apps : (a : ℕ) → a < m.setup.apps → has busy.apps a ≡ false → SenderIsDone a m
  pub txs : (x : ℕ) → x < m.setup.txs → has busy.txs x ≡ false → IsEmptied m.tx.bare x

-- Between two machines a processor accepted and retired nothing.
pub record SameCpu (c : ℕ) (m n : Machine) : Type 0 where
  pub accepted : accepted_at n.rx.bare c ≡ accepted_at m.rx.bare c
  pub retired : retired_at n.rx.bare c ≡ retired_at m.rx.bare c

-- Between two machines a transmit queue accepted and retired nothing.
pub record SameTx (x : ℕ) (m n : Machine) : Type 0 where
  pub accepted : accepted_at n.tx.bare x ≡ accepted_at m.tx.bare x
  pub retired : retired_at n.tx.bare x ≡ retired_at m.tx.bare x

-- Between two machines an application got no packet, replied to none, and went neither in nor out.
pub record SameSender (a : ℕ) (m n : Machine) : Type 0 where
  pub sent : sent_of n a ≡ sent_of m a
  pub inbox : out_at n.rx.bare a ≡ out_at m.rx.bare a
  pub arrivals : arrivals_of n.tx a ≡ arrivals_of m.tx a
  pub placed : placed_of n.tx a ≡ placed_of m.tx a
  pub inside : inside_of n.tx a ≡ inside_of m.tx a

-- A producer puts no packet to a lane next.
abbrev pub PutsBeside : HopState → ℕ → ℕ → Type 0
PutsBeside s p c = (x : Chosen) → to_put s p ≡ Some x → c ≢ x.choice.lane

-- Each of the first numbers that is not in a set was not in it before, and something holds of it.
abbrev pub AreMarked : ℕ → CpuMask → CpuMask → (ℕ → Type 0) → Type 0
AreMarked count old new P = (n : ℕ) → n < count → has new n ≡ false → (has old n ≡ false) × P n

-- the receive queue of the packet that arrives next, if there is one
abbrev pub next_queue : Machine → Option ℕ
next_queue m =
    if nat_lt (length m.arrivals) (length m.setup.packets)
    then Some (route_by m (packet_hash m.setup (length m.arrivals))).queue else None

-- A round changes nothing, and does no work.
abbrev pub IsStill : Machine → Type 0
IsStill m = ◌≡◌ {A = Progress} (one_round (m, false)) (m, false)
