-- What holds of the two hops of the machine after any steps.
use Rattle.std.specs.Prelude.{ℕ, ◌+◌, ◌<◌, ◌≤◌, ◌≡◌, true, false, List, length, max, replicate}
use Rattle.std.specs.Prelude.{slice_index, slice_index_or}
use Rattle.steer_base.specs.Sets.{has}
use Rattle.hop_model.specs.Events.{IsEmptied}
use Rattle.hop_model.specs.Hop.{HopState, arrivals_of, choices_of, in_hand, placed_of, taken_of}
use Rattle.hop_core.specs.Laws.{Ample}
use Rattle.hop_core.specs.NothingLost.{NothingLost}
use Rattle.hop_core.specs.Settled.{SettledIn}
use Rattle.hop_model.specs.Sound.{Sound}
use Rattle.steer_model.specs.Capture.FlowCounts.{flow_count}
use Rattle.steer_model.specs.State.Settings.{Settings, class_at, plain_lane}
use Rattle.steer_model.specs.State.Setup.{Setup}
use Rattle.steer_model.specs.declared.note.Note.{Note}
use Rattle.steer_model.specs.declared.note.Note.TheVariants as note

-- ---- the receive hop

-- The receive hop has the queues, processors and applications of the plan, the applications and a
-- controller as guests, and room for the packets of the capture.
pub record RxSizes (p : Setup) (s : HopState) : Type 0 where
  pub queues : length s.arrivals ≡ length p.homes
  pub cpus : length s.bare.accepted ≡ p.cpus
  pub apps : length s.bare.outs ≡ p.apps
  pub visits : length s.visits ≡ length p.homes + p.apps + 1
  pub room : s.fixed.room ≡ length p.packets
  pub rounded : s.fixed.exact ≡ false

-- The receive hop between steps: it is sound, loses nothing, and its gate is open.
pub record RxInvariant (p : Setup) (s : HopState) : Type 0 where
  pub sound : Sound s
  pub lossless : NothingLost s
  pub opened : s.bare.closed ≡ false
  pub sizes : RxSizes p s

-- The home processors are online and no processor beyond the plan is; one that is offline has no
-- packet, and no packet that was weighed goes to one.
pub record Manned (p : Setup) (now : Settings) (s : HopState) : Type 0 where
  pub homes : (q : ℕ) → q < length p.homes → has now.online (slice_index p.homes q) ≡ true
  pub within : (c : ℕ) → has now.online c ≡ true → c < p.cpus
  pub empty : (c : ℕ) → c < length s.bare.accepted → has now.online c ≡ false → IsEmptied s.bare c
  pub hand : (q : ℕ) → placed_of s q < length (choices_of s q)
      → has now.online (in_hand s q).choice.lane ≡ true

-- The receive hop follows the settings in force: it has their flow counts, each choice and each
-- packet that waits agrees with them, and no packet is at a processor that is offline.
pub record BySettings (p : Setup) (now : Settings) (s : HopState) : Type 0 where
  pub counts : now.counts ≡ s.counts
  pub settled : SettledIn (class_at p now) (plain_lane p now) s
  pub manned : Manned p now s

-- A poller that looked has a packet to weigh, and one that asks for a filter has put its packet.
abbrev pub IsNoted : HopState → ℕ → Note → Type 0
IsNoted s q note.Nothing = Unit {0}
IsNoted s q (note.Looked want) = length (choices_of s q) < taken_of s q
IsNoted s q (note.Asking filter) = taken_of s q ≤ placed_of s q

-- Each poller's note fits its hand.
abbrev pub AreNoted : List Note → HopState → Type 0
AreNoted notes s = (q : ℕ) → IsNoted s q (slice_index_or notes q note.Nothing)

-- ---- the transmit hop

-- The transmit hop has the applications and transmit queues of the plan, one port, room for the
-- packets of the capture, and for each application a class for each flow number, at least one.
pub record TxSizes (p : Setup) (s : HopState) : Type 0 where
  pub apps : length s.arrivals ≡ p.apps
  pub visits : length s.visits ≡ p.apps
  pub txs : length s.bare.accepted ≡ p.txs
  pub port : length s.bare.outs ≡ 1
  pub room : s.fixed.room ≡ length p.packets
  pub classes : s.counts ≡ replicate p.apps (max 1 (flow_count p.packets))

-- Each application took all replies that it began.
abbrev pub AllTaken : HopState → Type 0
AllTaken s = (a : ℕ) → taken_of s a ≡ length (arrivals_of s a)

-- The transmit hop between steps: it is sound, loses nothing, has room for all, dropped nothing,
-- and its gate is open.
pub record TxInvariant (p : Setup) (s : HopState) : Type 0 where
  pub sound : Sound s
  pub lossless : NothingLost s
  pub ample : Ample s
  pub opened : s.bare.closed ≡ false
  pub sizes : TxSizes p s
