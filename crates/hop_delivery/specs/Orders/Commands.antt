-- The settings that a command makes on a board, and the lanes that have to be empty for them.
use Rattle.std.specs.Prelude.{◌≡◌, ℕ, ◌+◌, ◌*◌, ◌/◌, ◌^◌, ◌<◌, true, List, [], ◌∷◌, All}
use Rattle.steer_base.specs.{Commands.is_affected, Counters.rounded_up}
use Rattle.steer_base.specs.Sets.{with_cpu, without_cpu}
use Rattle.steer_base.specs.declared.command.Command.{Command, TheVariants.Mask, TheVariants.Flows}
use Rattle.steer_base.specs.declared.command.Command.TheVariants.{Sock, Offline, Online, XCpus}
use Rattle.steer_base.specs.declared.command.Command.TheVariants.{XQueues, Reta, Stand, Expire}
use Rattle.hop_delivery.specs.Orders.ReceiveSettings.{Queues, flows_word, mask_word, online}
use Rattle.hop_delivery.specs.Orders.ReceiveSettings.{online_word, receive_steering, socket_word}
use Rattle.hop_delivery.specs.Orders.{Runs.Steering, TransmitSettings.transmit_steering}

-- A change of a setting: its word and its new value.
pub record SettingChange : Type 0 where
  pub word : ℕ
  pub value : ℕ

-- The change of a setting word to a value.
abbrev pub made : ℕ → ℕ → SettingChange
made word value = record { word = word; value = value }

-- A rounded flow count with the next generation.
abbrev pub next_flows : ℕ → ℕ → ℕ
next_flows old count = rounded_up count + 2 ^ 32 * (old / 2 ^ 32 + 1)

-- The settings that a command changes on the receive board.
abbrev pub received_sets : Queues → (ℕ → ℕ) → Command → List SettingChange
received_sets q s (Mask queue cpus) = made (mask_word q queue) cpus.0 ∷ []
received_sets q s (Flows queue count) =
    made (flows_word q queue) (next_flows (s (flows_word q queue)) count) ∷ []
received_sets q s (Sock size) = made (socket_word q) (rounded_up size) ∷ []
received_sets q s (Offline cpu) = made (online_word q) (without_cpu (online q s) cpu).0 ∷ []
received_sets q s (Online cpu) = made (online_word q) (with_cpu (online q s) cpu).0 ∷ []
received_sets q s (XCpus tx cpus) = []
received_sets q s (XQueues tx queues) = []
received_sets q s (Reta place queue) = []
received_sets q s (Stand app cpu) = []
received_sets q s Expire = []

-- The settings that a command changes on the transmit board with this number of queues.
abbrev pub sent_sets : ℕ → Command → List SettingChange
sent_sets count (XCpus tx cpus) = made tx cpus.0 ∷ []
sent_sets count (XQueues tx queues) = made (count + tx) queues ∷ []
sent_sets count _ = []

-- The processor that a command names has a number below 32.
abbrev pub NamesCpu : Command → Type 0
NamesCpu (Offline cpu) = cpu < 32
NamesCpu (Online cpu) = cpu < 32
NamesCpu _ = Unit {0}

-- For each change of a setting by a command, the lanes that have to be empty are among those that
-- the command affects.
abbrev pub AreAffected : Steering → (ℕ → ℕ) → Command → List ℕ → (cpus txs lane : ℕ)
    → List SettingChange → Type 0
AreAffected r s c homes cpus txs l sets =
    All (λ m. r.affects s m.word m.value l ≡ true → is_affected c homes cpus txs l ≡ true) sets

-- On a receive board the lanes that have to be empty for the settings of a command are among those
-- that it affects.
abbrev pub ReceivedCommandsEmpty : Type 0
ReceivedCommandsEmpty =
    (q : Queues) (s : ℕ → ℕ) (c : Command) (cpus txs l : ℕ) → NamesCpu c → l < cpus
    → AreAffected (receive_steering q) s c q.homes cpus txs l (received_sets q s c)

-- On a transmit board the lanes that have to be empty for the settings of a command are among those
-- that it affects.
abbrev pub SentCommandsEmpty : Type 0
SentCommandsEmpty = (flow : ℕ → ℕ) (s : ℕ → ℕ) (c : Command) (homes : List ℕ) (count cpus l : ℕ)
    → AreAffected (transmit_steering flow) s c homes cpus count l (sent_sets count c)
