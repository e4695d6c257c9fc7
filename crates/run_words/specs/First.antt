-- The values that a plan begins with.
use Rattle.std.specs.Prelude.{◌≡◌, ℕ, List, [], ◌∷◌, ◌++◌, Option, None, Some, length, map}
use Rattle.std.specs.Prelude.{slice_get}
use Rattle.std.specs.Option.{option_map}
use Rattle.steer_base.specs.Counters.{rounded_up}
use Rattle.steer_base.specs.Sets.{first_cpus}
use Rattle.plan_reader.specs.declared.plan.Plan.{Plan}
use Rattle.run_words.specs.Numbers.{IsReceiveSetting, IsTransmitSetting, receive_number}
use Rattle.run_words.specs.Numbers.{transmit_number}
use Rattle.run_words.specs.Values.{cpus_word, flows_word, place_word, queues_word}
use Rattle.run_words.specs.Values.{socket_size_word}
use Rattle.run_words.specs.declared.hint_word.HintWord.{HintWord}
use Rattle.run_words.specs.declared.hint_word.HintWord.TheVariants as word
use Rattle.run_words.specs.declared.setting.ReceiveSetting.{ReceiveSetting}
use Rattle.run_words.specs.declared.setting.ReceiveSetting.TheVariants as receive
use Rattle.run_words.specs.declared.setting.TransmitSetting.{TransmitSetting}
use Rattle.run_words.specs.declared.setting.TransmitSetting.TheVariants as transmit

-- the word of a processor or a queue if there is one, otherwise 0
abbrev pub place_word_or_none : Option ℕ → ℕ
place_word_or_none None = 0
place_word_or_none (Some place) = place_word place

-- the first value of a word beside the boards: the redirection table and the processors of the
-- applications are the plan's, and nothing is written to the others
abbrev pub first_hint : Plan → HintWord → ℕ
first_hint plan (word.Redirection entry) = place_word_or_none (slice_get plan.reta entry)
first_hint plan (word.Stand app) = place_word_or_none (slice_get plan.apps app)
first_hint plan _ = 0

-- the first values of the settings of the receive board, by their numbers
abbrev pub first_receive_settings : Plan → List ℕ
first_receive_settings plan =
    map (λ queue. cpus_word queue.mask) plan.queues
    ++ (map (λ queue. flows_word (rounded_up queue.flows) 0) plan.queues
    ++ socket_size_word (rounded_up plan.sock) ∷ cpus_word (first_cpus plan.cpus) ∷ [])

-- the first values of the settings of the transmit board, by their numbers
abbrev pub first_transmit_settings : Plan → List ℕ
first_transmit_settings plan =
    map (λ tx. cpus_word tx.cpus) plan.tx ++ map (λ tx. queues_word tx.queues) plan.tx

-- ---- the same, setting by setting

-- the first value of a setting of the receive board, if there is such a setting
abbrev pub receive_value : Plan → ReceiveSetting → Option ℕ
receive_value plan (receive.Cpus q) =
    option_map (λ queue. cpus_word queue.mask) (slice_get plan.queues q)
receive_value plan (receive.Flows q) =
    option_map (λ queue. flows_word (rounded_up queue.flows) 0) (slice_get plan.queues q)
receive_value plan receive.SocketSize = Some (socket_size_word (rounded_up plan.sock))
receive_value plan receive.Online = Some (cpus_word (first_cpus plan.cpus))

-- the first value of a setting of the transmit board, if there is such a setting
abbrev pub transmit_value : Plan → TransmitSetting → Option ℕ
transmit_value plan (transmit.Cpus q) =
    option_map (λ tx. cpus_word tx.cpus) (slice_get plan.tx q)
transmit_value plan (transmit.Queues q) =
    option_map (λ tx. queues_word tx.queues) (slice_get plan.tx q)

-- The first values stand at the numbers of their settings.
pub record FirstValuesStand (plan : Plan) : Type 0 where
  pub receive : (s : ReceiveSetting) → IsReceiveSetting (length plan.queues) s
      → slice_get (first_receive_settings plan) (receive_number (length plan.queues) s)
      ≡ receive_value plan s
  pub transmit : (s : TransmitSetting) → IsTransmitSetting (length plan.tx) s
      → slice_get (first_transmit_settings plan) (transmit_number (length plan.tx) s)
      ≡ transmit_value plan s
