-- The numbers of the words that threads share and of the settings of their boards.
use Rattle.std.specs.Prelude.{ℕ, ◌+◌, ◌*◌, ◌<◌}
use Rattle.steer_base.specs.declared.limits.TheConstants.{MAX_SOCKET_SIZE}
use Rattle.rss_table.specs.declared.reta.TheConstants.{RETA_ENTRIES}
use Rattle.plan_reader.specs.declared.limits.TheConstants.{MAX_PLAN_FILTERS}
use Rattle.run_words.specs.declared.hint_word.HintWord.{HintWord}
use Rattle.run_words.specs.declared.hint_word.HintWord.TheVariants as word
use Rattle.run_words.specs.declared.hint_word.TheConstants.{DONE_WORD, FILTER_WORDS, PACKET_WORDS}
use Rattle.run_words.specs.declared.hint_word.TheConstants.{REDIRECTION_WORDS, STAND_WORDS}
use Rattle.run_words.specs.declared.setting.ReceiveSetting.{ReceiveSetting}
use Rattle.run_words.specs.declared.setting.ReceiveSetting.TheVariants as receive
use Rattle.run_words.specs.declared.setting.TransmitSetting.{TransmitSetting}
use Rattle.run_words.specs.declared.setting.TransmitSetting.TheVariants as transmit

-- ---- the words beside the boards

-- the number of a word: the kinds follow one another
abbrev pub hint_number : HintWord → ℕ
hint_number (word.Socket entry) = entry
hint_number (word.Redirection entry) = REDIRECTION_WORDS + entry
hint_number (word.Stand app) = STAND_WORDS + app
hint_number (word.Filter entry) = FILTER_WORDS + entry
hint_number word.Done = DONE_WORD
hint_number (word.Queue id) = PACKET_WORDS + 2 * id
hint_number (word.Steered id) = PACKET_WORDS + 2 * id + 1

-- There is such a word, for so many packets.
abbrev pub IsHintWord : ℕ → HintWord → Type 0
IsHintWord packets (word.Socket entry) = entry < MAX_SOCKET_SIZE
IsHintWord packets (word.Redirection entry) = entry < RETA_ENTRIES
IsHintWord packets (word.Stand app) = app < 32
IsHintWord packets (word.Filter entry) = entry < MAX_PLAN_FILTERS
IsHintWord packets word.Done = Unit {0}
IsHintWord packets (word.Queue id) = id < packets
IsHintWord packets (word.Steered id) = id < packets

-- the number of words for so many packets
abbrev pub word_count : ℕ → ℕ
word_count packets = PACKET_WORDS + 2 * packets

-- ---- the settings of the boards

-- the number of a setting of the receive board, for so many receive queues
abbrev pub receive_number : ℕ → ReceiveSetting → ℕ
receive_number queues (receive.Cpus q) = q
receive_number queues (receive.Flows q) = queues + q
receive_number queues receive.SocketSize = 2 * queues
receive_number queues receive.Online = 2 * queues + 1

-- There is such a setting of the receive board.
abbrev pub IsReceiveSetting : ℕ → ReceiveSetting → Type 0
IsReceiveSetting queues (receive.Cpus q) = q < queues
IsReceiveSetting queues (receive.Flows q) = q < queues
IsReceiveSetting queues receive.SocketSize = Unit {0}
IsReceiveSetting queues receive.Online = Unit {0}

-- the number of a setting of the transmit board, for so many transmit queues
abbrev pub transmit_number : ℕ → TransmitSetting → ℕ
transmit_number count (transmit.Cpus tx) = tx
transmit_number count (transmit.Queues tx) = count + tx

-- There is such a setting of the transmit board.
abbrev pub IsTransmitSetting : ℕ → TransmitSetting → Type 0
IsTransmitSetting count (transmit.Cpus tx) = tx < count
IsTransmitSetting count (transmit.Queues tx) = tx < count
