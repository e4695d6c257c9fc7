-- Laws of the words: no two are at one number, a coded value reads back, and only coded values are
-- read.
use Rattle.std.specs.Prelude.{◌≡◌, ℕ, ◌<◌, ◌≤◌, ◌^◌, true, Some}
use Rattle.steer_base.specs.declared.cpu_mask.CpuMask.{CpuMask}
use Rattle.steer_base.specs.declared.filter.Filter.{Filter}
use Rattle.steer_base.specs.declared.limits.TheConstants.{MAX_FLOW_COUNT, MAX_SOCKET_SIZE}
use Rattle.run_words.specs.Numbers.{IsHintWord, IsReceiveSetting, IsTransmitSetting}
use Rattle.run_words.specs.Numbers.{hint_number, receive_number, transmit_number, word_count}
use Rattle.run_words.specs.Values.{cpus_in, cpus_word, filter_in, filter_word, flows_in}
use Rattle.run_words.specs.Values.{flows_word, is_done, place_in, place_word, queues_in}
use Rattle.run_words.specs.Values.{queues_word, socket_size_in, socket_size_word}
use Rattle.run_words.specs.declared.hint_word.HintWord.{HintWord}
use Rattle.run_words.specs.declared.setting.ReceiveSetting.{ReceiveSetting}
use Rattle.run_words.specs.declared.setting.TransmitSetting.{TransmitSetting}
use Rattle.run_words.specs.declared.values.TheConstants.{DONE}

-- Each word has a number within the count, and no two have the same.
pub record HintWordsApart (packets : ℕ) : Type 0 where
  pub within : (w : HintWord) → IsHintWord packets w → hint_number w < word_count packets
  pub apart : (v w : HintWord) → IsHintWord packets v → IsHintWord packets w
      → hint_number v ≡ hint_number w → v ≡ w

-- No two settings of a board have the same number.
pub record SettingsApart (queues : ℕ) : Type 0 where
  pub receive : (s t : ReceiveSetting) → IsReceiveSetting queues s → IsReceiveSetting queues t
      → receive_number queues s ≡ receive_number queues t → s ≡ t
  pub transmit : (s t : TransmitSetting) → IsTransmitSetting queues s → IsTransmitSetting queues t
      → transmit_number queues s ≡ transmit_number queues t → s ≡ t

-- The word of a value within its range means that value.
pub record ReadBack : Type 0 where
  pub place : (count place : ℕ) → place < count → place_in (place_word place) count ≡ Some place
  pub filter : (queues cpus : ℕ) (f : Filter) → queues ≤ 16 → cpus ≤ 32 → f.queue < queues
      → f.cpu < cpus → f.mark < 2 ^ 32 → filter_in (filter_word f) queues cpus ≡ Some f
  pub cpus : (cpus : ℕ) (mask : CpuMask) → mask.0 < 2 ^ cpus → cpus_in (cpus_word mask) cpus ≡ mask
  pub queues : (count set : ℕ) → set < 2 ^ count → queues_in (queues_word set) count ≡ set
  pub flows : (count generation : ℕ) → count ≤ MAX_FLOW_COUNT
      → flows_in (flows_word count generation) ≡ count
  pub socket : (size : ℕ) → size ≤ MAX_SOCKET_SIZE
      → socket_size_in (socket_size_word size) ≡ size
  pub done : is_done DONE ≡ true

-- A word means a processor, a queue or a filter only if it is the word of it.
pub record OnlyCoded : Type 0 where
  pub place : (word count place : ℕ) → place_in word count ≡ Some place → word ≡ place_word place
  pub filter : (word queues cpus : ℕ) (f : Filter) → filter_in word queues cpus ≡ Some f
      → word ≡ filter_word f
