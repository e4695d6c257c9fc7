-- No two words have the same number: the number tells which word it is.
use Rattle.std.proofs.Common.{◌≡◌, ℕ, ◌+◌, ◌-◌, ◌*◌, ◌/◌, ◌%◌, ◌<◌, ◌==◌, nat_lt, true, false}
use Rattle.std.proofs.Common.{refl, sym, ap, ◌∙◌, arith, if◌then◌else◌}
use Rattle.std.proofs.lemmas.Bool.Decides.{nat_tests}
use Rattle.run_words.specs.Codes.{HintWordsApart, SettingsApart}
use Rattle.run_words.specs.Numbers.{IsHintWord, IsReceiveSetting, IsTransmitSetting}
use Rattle.run_words.specs.Numbers.{hint_number, receive_number, transmit_number}
use Rattle.run_words.specs.declared.hint_word.HintWord.{HintWord}
use Rattle.run_words.specs.declared.hint_word.HintWord.TheVariants as word
use Rattle.run_words.specs.declared.setting.ReceiveSetting.{ReceiveSetting}
use Rattle.run_words.specs.declared.setting.ReceiveSetting.TheVariants as receive
use Rattle.run_words.specs.declared.setting.TransmitSetting.{TransmitSetting}
use Rattle.run_words.specs.declared.setting.TransmitSetting.TheVariants as transmit

-- the word with a number
abbrev word_at : ℕ → HintWord
word_at n =
    if nat_lt n 65536 then word.Socket n else
    if nat_lt n 65664 then word.Redirection (n - 65536) else
    if nat_lt n 65696 then word.Stand (n - 65664) else
    if nat_lt n 69792 then word.Filter (n - 65696) else
    if n == 69792 then word.Done else
    if (n - 69793) % 2 == 0 then word.Queue ((n - 69793) / 2) else word.Steered ((n - 69793) / 2)

number_tells : (packets : ℕ) (w : HintWord) → IsHintWord packets w → word_at (hint_number w) ≡ w
number_tells packets (word.Socket e) lt =
    let a : nat_lt e 65536 ≡ true = grind (arith, nat_tests) in rw a refl
number_tells packets (word.Redirection e) lt =
    let a : nat_lt (65536 + e) 65536 ≡ false = grind (arith, nat_tests) in
    let b : nat_lt (65536 + e) 65664 ≡ true = grind (arith, nat_tests) in
    rw (a, b) (ap word.Redirection (omega arith))
number_tells packets (word.Stand e) lt =
    let a : nat_lt (65664 + e) 65536 ≡ false = grind (arith, nat_tests) in
    let b : nat_lt (65664 + e) 65664 ≡ false = grind (arith, nat_tests) in
    let c : nat_lt (65664 + e) 65696 ≡ true = grind (arith, nat_tests) in
    rw (a, b, c) (ap word.Stand (omega arith))
number_tells packets (word.Filter e) lt =
    let a : nat_lt (65696 + e) 65536 ≡ false = grind (arith, nat_tests) in
    let b : nat_lt (65696 + e) 65664 ≡ false = grind (arith, nat_tests) in
    let c : nat_lt (65696 + e) 65696 ≡ false = grind (arith, nat_tests) in
    let d : nat_lt (65696 + e) 69792 ≡ true = grind (arith, nat_tests) in
    rw (a, b, c, d) (ap word.Filter (omega arith))
number_tells packets word.Done lt = refl
number_tells packets (word.Queue e) lt =
    let a : nat_lt (69793 + 2 * e) 65536 ≡ false = grind (arith, nat_tests) in
    let b : nat_lt (69793 + 2 * e) 65664 ≡ false = grind (arith, nat_tests) in
    let c : nat_lt (69793 + 2 * e) 65696 ≡ false = grind (arith, nat_tests) in
    let d : nat_lt (69793 + 2 * e) 69792 ≡ false = grind (arith, nat_tests) in
    let f : ((69793 + 2 * e) == 69792) ≡ false = grind (arith, nat_tests) in
    let h : ((69793 + 2 * e - 69793) % 2 == 0) ≡ true = grind (arith, nat_tests) in
    rw (a, b, c, d, f, h) (ap word.Queue (omega arith))
number_tells packets (word.Steered e) lt =
    let a : nat_lt (69793 + 2 * e + 1) 65536 ≡ false = grind (arith, nat_tests) in
    let b : nat_lt (69793 + 2 * e + 1) 65664 ≡ false = grind (arith, nat_tests) in
    let c : nat_lt (69793 + 2 * e + 1) 65696 ≡ false = grind (arith, nat_tests) in
    let d : nat_lt (69793 + 2 * e + 1) 69792 ≡ false = grind (arith, nat_tests) in
    let f : ((69793 + 2 * e + 1) == 69792) ≡ false = grind (arith, nat_tests) in
    let h : ((69793 + 2 * e + 1 - 69793) % 2 == 0) ≡ false = grind (arith, nat_tests) in
    rw (a, b, c, d, f, h) (ap word.Steered (omega arith))

within_count : (packets : ℕ) (w : HintWord) → IsHintWord packets w
    → hint_number w < 69793 + 2 * packets
within_count packets (word.Socket e) lt = omega arith
within_count packets (word.Redirection e) lt = omega arith
within_count packets (word.Stand e) lt = omega arith
within_count packets (word.Filter e) lt = omega arith
within_count packets word.Done lt = omega arith
within_count packets (word.Queue e) lt = omega arith
within_count packets (word.Steered e) lt = omega arith

pub hint_words_apart : (packets : ℕ) → HintWordsApart packets
hint_words_apart packets =
    record {
      within = within_count packets;
      apart = λ v w is also same. (
          sym (number_tells packets v is) ∙ (ap word_at same ∙ number_tells packets w also));
    }

-- ---- settings

receive_apart : (queues : ℕ) (s t : ReceiveSetting) → IsReceiveSetting queues s
    → IsReceiveSetting queues t → receive_number queues s ≡ receive_number queues t → s ≡ t
receive_apart queues (receive.Cpus p) (receive.Cpus q) lt gt same = ap receive.Cpus same
receive_apart queues (receive.Cpus p) (receive.Flows q) lt gt same = absurd (omega arith)
receive_apart queues (receive.Cpus p) receive.SocketSize lt gt same = absurd (omega arith)
receive_apart queues (receive.Cpus p) receive.Online lt gt same = absurd (omega arith)
receive_apart queues (receive.Flows p) (receive.Cpus q) lt gt same = absurd (omega arith)
receive_apart queues (receive.Flows p) (receive.Flows q) lt gt same =
    ap receive.Flows (omega arith)
receive_apart queues (receive.Flows p) receive.SocketSize lt gt same = absurd (omega arith)
receive_apart queues (receive.Flows p) receive.Online lt gt same = absurd (omega arith)
receive_apart queues receive.SocketSize (receive.Cpus q) lt gt same = absurd (omega arith)
receive_apart queues receive.SocketSize (receive.Flows q) lt gt same = absurd (omega arith)
receive_apart queues receive.SocketSize receive.SocketSize lt gt same = refl
receive_apart queues receive.SocketSize receive.Online lt gt same = absurd (omega arith)
receive_apart queues receive.Online (receive.Cpus q) lt gt same = absurd (omega arith)
receive_apart queues receive.Online (receive.Flows q) lt gt same = absurd (omega arith)
receive_apart queues receive.Online receive.SocketSize lt gt same = absurd (omega arith)
receive_apart queues receive.Online receive.Online lt gt same = refl

transmit_apart : (count : ℕ) (s t : TransmitSetting) → IsTransmitSetting count s
    → IsTransmitSetting count t → transmit_number count s ≡ transmit_number count t → s ≡ t
transmit_apart count (transmit.Cpus p) (transmit.Cpus q) lt gt same = ap transmit.Cpus same
transmit_apart count (transmit.Cpus p) (transmit.Queues q) lt gt same = absurd (omega arith)
transmit_apart count (transmit.Queues p) (transmit.Cpus q) lt gt same = absurd (omega arith)
transmit_apart count (transmit.Queues p) (transmit.Queues q) lt gt same =
    ap transmit.Queues (omega arith)

pub settings_apart : (queues : ℕ) → SettingsApart queues
settings_apart queues =
    record { receive = receive_apart queues; transmit = transmit_apart queues }
