-- One try of a command: what it did at the boards and at the hint words, by its answer.
use Rattle.std.specs.Prelude.{◌≡◌, ℕ, ◌<◌, ◌++◌, List, [], ◌∷◌, Option, None, Some, length}
use Rattle.steer_base.specs.Commands.{refusal}
use Rattle.steer_base.specs.Sets.{has}
use Rattle.steer_base.specs.declared.command.Answer.{Answer}
use Rattle.steer_base.specs.declared.command.Answer.TheVariants as says
use Rattle.steer_base.specs.declared.command.Command.{Command}
use Rattle.steer_base.specs.declared.command.Command.TheVariants as give
use Rattle.steer_base.specs.declared.command.Refused.{Refused}
use Rattle.steer_base.specs.declared.cpu_mask.CpuMask.{CpuMask}
use Rattle.steer_base.specs.declared.limits.TheConstants.{MAX_SOCKET_SIZE}
use Rattle.hint_words.specs.declared.step.HintStep.{HintStep}
use Rattle.hint_words.specs.declared.step.HintStep.TheVariants.{Store}
use Rattle.hop_rule.specs.declared.sizes.BoardSizes.{BoardSizes}
use Rattle.board_api.specs.Seats.{BoardSeatView}
use Rattle.steer_model.specs.State.Setup.{Setup}
use Rattle.steer_model.specs.Steps.Commands.{affects, refused_answer}
use Rattle.run_words.specs.Numbers.{hint_number}
use Rattle.run_words.specs.Values.{place_word}
use Rattle.run_words.specs.declared.hint_word.HintWord.TheVariants as word
use Rattle.run_words.specs.declared.shared.Shared.{Shared}
use Rattle.run_controller.specs.Gated.{IsGated}
use Rattle.run_words.specs.HintViews.{HintView, after_step}
use Rattle.run_controller.specs.Expiries.{Expires}
use Rattle.run_controller.specs.Settings.{KnownSettings, receive_change, transmit_change}
use Rattle.run_controller.specs.Stages.{Stage}
use Rattle.run_controller.specs.declared.change.Change.{Change}
use Rattle.run_words.specs.declared.seats.Seats.{Seats}

-- ---- behind a gate

-- A try behind the gate of a board: all lanes that the command affects were looked at, and the
-- change was made if the answer is done.
abbrev pub TriesGated : Setup → BoardSizes → Command → Change → BoardSeatView → BoardSeatView
    → Answer → Type 0
TriesGated given about c m old new answer =
    (lanes : CpuMask) × ((lane : ℕ) → lane < 32 → has lanes lane ≡ affects given c lane)
    × IsGated about lanes m.number m.value old new answer

-- The newest first, these steps store 0 in the words of the socket flow table, one after another.
abbrev pub AreClears : List HintStep → Type 0
AreClears [] = Unit {0}
AreClears (d ∷ ds) = (d ≡ Store (hint_number (word.Socket (length ds))) 0) × AreClears ds

-- The words of all entries of the socket flow table were cleared.
abbrev pub ClearsSockets : HintView → HintView → Type 0
ClearsSockets old new =
    (stores : List HintStep) × AreClears stores × (length stores ≡ MAX_SOCKET_SIZE)
    × (new ≡ record old { steps = stores ++ old.steps })

-- The socket flow table was cleared if its size was set.
abbrev pub ClearsByAnswer : Answer → HintView → HintView → Type 0
ClearsByAnswer says.Done old new = ClearsSockets old new
ClearsByAnswer _ old new = new ≡ old

-- What a try at the receive board's gate does at the hint words.
abbrev pub HintsBehind : Command → Answer → HintView → HintView → Type 0
HintsBehind (give.Sock size) answer old new = ClearsByAnswer answer old new
HintsBehind _ answer old new = new ≡ old

-- A try at the receive board.
pub record TriesAtReceive (given : Setup) (about : BoardSizes) (c : Command) (m : Change)
    (answer : Answer) (old new : Seats) : Type 0 where
  pub gated : TriesGated given about c m old.rx new.rx answer
  pub hint : HintsBehind c answer old.hint new.hint
  pub tx : new.tx ≡ old.tx

-- A try at the transmit board.
pub record TriesAtTransmit (given : Setup) (about : BoardSizes) (c : Command) (m : Change)
    (answer : Answer) (old new : Seats) : Type 0 where
  pub gated : TriesGated given about c m old.tx new.tx answer
  pub hint : new.hint ≡ old.hint
  pub rx : new.rx ≡ old.rx

-- ---- without a gate

-- This value was stored in a word, and nothing else was done.
abbrev pub Stores : ℕ → ℕ → Seats → Seats → Type 0
Stores number value old new = new ≡ record old { hint = after_step (Store number value) old.hint }

-- The command needs no gate.
abbrev pub HasNoGate : Command → Type 0
HasNoGate (give.Reta entry q) = Unit {0}
HasNoGate (give.Stand app cpu) = Unit {0}
HasNoGate give.Expire = Unit {0}
HasNoGate _ = ⊥

-- A command without a gate was done: an entry of the redirection table or the processor of an
-- application was stored in its word, or the filters that may go were cleared.
abbrev pub DoesAtOnce : Shared → Command → Answer → Seats → Seats → Type 0
DoesAtOnce shared (give.Reta entry q) answer old new =
    (answer ≡ says.Done) × Stores (hint_number (word.Redirection entry)) (place_word q) old new
DoesAtOnce shared (give.Stand app cpu) answer old new =
    (answer ≡ says.Done) × Stores (hint_number (word.Stand app)) (place_word cpu) old new
DoesAtOnce shared give.Expire answer old new =
    (count : ℕ) × (answer ≡ says.Expired count) × (new.tx ≡ old.tx)
    × Expires shared old.rx new.rx old.hint new.hint count
DoesAtOnce shared _ answer old new = ⊥

-- ---- a try

-- A try by the change that the command makes at the receive board or at the transmit board, if it
-- makes one.
abbrev pub TriesBy : Stage → Command → Option Change → Option Change → Answer → Seats → Seats
    → Type 0
TriesBy s c (Some m) other answer old new =
    TriesAtReceive s.shared.given s.rx.sizes c m answer old new
TriesBy s c None (Some m) answer old new =
    TriesAtTransmit s.shared.given s.tx.sizes c m answer old new
TriesBy s c None None answer old new = DoesAtOnce s.shared c answer old new

-- A try of a command that may be given, by what is known of the settings.
abbrev pub Tries : Stage → KnownSettings → Command → Answer → Seats → Seats → Type 0
Tries s k c answer old new =
    TriesBy s c (receive_change (length s.shared.given.homes) k c)
    (transmit_change s.shared.given.txs c) answer old new

-- A command that may not be given is answered by the reason, and nothing is done.
abbrev pub TriesUnless : Stage → KnownSettings → Command → Option Refused → Answer → Seats → Seats
    → Type 0
TriesUnless s k c (Some why) answer old new = (answer ≡ refused_answer why) × (new ≡ old)
TriesUnless s k c None answer old new = Tries s k c answer old new

-- One try of a command: it is refused by the settings that are known, or tried.
abbrev pub Attempts : Stage → KnownSettings → Command → Answer → Seats → Seats → Type 0
Attempts s k c answer old new =
    TriesUnless s k c
    (refusal k.settings.online c s.shared.given.homes k.settings.stands) answer old new
