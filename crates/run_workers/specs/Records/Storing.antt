-- What each store of a seat at the hint words was for.
use Rattle.std.specs.Prelude.{◌≡◌, ◌⊎◌, ℕ, ◌+◌, Bool, List, [], ◌∷◌, ◌++◌, Some}
use Rattle.std.specs.List.{Contains}
use Rattle.linearization.specs.Orders.{StepBy, step_by}
use Rattle.linearization.specs.Seats.{SeatView}
use Rattle.steer_base.specs.Arrivals.{filter_place}
use Rattle.steer_base.specs.declared.filter.Filter.{Filter}
use Rattle.steer_base.specs.declared.put.Put.TheVariants.{At}
use Rattle.history.specs.declared.arrival.Arrival.{Arrival}
use Rattle.hint_words.specs.Steps.{value_written}
use Rattle.history.specs.declared.sock_write.SockWrite.{SockWrite}
use Rattle.hint_words.specs.declared.step.HintStep.{HintStep}
use Rattle.hop_rule.specs.Moments.{nth_step}
use Rattle.hop_rule.specs.declared.sizes.BoardSizes.{BoardSizes}
use Rattle.board_api.specs.Seats.{BoardSeatView}
use Rattle.hop_delivery.specs.Orders.Turns.{Turn}
use Rattle.steer_model.specs.State.Setup.{Setup, packet_hash}
use Rattle.steer_model.specs.Steps.Pollers.{filter_for}
use Rattle.run_words.specs.Numbers.{hint_number}
use Rattle.run_words.specs.Values.{filter_word, place_word}
use Rattle.run_words.specs.declared.hint_word.HintWord.TheVariants as hint
use Rattle.run_words.specs.declared.hint_word.TheConstants.{FILTER_WORDS}
use Rattle.run_words.specs.declared.values.TheConstants.{STEERED}
use Rattle.run_workers.specs.Hands.Servers.{RepliesOrKeeps, TakesOrLeaves}
use Rattle.run_workers.specs.Records.Words.{FoundBefore, Mark, Note}
use Rattle.run_workers.specs.declared.server.Server.{Server}

-- The value is the filter that a turn asks for, at the place of its packet's hash; the packet was
-- accepted.
pub record IsFilterOf (given : Setup) (filters : ℕ) (u : Turn) (word value : ℕ) : Type 0 where
  pub place : ℕ
  pub filter : Filter
  pub position : ℕ
  pub accepted : u.answer ≡ At position
  pub there : filter_place filters (packet_hash given u.chosen.id) ≡ Some place
  pub asked : filter_for given.homes filters u.chosen.choice position ≡ Some filter
  pub word_is : word ≡ FILTER_WORDS + place
  pub value_is : value ≡ filter_word filter

-- The value marks the packet, with the step that the mark has.
abbrev pub IsMarkOf : Mark → (n word value : ℕ) → Type 0
IsMarkOf mark n word value =
    (n ≡ mark.number) × (word ≡ hint_number (hint.Steered mark.packet)) × (value ≡ STEERED)

-- The value is the processor that a write notes, at its entry.
abbrev pub IsWriteOf : SockWrite → ℕ → ℕ → Type 0
IsWriteOf write word value = (word ≡ write.entry) × (value ≡ place_word write.cpu)

-- With its step n a seat wrote this value at this word for one of these turns, marks or notes. It
-- set the filter of a turn after it had found the turn's packet announced, and made a write after
-- it had found the write's packet marked as steered.
abbrev pub IsFor : Setup → (filters : ℕ) → List (StepBy Turn) → List (StepBy Mark)
    → List (StepBy Note) → List HintStep → (n word value : ℕ) → Type 0
IsFor given filters turns marks noted hints n word value =
    ((e : StepBy Turn) × Contains turns e × IsFilterOf given filters e.step word value
    × FoundBefore hints (hint_number (hint.Queue e.step.chosen.id)) n)
    ⊎ ((e : StepBy Mark) × Contains marks e × IsMarkOf e.step n word value)
    ⊎ ((e : StepBy Note) × Contains noted e × IsWriteOf e.step.write word value
    × FoundBefore hints (hint_number (hint.Steered e.step.packet)) n)

-- Each step that wrote was for one of these turns, marks or notes.
abbrev pub StoresAreFor : Setup → ℕ → List (StepBy Turn) → List (StepBy Mark) → List (StepBy Note)
    → List HintStep → Type 0
StoresAreFor given filters turns marks noted hints =
    (n word value : ℕ) (d : HintStep) → nth_step hints n ≡ Some d
    → value_written word d ≡ Some value
    → IsFor given filters turns marks noted hints n word value

-- The notes of a seat are as before where an application made no write, and else have one more: of
-- its write, for the packet that it took in hand.
abbrev pub NotesGrow : Server → Server → List (StepBy Note) → List (StepBy Note) → Type 0
NotesGrow s t noted more =
    ((more ≡ noted) × (t.writes.items ≡ s.writes.items))
    ⊎ ((n : Note) × (t.hand ≡ Some n.packet) × (t.writes.items ≡ s.writes.items ++ n.write ∷ [])
    × (more ≡ step_by s.app n ∷ noted))

-- A taking stores what it notes, and a reply stores nothing. `more` has the note of this taking, if
-- it made one, and those before.
pub record ApplicationsStoreWrites : Type 0 where
  pub takes : (about : BoardSizes) (given : Setup) (filters : ℕ) (s t : Server) (took : Bool)
      (turns : List (StepBy Turn)) (marks : List (StepBy Mark)) (noted more : List (StepBy Note))
      (old new : BoardSeatView) (hint_old hint_new : SeatView HintStep)
      → TakesOrLeaves about given s t old new hint_old hint_new took
      → NotesGrow s t noted more
      → StoresAreFor given filters turns marks noted hint_old.steps
      → StoresAreFor given filters turns marks more hint_new.steps
  pub replies : (given : Setup) (filters : ℕ) (late : List Arrival) (s t : Server) (sent : Bool)
      (turns : List (StepBy Turn)) (marks : List (StepBy Mark)) (noted : List (StepBy Note))
      (old new : BoardSeatView) (hint_old hint_new : SeatView HintStep)
      → RepliesOrKeeps given late s t old new hint_old hint_new sent
      → StoresAreFor given filters turns marks noted hint_old.steps
      → StoresAreFor given filters turns marks noted hint_new.steps
