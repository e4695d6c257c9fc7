-- What of a call is determined by its words and by the bytes of its files.
use Rattle.std.specs.Prelude.{◌≡◌, ◌≢◌, ◌⊎◌, ℕ, List, [], ◌∷◌, ⊤, Option}
use Rattle.std.specs.Io.KnownBytes.{Appends}
use Rattle.history.specs.declared.packet_line.PacketLine.{PacketLine}
use Rattle.outside_io.specs.Sink.{AppendsSome}
use Rattle.replay.specs.Meanings.{Meaning}
use Rattle.steer_top.specs.Calls.{IsAnswered}
use Rattle.steer_top.specs.Endings.{Course, Told}
use Rattle.steer_top.specs.Files.{Files}
use Rattle.steer_top.specs.Outcomes.{Asks, Writes}
use Rattle.steer_top.specs.Words.{CommandWords}
use Rattle.steer_top.specs.Words.CommandWords.{Check, Gen, Hash, Place, Replay, Run}

-- Two lists of taps mean the same: they are as many, and each gives of all lines the same text.
abbrev pub MeanTheSame : List Meaning → List Meaning → Type 0
MeanTheSame [] [] = ⊤
MeanTheSame (tap ∷ taps) (other ∷ others) =
    ((lines : List PacketLine) → tap lines ≡ other lines) × MeanTheSame taps others
MeanTheSame _ _ = ⊥

-- For these taps the text of a command is one of its words and files. A replay shows its lines to
-- the taps, so they have to mean the same; the others show them none. The text of `run` is left
-- out: its history is chosen by the threads.
abbrev pub HasOneText : CommandWords → List Meaning → List Meaning → Type 0
HasOneText (Hash words) taps others = ⊤
HasOneText (Replay words) taps others = MeanTheSame taps others
HasOneText (Run words) taps others = ⊥
HasOneText (Gen words) taps others = ⊤
HasOneText (Check words) taps others = ⊤
HasOneText (Place words) taps others = ⊤

-- What the sink of the line met in a call: its count of faults and the bytes that it had taken,
-- before and after.
pub record ErrCourse : Type 0 where
  pub faults_before : ℕ
  pub faults_after : ℕ
  pub written_before : Option (List ℕ)
  pub written_after : Option (List ℕ)

-- The sink of the line took this line, or failed and took a prefix of it.
abbrev pub TookLine : ErrCourse → List ℕ → Type 0
TookLine err line =
    Told err.faults_before err.faults_after err.written_before err.written_after line

-- A call as it was answered.
pub record Call : Type 0 where
  pub asked : Option CommandWords
  pub course : Course
  pub err : ErrCourse
  pub status : ℕ
  pub answered : IsAnswered asked course (TookLine err) status

-- The words of a call ask for this command, and its desk told these bytes of all its files.
abbrev pub AsksFor : CommandWords → Files → Call → Type 0
AsksFor command files call = Asks call.course.held call.asked command files

-- A status that nothing but words and bytes decide: the desk and the sink of the text did not fail,
-- and memory did not run out.
pub record IsOfBytes (status : ℕ) : Type 0 where
  pub read : status ≢ 5
  pub wrote : status ≢ 6
  pub had_memory : status ≢ 7

-- The sink of the text took all of a text if the call was done, and a prefix of it if it failed.
pub record TookText (text : List ℕ) (call : Call) : Type 0 where
  pub whole : call.status ≡ 0
      → Appends call.course.written_before call.course.written_after text
  pub part : call.status ≡ 6
      → AppendsSome call.course.written_before call.course.written_after text

-- A call wrote a text or a part of one: it was done, or the sink of the text failed.
abbrev pub Wrote : Call → Type 0
Wrote call = (call.status ≡ 0) ⊎ (call.status ≡ 6)

-- What a call comes to is a function of its words, of the bytes of its files, and for a replay of
-- what the taps mean. Of `run` the status and the line are too, but not the text. A fault of the
-- desk or of a sink and want of memory are no function of these, and so is where they stop a call:
-- a call that they stop has a status of its own, 5, 6 or 7.
pub record TextsAreFunctions : Type 0 where
  -- a command but `run` may write one text of the same words and bytes
  pub text : (command : CommandWords) (files : Files) (taps others : List Meaning)
      → HasOneText command taps others → (text other : List ℕ)
      → Writes taps command files text → Writes others command files other → text ≡ other
  -- two calls of the same words and bytes that write, write from one text
  pub wrote : (command : CommandWords) (files : Files) (first second : Call)
      → HasOneText command first.course.taps second.course.taps
      → AsksFor command files first → AsksFor command files second → Wrote first → Wrote second
      → (text : List ℕ) × TookText text first × TookText text second
  -- two calls of the same words and bytes, of any command, that nothing else decides, have one
  -- status and one line
  pub status : (command : CommandWords) (files : Files) (first second : Call)
      → AsksFor command files first → AsksFor command files second
      → IsOfBytes first.status → IsOfBytes second.status → first.status ≡ second.status
  pub line : (command : CommandWords) (files : Files) (first second : Call)
      → AsksFor command files first → AsksFor command files second
      → IsOfBytes first.status → IsOfBytes second.status
      → (line : List ℕ) × TookLine first.err line × TookLine second.err line
