-- What a call over files and sinks in memory comes to.
use Rattle.std.specs.Prelude.{◌≡◌, ◌⊎◌, ℕ, List, [], Option, Some}
use Rattle.outside_io.specs.MemoryDesk.{asked_on, memory_desk_faults}
use Rattle.outside_io.specs.MemorySink.{memory_sink_faults, unsent_by, written_to}
use Rattle.replay.specs.Meanings.{Meaning}
use Rattle.steer_top.specs.Calls.{IsAnswered}
use Rattle.steer_top.specs.Endings.{Course, Told, course_of, line_of_refusal, status_of_refusal}
use Rattle.steer_top.specs.Files.{Accepted, Files, Refused}
use Rattle.steer_top.specs.Outcomes.{Asks, Writes, roles_of}
use Rattle.steer_top.specs.Words.{CommandWords}
use Rattle.steer_top.specs.declared.ending.Refusal.{Refusal}
use Rattle.steer_top.specs.declared.in_memory.InMemory.{InMemory}

-- What a call met over files with these bytes by name: counts of faults that began at 0, and a sink
-- of the text that was empty.
abbrev pub course_in_memory : (List ℕ → Option (List ℕ)) → List Meaning → InMemory → Course
course_in_memory held taps called =
    course_of held taps (asked_on called.desk) 0 (memory_desk_faults called.desk) 0
    (memory_sink_faults called.out) (Some []) (Some (written_to called.out))

-- The sink of the line, which was empty, took this line, or failed and took a prefix of it.
abbrev pub HasLine : InMemory → List ℕ → Type 0
HasLine called line =
    Told 0 (memory_sink_faults called.err) (Some []) (Some (written_to called.err)) line

-- No call of the desk and of the two sinks failed.
pub record NoneFailed (called : InMemory) : Type 0 where
  pub desk : memory_desk_faults called.desk ≡ 0
  pub out : memory_sink_faults called.out ≡ 0
  pub err : memory_sink_faults called.err ≡ 0

-- What a call came to whose words ask for this, over files with these bytes by name, and with taps
-- that mean this.
pub record IsCalled (asked : Option CommandWords) (held : List ℕ → Option (List ℕ))
    (taps : List Meaning) (called : InMemory) : Type 0 where
  -- all that is promised of a call
  pub answered : IsAnswered asked (course_in_memory held taps called) (HasLine called) called.status
  -- with 0 the sink of the text has a text that the command may write of its files, sent on whole,
  -- and there is no line
  pub text : called.status ≡ 0 → (command : CommandWords) (files : Files)
      → Asks held asked command files → Writes taps command files (written_to called.out)
  pub sent : called.status ≡ 0 → unsent_by called.out ≡ []
  pub quiet : called.status ≡ 0 → written_to called.err ≡ []
  -- if nothing failed and memory did not run out, accepted files give 0, and refused ones the
  -- status and the line of their reason and no text
  pub complete : NoneFailed called → (command : CommandWords) (files : Files)
      → Asks held asked command files → Accepted (roles_of command) files
      → (called.status ≡ 0) ⊎ (called.status ≡ 7)
  pub refused : NoneFailed called → (command : CommandWords) (files : Files) (reason : Refusal)
      → Asks held asked command files → Refused (roles_of command) files reason
      → ((called.status ≡ status_of_refusal reason)
      × (written_to called.err ≡ line_of_refusal reason) × (written_to called.out ≡ []))
      ⊎ (called.status ≡ 7)
