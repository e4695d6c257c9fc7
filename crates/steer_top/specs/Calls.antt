-- What is promised of a call, whichever commands it serves.
use Rattle.std.specs.Prelude.{◌≡◌, ◌≢◌, ◌⊎◌, ℕ, List, Option, None}
use Rattle.std.specs.Io.KnownBytes.{Appends, Keeps}
use Rattle.outside_io.specs.Sink.{AppendsSome}
use Rattle.replay.specs.Meanings.{Meaning}
use Rattle.steer_top.specs.Endings.{Course, DeskFailed, Ends, IsRefusal, IsUnread, OutFailed, Told}
use Rattle.steer_top.specs.Endings.{course_of, line_of, line_of_refusal, line_of_status, status_of}
use Rattle.steer_top.specs.Endings.{status_of_refusal}
use Rattle.steer_top.specs.Files.{Accepted, Files, Refused}
use Rattle.steer_top.specs.Headlines.{TookHeadline}
use Rattle.steer_top.specs.Outcomes.{Asks, Writes, roles_of}
use Rattle.steer_top.specs.Words.{CommandWords}
use Rattle.steer_top.specs.declared.ending.Ending.{Ending}
use Rattle.steer_top.specs.declared.ending.Refusal.{Refusal}

-- A sink took this line, or its count of faults rose and it took a prefix of the line.
abbrev pub TakesLine : {E : Type 0} → (E → ℕ) → (E → Option (List ℕ)) → E → E → List ℕ → Type 0
TakesLine faults written old new line = Told (faults old) (faults new) (written old) (written new)
    line

-- The course of a call, by the members of its desk and of the sink of its text.
abbrev pub course
    : {D K : Type 0} → (D → List ℕ → Option (List ℕ)) → (D → Option (List ℕ)) → (D → ℕ) → D → D
    → (K → ℕ) → (K → Option (List ℕ)) → K → K → List Meaning → Course
course held asked desk_faults desk desk' faults written out out' taps =
    course_of (held desk) taps (asked desk') (desk_faults desk) (desk_faults desk') (faults out)
    (faults out') (written out) (written out')

-- A call ended somehow: the status is that of the ending, all is true that its course makes true of
-- it, and its line was taken.
abbrev pub EndsCall : ℕ → Option CommandWords → Course → (List ℕ → Type 0) → Type 0
EndsCall status asked course tells =
    (ending : Ending) × (status ≡ status_of ending) × Ends ending asked course
    × tells (line_of ending)

-- A call whose words ask for a command that it serves, or for none, is answered with this status.
-- Where a field speaks of files, these are the bytes that the desk told.
pub record IsAnswered (asked : Option CommandWords) (course : Course) (tells : List ℕ → Type 0)
    (status : ℕ) : Type 0 where
  -- 2 exactly where the words are no command
  pub usage : status ≡ 2 → asked ≡ None
  pub no_command : asked ≡ None → status ≡ 2
  -- a status of refusals is that of a reason for which the bytes of the files are refused
  pub refuses : IsRefusal status → (command : CommandWords) (files : Files)
      → Asks course.held asked command files
      → (reason : Refusal) × Refused (roles_of command) files reason
      × (status ≡ status_of_refusal reason)
  -- where the bytes of the files are refused and the desk does not fail, the status is that of the
  -- reason, unless memory runs out
  pub refused : (command : CommandWords) (files : Files) (reason : Refusal)
      → Asks course.held asked command files → Refused (roles_of command) files reason
      → (DeskFailed course → ⊥) → (status ≡ status_of_refusal reason) ⊎ (status ≡ 7)
  -- with 5 the desk failed: the file that it was asked for last was not read, and those before it
  -- are accepted
  pub read_fault : status ≡ 5 → DeskFailed course
  pub unread : status ≡ 5 → (command : CommandWords) (files : Files)
      → Asks course.held asked command files → IsUnread command files course.asked
  -- with 6 the sink of the text failed
  pub write_fault : status ≡ 6 → OutFailed course
  -- where the files are accepted and nothing fails, the status is 0, unless memory runs out
  pub complete : (command : CommandWords) (files : Files) → Asks course.held asked command files
      → Accepted (roles_of command) files → (DeskFailed course → ⊥) → (OutFailed course → ⊥)
      → (status ≡ 0) ⊎ (status ≡ 7)
  -- with 0 the files are accepted, and the sink took a whole text of the command, by what the taps
  -- mean; with 6 it took a prefix of one, else nothing
  pub accepted : status ≡ 0 → (command : CommandWords) (files : Files)
      → Asks course.held asked command files → Accepted (roles_of command) files
  pub text : status ≡ 0 → (command : CommandWords) (files : Files)
      → Asks course.held asked command files
      → (bytes : List ℕ) × Writes course.taps command files bytes
      × Appends course.written_before course.written_after bytes
  pub part : status ≡ 6 → (command : CommandWords) (files : Files)
      → Asks course.held asked command files
      → (bytes : List ℕ) × Writes course.taps command files bytes
      × AppendsSome course.written_before course.written_after bytes
  pub nothing : status ≢ 0 → status ≢ 6 → Keeps course.written_before course.written_after
  -- with 0 the text has the headline of its command
  pub headline : status ≡ 0 → (command : CommandWords) (files : Files)
      → Asks course.held asked command files
      → TookHeadline command files course.written_before course.written_after
  -- the line of the status, or that of the reason of a refusal
  pub line : (IsRefusal status → ⊥) → tells (line_of_status status)
  pub refusal_line : IsRefusal status → (command : CommandWords) (files : Files)
      (reason : Refusal) → Asks course.held asked command files
      → Refused (roles_of command) files reason → tells (line_of_refusal reason)
  -- all of it in one, also where a desk or a sink tells nothing
  pub ends : EndsCall status asked course tells
