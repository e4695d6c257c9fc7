-- How a command ends: with which status and which line, and what is true then.
use Rattle.std.specs.Prelude.{◌≡◌, ◌≢◌, ◌≤◌, ◌<◌, ◌⊎◌, ℕ, List, [], ◌∷◌, ◌++◌, length, codes}
use Rattle.std.specs.Prelude.{decimal, ⊤, Option, Some, None, IfSome, ◌==◌, if◌then◌else◌}
use Rattle.std.specs.Io.KnownBytes.{Keeps, Appends, IsAtEnd}
use Rattle.capture_stream.specs.declared.fault.StreamFault.{StreamFault}
use Rattle.capture_stream.specs.declared.fault.StreamFault.TheVariants as stream
use Rattle.outside_io.specs.Counts.{Rose}
use Rattle.outside_io.specs.Sink.{AppendsSome}
use Rattle.report.specs.Numbers.{hex8_of}
use Rattle.pcap_reader.specs.declared.fault.CaptureFault.{CaptureFault}
use Rattle.pcap_reader.specs.declared.fault.CaptureFault.TheVariants as fault
use Rattle.pcapng_reader.specs.declared.fault.NgFault.{NgFault}
use Rattle.pcapng_reader.specs.declared.fault.NgFault.TheVariants as ng
use Rattle.plan_reader.specs.declared.plan_fault.PlanFault.{PlanFault}
use Rattle.plan_reader.specs.declared.plan_fault.PlanFault.TheVariants as plan
use Rattle.replay.specs.Meanings.{Meaning}
use Rattle.steer_top.specs.Files.{Files, Accepted, IsBad, IsGood, IsNot, Refused, limit_of}
use Rattle.steer_top.specs.Outcomes.{Writes, name_of, roles_of, file_bytes}
use Rattle.steer_top.specs.Words.{CommandWords, PlanWords}
use Rattle.steer_top.specs.declared.ending.Role.{Role}
use Rattle.steer_top.specs.declared.ending.Role.TheVariants as role
use Rattle.steer_top.specs.declared.ending.Refusal.{Refusal}
use Rattle.steer_top.specs.declared.ending.Refusal.TheVariants as refusal
use Rattle.steer_top.specs.declared.ending.Ending.{Ending}
use Rattle.steer_top.specs.declared.ending.Ending.TheVariants as ending

-- How a command ends whose file has a fault: refused for the reason, or out of memory if the fault
-- is that, which is no fault of the bytes.
abbrev pub EndsAs : {F : Type 0} → F → F → Refusal → Ending → Type 0
EndsAs fault memory reason e =
    ((fault ≡ memory) × (e ≡ ending.OutOfMemory))
    ⊎ ((fault ≢ memory) × (e ≡ ending.Refuses reason))

-- How a command ends that could not read its capture, for this reason.
abbrev pub ending_of_stream : StreamFault → Ending
ending_of_stream stream.Unread = ending.ReadFault
ending_of_stream stream.TooLong = ending.Refuses (refusal.TooLong role.Capture)
ending_of_stream stream.OutOfMemory = ending.OutOfMemory
ending_of_stream (stream.Classic f) = ending.Refuses (refusal.Capture f)
ending_of_stream (stream.Ng f) = ending.Refuses (refusal.Pcapng f)

-- The status of a refusal.
abbrev pub status_of_refusal : Refusal → ℕ
status_of_refusal (refusal.Plan f) = 3
status_of_refusal (refusal.Rules f) = 3
status_of_refusal (refusal.Capture f) = 4
status_of_refusal (refusal.Pcapng f) = 4
status_of_refusal (refusal.TooLong r) = 8

-- A number is a status of refusals.
abbrev pub IsRefusal : ℕ → Type 0
IsRefusal status = (status ≡ 3) ⊎ ((status ≡ 4) ⊎ (status ≡ 8))

-- The status of an ending.
abbrev pub status_of : Ending → ℕ
status_of ending.Done = 0
status_of ending.Usage = 2
status_of (ending.Refuses reason) = status_of_refusal reason
status_of ending.ReadFault = 5
status_of ending.WriteFault = 6
status_of ending.OutOfMemory = 7

-- The line for words that are no command.
abbrev pub usage_line : List ℕ
usage_line =
    codes "usage: steer hash CAPTURE [QUEUES [KINDS]] | replay PLAN CAPTURE | run PLAN CAPTURE | "
    ++ codes "gen SEED PACKETS FLOWS | check PLAN CAPTURE REPORT | place RULES CAPTURE\n"

-- The line that names a fault of a text in JSON, which begins with what the text is called.
abbrev pub line_of_plan_fault : List ℕ → PlanFault → List ℕ
line_of_plan_fault word plan.NotJson = word ++ codes ": not json\n"
line_of_plan_fault word (plan.Missing path) = word ++ (codes ": missing " ++ (path ++ codes "\n"))
line_of_plan_fault word (plan.WrongKind path) =
    word ++ (codes ": wrong kind " ++ (path ++ codes "\n"))
line_of_plan_fault word (plan.Range path value) =
    word ++ (codes ": range " ++ (path ++ (codes " " ++ (decimal value ++ codes "\n"))))
line_of_plan_fault word (plan.UnknownKey path) =
    word ++ (codes ": unknown key " ++ (path ++ codes "\n"))
line_of_plan_fault word (plan.TooLong steps) =
    word ++ (codes ": too long " ++ (decimal steps ++ codes "\n"))
line_of_plan_fault word plan.OutOfMemory = codes "out of memory\n"

-- The line that names a fault of a capture.
abbrev pub line_of_fault : CaptureFault → List ℕ
line_of_fault (fault.ShortHeader len) =
    codes "capture: short header " ++ (decimal len ++ codes "\n")
line_of_fault (fault.BadMagic magic) =
    codes "capture: bad magic " ++ (hex8_of magic ++ codes "\n")
line_of_fault (fault.BadVersion major minor) =
    codes "capture: bad version " ++ (decimal major ++ (codes " " ++ (decimal minor ++ codes "\n")))
line_of_fault (fault.BadLink link) = codes "capture: bad link " ++ (decimal link ++ codes "\n")
line_of_fault (fault.RecordTooLong at len) =
    codes "capture: packet " ++ (decimal at ++ (codes " too long " ++ (decimal len ++ codes "\n")))
line_of_fault fault.TooManyPackets = codes "capture: too many packets\n"
line_of_fault fault.OutOfMemory = codes "out of memory\n"

-- The line that names a fault of a pcapng capture.
abbrev pub line_of_ng_fault : NgFault → List ℕ
line_of_ng_fault (ng.BadOrder magic) =
    codes "capture: bad order " ++ (hex8_of magic ++ codes "\n")
line_of_ng_fault (ng.BadBlock block len) =
    codes "capture: bad block " ++ (decimal block ++ (codes " " ++ (decimal len ++ codes "\n")))
line_of_ng_fault (ng.BadTail block len) =
    codes "capture: bad tail " ++ (decimal block ++ (codes " " ++ (decimal len ++ codes "\n")))
line_of_ng_fault (ng.BadMajor major) = codes "capture: bad major " ++ (decimal major ++ codes "\n")
line_of_ng_fault ng.TooManyPackets = codes "capture: too many packets\n"
line_of_ng_fault (ng.BadInterface block id) =
    codes "capture: bad interface " ++ (decimal block ++ (codes " " ++ (decimal id ++ codes "\n")))
line_of_ng_fault (ng.BadNgLink block link) =
    codes "capture: bad ng link " ++ (decimal block ++ (codes " " ++ (decimal link ++ codes "\n")))
line_of_ng_fault (ng.RecordTooLong at len) =
    codes "capture: packet " ++ (decimal at ++ (codes " too long " ++ (decimal len ++ codes "\n")))
line_of_ng_fault ng.OutOfMemory = codes "out of memory\n"

-- What a file of a role is called.
abbrev pub name_of_role : Role → List ℕ
name_of_role role.Plan = codes "plan"
name_of_role role.Rules = codes "rules"
name_of_role role.Capture = codes "capture"
name_of_role role.Report = codes "report"

-- The line that names a refusal.
abbrev pub line_of_refusal : Refusal → List ℕ
line_of_refusal (refusal.TooLong r) = name_of_role r ++ codes " too long\n"
line_of_refusal (refusal.Plan f) = line_of_plan_fault (codes "plan") f
line_of_refusal (refusal.Rules f) = line_of_plan_fault (codes "rules") f
line_of_refusal (refusal.Capture f) = line_of_fault f
line_of_refusal (refusal.Pcapng f) = line_of_ng_fault f

-- The line that `err` takes at an ending: none where all is done.
abbrev pub line_of : Ending → List ℕ
line_of ending.Done = []
line_of ending.Usage = usage_line
line_of (ending.Refuses reason) = line_of_refusal reason
line_of ending.ReadFault = codes "read fault\n"
line_of ending.WriteFault = codes "write fault\n"
line_of ending.OutOfMemory = codes "out of memory\n"

-- The line of a status that is none of refusals.
abbrev pub line_of_status : ℕ → List ℕ
line_of_status status =
    if status == 0 then [] else
    if status == 2 then usage_line else
    if status == 5 then codes "read fault\n" else
    if status == 6 then codes "write fault\n" else codes "out of memory\n"

-- What a call met: the bytes that the desk held by name, what the taps meant, the name that the
-- desk was asked for last, where it tells it, the counts of faults of the desk and of the sink of
-- the text before and after, and the bytes that this sink had taken before and after.
pub record Course : Type 0 where
  pub held : List ℕ → Option (List ℕ)
  pub taps : List Meaning
  pub asked : Option (List ℕ)
  pub desk_before : ℕ
  pub desk_after : ℕ
  pub out_before : ℕ
  pub out_after : ℕ
  pub written_before : Option (List ℕ)
  pub written_after : Option (List ℕ)

-- The course of a call, from each of its parts.
abbrev pub course_of : (List ℕ → Option (List ℕ)) → List Meaning → Option (List ℕ)
    → (desk_before desk_after out_before out_after : ℕ) → Option (List ℕ) → Option (List ℕ) → Course
course_of held taps asked desk desk' out out' written written' = record {
  held = held;
  taps = taps;
  asked = asked;
  desk_before = desk;
  desk_after = desk';
  out_before = out;
  out_after = out';
  written_before = written;
  written_after = written';
}

-- The desk failed during a call.
abbrev pub DeskFailed : Course → Type 0
DeskFailed course = Rose course.desk_before course.desk_after

-- The sink of the text failed during a call.
abbrev pub OutFailed : Course → Type 0
OutFailed course = Rose course.out_before course.out_after

-- Nothing was written during a call.
abbrev pub NothingOut : Course → Type 0
NothingOut course = Keeps course.written_before course.written_after

-- What the desk gave for each file of a command is what it tells, where it tells it.
abbrev pub Gave : (Role → Option (List ℕ)) → Files → Type 0
Gave told files = (r : Role) → Keeps (told r) (Some (files r))

-- A file of the command could not be read: the one that the desk was asked for last, where it tells
-- that, and those before it are accepted.
pub record IsUnread (command : CommandWords) (files : Files) (asked : Option (List ℕ))
    : Type 0 where
  pub earlier : List Role
  pub r : Role
  pub later : List Role
  pub roles : roles_of command ≡ earlier ++ r ∷ later
  pub accepted : Accepted earlier files
  pub last : IfSome asked (λ name. name_of command r ≡ Some name)

-- What is true of a command that ended so, by its files and its course.
abbrev pub EndsBy : CommandWords → Files → Ending → Course → Type 0
EndsBy command files ending.Done course =
    Accepted (roles_of command) files
    × (text : List ℕ) × Writes course.taps command files text
    × Appends course.written_before course.written_after text
EndsBy command files ending.Usage course = ⊥
EndsBy command files (ending.Refuses reason) course =
    Refused (roles_of command) files reason × NothingOut course
EndsBy command files ending.ReadFault course =
    IsUnread command files course.asked × DeskFailed course × NothingOut course
EndsBy command files ending.WriteFault course =
    Accepted (roles_of command) files × OutFailed course
    × (text : List ℕ) × Writes course.taps command files text
    × AppendsSome course.written_before course.written_after text
EndsBy command files ending.OutOfMemory course = NothingOut course

-- A command ended so, with files that the desk gave.
abbrev pub EndsCommand : Ending → CommandWords → Course → Type 0
EndsCommand e command course =
    (files : Files) × Gave (file_bytes course.held command) files × EndsBy command files e course

-- A call ended so: words that are no command end with the usage line.
abbrev pub Ends : Ending → Option CommandWords → Course → Type 0
Ends e None course = (e ≡ ending.Usage) × NothingOut course
Ends e (Some command) course = EndsCommand e command course

-- How a command ends that could not read a file of this role and name: the desk failed, and was
-- asked for no other file, or the file is too long where its bytes are told, or memory ran out.
abbrev pub EndsUnread
    : Ending → Role → List ℕ → Option (List ℕ) → ℕ → ℕ → Option (List ℕ) → Type 0
EndsUnread ending.ReadFault r name held before after asked =
    Rose before after × IfSome asked (λ last. last ≡ name)
EndsUnread (ending.Refuses (refusal.TooLong other)) r name held before after asked =
    (other ≡ r) × IfSome held (λ bytes. limit_of r < length bytes)
EndsUnread ending.OutOfMemory r name held before after asked = ⊤
EndsUnread e r name held before after asked = ⊥

-- How a command ends whose file of this role was read, and is not what it is read as: refused for
-- that reason, or memory ran out.
abbrev pub EndsUnfit : Ending → Role → List ℕ → Type 0
EndsUnfit (ending.Refuses reason) r bytes = IsNot r bytes reason
EndsUnfit ending.OutOfMemory r bytes = ⊤
EndsUnfit e r bytes = ⊥

-- How a command ends at a file of this role and name, by bytes that the file may have.
abbrev pub StopsAt : Ending → Role → List ℕ → List ℕ → ℕ → ℕ → Option (List ℕ) → Type 0
StopsAt ending.ReadFault r name bytes before after asked =
    Rose before after × IfSome asked (λ last. last ≡ name)
StopsAt (ending.Refuses reason) r name bytes before after asked = IsBad r bytes reason
StopsAt ending.OutOfMemory r name bytes before after asked = ⊤
StopsAt e r name bytes before after asked = ⊥

-- How a command ends at a file of a role and name, by bytes that the desk may have given for it.
pub record EndsAt (e : Ending) (r : Role) (name : List ℕ) (held : Option (List ℕ))
    (before after : ℕ) (asked : Option (List ℕ)) : Type 0 where
  pub bytes : List ℕ
  pub gave : Keeps held (Some bytes)
  pub stops : StopsAt e r name bytes before after asked

-- How a command ends at its plan, or at its capture where the plan is good, by bytes that the desk
-- may have given for the two.
pub record EndsAtInput (e : Ending) (words : PlanWords) (held : List ℕ → Option (List ℕ))
    (before after : ℕ) (asked : Option (List ℕ)) : Type 0 where
  pub plan : List ℕ
  pub capture : List ℕ
  pub gave_plan : Keeps (held words.plan) (Some plan)
  pub gave_capture : Keeps (held words.capture) (Some capture)
  pub at : StopsAt e role.Plan words.plan plan before after asked
      ⊎ (IsGood role.Plan plan
      × StopsAt e role.Capture words.capture capture before after asked)

-- How a command ends that writes this text: done, or the sink failed and took a prefix, or memory
-- ran out and nothing went out.
abbrev pub EndsWriting
    : Ending → List ℕ → ℕ → ℕ → Option (List ℕ) → Option (List ℕ) → Type 0
EndsWriting ending.Done text faults faults' written written' = Appends written written' text
EndsWriting ending.WriteFault text faults faults' written written' =
    Rose faults faults' × AppendsSome written written' text
EndsWriting ending.OutOfMemory text faults faults' written written' =
    Keeps written written'
EndsWriting e text faults faults' written written' = ⊥

-- A command that was done is so still, and nothing that the sink took is unsent, or its flush
-- failed; every other ending stays.
pub record Flushes (e e' : Ending) (faults faults' : ℕ) (written written' unsent' : Option (List ℕ))
    : Type 0 where
  pub ends : (e' ≡ e) ⊎ ((e ≡ ending.Done) × (e' ≡ ending.WriteFault) × Rose faults faults')
  pub sent : e' ≡ ending.Done → IsAtEnd unsent'
  pub kept : Keeps written written'
  pub later : faults ≤ faults'

-- Nothing that a sink took is unsent, or its count of faults rose.
abbrev pub SentOn : (faults faults' : ℕ) (unsent' : Option (List ℕ)) → Type 0
SentOn faults faults' unsent' = IsAtEnd unsent' ⊎ Rose faults faults'

-- A sink took the whole line, or its count of faults rose and it took a prefix of the line.
pub record Told (faults faults' : ℕ) (written written' : Option (List ℕ)) (line : List ℕ)
    : Type 0 where
  pub later : faults ≤ faults'
  pub took : Appends written written' line
      ⊎ (Rose faults faults' × AppendsSome written written' line)
