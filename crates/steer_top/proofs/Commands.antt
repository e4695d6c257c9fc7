-- What is true where the commands end.
use Rattle.std.proofs.Common.{◌≡◌, ◌≤◌, ◌<◌, zero, suc, ℕ, List, [], ◌∷◌, ◌++◌, length}
use Rattle.std.proofs.Common.{Option, Some, None, unwrap_or, inl, inr, refl, sym, ap, subst, ◌∙◌}
use Rattle.std.proofs.Common.{arith, IfErr, IfSome, Result, Ok, Err}
use Rattle.std.specs.Io.KnownBytes.{Keeps, Appends}
use Rattle.std.proofs.KnownBytes.{Appends-kept, Keeps-trans}
use Rattle.std.proofs.lemmas.List.{take_all}
use Rattle.outside_io.specs.Counts.{Rose}
use Rattle.outside_io.specs.Sink.{AppendsSome}
use Rattle.capture_stream.specs.Streams.{IsFaultOf}
use Rattle.capture_stream.specs.declared.fault.StreamFault.{StreamFault}
use Rattle.capture_stream.specs.declared.fault.StreamFault.TheVariants as stream
use Rattle.steer_top.proofs.Tellings.{AppendsSome-kept}
use Rattle.steer_top.specs.Files.{Accepted, Files, IsBad, Refused, limit_of}
use Rattle.steer_top.specs.Outcomes.{Writes, name_of, roles_of, file_bytes}
use Rattle.steer_top.specs.Words.{CheckWords, CommandWords, GenWords, HashWords, PlaceWords}
use Rattle.steer_top.specs.Words.{PlanWords}
use Rattle.steer_top.specs.Words.CommandWords.{Check, Gen, Hash, Place, Replay, Run}
use Rattle.steer_top.specs.Endings.{Course, Gave, NothingOut, EndsAt, EndsBy, EndsCommand}
use Rattle.steer_top.specs.Endings.{EndsAtInput, EndsUnfit, EndsUnread, EndsWriting, Flushes}
use Rattle.steer_top.specs.Endings.{StopsAt, ending_of_stream}
use Rattle.steer_top.specs.declared.ending.Role.{Role}
use Rattle.steer_top.specs.declared.ending.Role.TheVariants as role
use Rattle.steer_top.specs.declared.ending.Refusal.{Refusal}
use Rattle.steer_top.specs.declared.ending.Refusal.TheVariants as refusal
use Rattle.steer_top.specs.declared.ending.Ending.{Ending}
use Rattle.steer_top.specs.declared.ending.Ending.TheVariants as ending

-- what is told is kept, whatever stands where nothing is told
keeps_told : (told : Option (List ℕ)) (d : List ℕ) → Keeps told (Some (unwrap_or told d))
keeps_told None d = tt
keeps_told (Some bytes) d = refl

-- some bytes that are longer than this
longer_list : (n : ℕ) → (bytes : List ℕ) × (n < length bytes)
longer_list zero = (0 ∷ [], omega arith)
longer_list (suc n) = let (bytes, longer) = longer_list n in (0 ∷ bytes, omega (arith, longer))

-- a command stops at a file that was not read
pub stops_unread : (e : Ending) (r : Role) (name : List ℕ) (held : Option (List ℕ))
    (before after : ℕ) (asked : Option (List ℕ))
    → EndsUnread e r name held before after asked → EndsAt e r name held before after asked
stops_unread ending.ReadFault r name held before after asked failed = record {
  bytes = unwrap_or held [];
  gave = keeps_told held [];
  stops = failed;
}
stops_unread (ending.Refuses (refusal.TooLong other)) r name None before after asked (is, long) =
    let (bytes, longer) = longer_list (limit_of r) in
    record { bytes = bytes; gave = tt; stops = inl (longer, ap refusal.TooLong is) }
stops_unread (ending.Refuses (refusal.TooLong other)) r name (Some bytes) before after asked
    (is, long) =
    record { bytes = bytes; gave = refl; stops = inl (long, ap refusal.TooLong is) }
stops_unread ending.OutOfMemory r name held before after asked h = record {
  bytes = unwrap_or held [];
  gave = keeps_told held [];
  stops = tt;
}
stops_unread ending.Done r name held before after asked h = absurd h
stops_unread ending.Usage r name held before after asked h = absurd h
stops_unread ending.WriteFault r name held before after asked h = absurd h
stops_unread (ending.Refuses (refusal.Plan f)) r name held before after asked h = absurd h
stops_unread (ending.Refuses (refusal.Rules f)) r name held before after asked h = absurd h
stops_unread (ending.Refuses (refusal.Capture f)) r name held before after asked h = absurd h
stops_unread (ending.Refuses (refusal.Pcapng f)) r name held before after asked h = absurd h

-- a command stops at a file if that was not read
pub stops_all_unread : {T : Type 0} (result : Result T Ending) (r : Role) (name : List ℕ)
    (held : Option (List ℕ)) (before after : ℕ) (asked : Option (List ℕ))
    → IfErr result (λ e. EndsUnread e r name held before after asked)
    → IfErr result (λ e. EndsAt e r name held before after asked)
stops_all_unread (Ok x) r name held before after asked h = tt
stops_all_unread (Err e) r name held before after asked h =
    stops_unread e r name held before after asked h

-- a command stops at a file that was read, and is not what it is read as
pub stops_unfit : (e : Ending) (r : Role) (name : List ℕ) (bytes : List ℕ) (held : Option (List ℕ))
    (before after : ℕ) (asked : Option (List ℕ))
    → Keeps held (Some bytes) → length bytes ≤ limit_of r → EndsUnfit e r bytes
    → EndsAt e r name held before after asked
stops_unfit (ending.Refuses reason) r name bytes held before after asked gave few is =
    record { bytes = bytes; gave = gave; stops = inr (few, is) }
stops_unfit ending.OutOfMemory r name bytes held before after asked gave few h =
    record { bytes = bytes; gave = gave; stops = tt }
stops_unfit ending.Done r name bytes held before after asked gave few h = absurd h
stops_unfit ending.Usage r name bytes held before after asked gave few h = absurd h
stops_unfit ending.WriteFault r name bytes held before after asked gave few h = absurd h
stops_unfit ending.ReadFault r name bytes held before after asked gave few h = absurd h

-- a command stops at a capture that was not read
pub stops_stream : (e : StreamFault) (name : List ℕ) (held : Option (List ℕ))
    (before after : ℕ) (asked : Option (List ℕ))
    → IsFaultOf held (limit_of role.Capture) e → (e ≡ stream.Unread → Rose before after)
    → IfSome asked (λ last. last ≡ name)
    → EndsAt (ending_of_stream e) role.Capture name held before after asked
stops_stream stream.Unread name held before after asked is failed last =
    stops_unread ending.ReadFault role.Capture name held before after asked (failed refl, last)
stops_stream stream.TooLong name held before after asked is failed last =
    stops_unread (ending.Refuses (refusal.TooLong role.Capture)) role.Capture name held before
    after asked (refl, is)
stops_stream stream.OutOfMemory name held before after asked is failed last =
    stops_unread ending.OutOfMemory role.Capture name held before after asked tt
stops_stream (stream.Classic f) name held before after asked (bytes, gave, few, is) failed last =
    stops_unfit (ending.Refuses (refusal.Capture f)) role.Capture name bytes held before after
    asked gave few is
stops_stream (stream.Ng f) name held before after asked (bytes, gave, few, is) failed last =
    stops_unfit (ending.Refuses (refusal.Pcapng f)) role.Capture name bytes held before after
    asked gave few is

-- a command that stops at a file after others
pub stops_later : (e : Ending) (r : Role) (name bytes : List ℕ) (before mid after : ℕ)
    (asked : Option (List ℕ)) → before ≤ mid
    → StopsAt e r name bytes mid after asked → StopsAt e r name bytes before after asked
stops_later ending.ReadFault r name bytes before mid after asked later (failed, last) =
    (omega (arith, failed, later), last)
stops_later (ending.Refuses reason) r name bytes before mid after asked later bad = bad
stops_later ending.OutOfMemory r name bytes before mid after asked later h = tt
stops_later ending.Done r name bytes before mid after asked later h = absurd h
stops_later ending.Usage r name bytes before mid after asked later h = absurd h
stops_later ending.WriteFault r name bytes before mid after asked later h = absurd h

-- the first bad file is refused
refused_at : (earlier later : List Role) (r : Role) (files : Files) (reason : Refusal)
    → Accepted earlier files → IsBad r (files r) reason
    → Refused (earlier ++ r ∷ later) files reason
refused_at [] later r files reason all bad = inl bad
refused_at (first ∷ earlier) later r files reason (good, all) bad =
    inr (good, refused_at earlier later r files reason all bad)

-- the name that was asked for last is that of the file
last_is : (asked : Option (List ℕ)) (name : List ℕ) (named : Option (List ℕ)) → named ≡ Some name
    → IfSome asked (λ last. last ≡ name)
    → IfSome asked (λ last. named ≡ Some last)
last_is None name named is h = tt
last_is (Some last) name named is h = is ∙ ap Some (sym h)

-- a command that a file of a role ends, with files that the desk gave of which the earlier ones
-- are accepted
pub ends_at : (command : CommandWords) (course : Course) (files : Files) (earlier later : List Role)
    (r : Role) (name : List ℕ) (e : Ending)
    → Gave (file_bytes course.held command) files → roles_of command ≡ earlier ++ r ∷ later
    → name_of command r ≡ Some name
    → Accepted earlier files → NothingOut course
    → StopsAt e r name (files r) course.desk_before course.desk_after course.asked
    → EndsCommand e command course
ends_at command course files earlier later r name ending.ReadFault gave roles is all kept
    (failed, last) = (
      files,
      gave,
      (
        record {
          earlier = earlier;
          r = r;
          later = later;
          roles = roles;
          accepted = all;
          last = last_is course.asked name (name_of command r) is last;
        },
        failed,
        kept,
      ),
    )
ends_at command course files earlier later r name
    (ending.Refuses reason) gave roles is all kept bad = (
      files,
      gave,
      (
        subst (λ rs. Refused rs files reason) (sym roles)
            (refused_at earlier later r files reason all bad),
        kept,
      ),
    )
ends_at command course files earlier later r name ending.OutOfMemory gave roles is all kept h =
    (files, gave, kept)
ends_at command course files earlier later r name ending.Done gave roles is all kept h = absurd h
ends_at command course files earlier later r name ending.Usage gave roles is all kept h = absurd h
ends_at command course files earlier later r name ending.WriteFault gave roles is all kept h =
    absurd h

-- a command that writes this text of accepted files
pub ends_written : (command : CommandWords) (course : Course) (files : Files) (text : List ℕ)
    (e : Ending)
    → Gave (file_bytes course.held command) files → Accepted (roles_of command) files
    → Writes course.taps command files text
    → EndsWriting e text course.out_before course.out_after course.written_before
    course.written_after → EndsCommand e command course
ends_written command course files text ending.Done gave all writes took =
    (files, gave, (all, text, writes, took))
ends_written command course files text ending.WriteFault gave all writes (failed, took) =
    (files, gave, (all, failed, text, writes, took))
ends_written command course files text ending.OutOfMemory gave all writes kept = (files, gave, kept)
ends_written command course files text ending.Usage gave all writes h = absurd h
ends_written command course files text ending.ReadFault gave all writes h = absurd h
ends_written command course files text (ending.Refuses reason) gave all writes h = absurd h

-- the files of a command: a plan or rules, and a capture
abbrev pub files_of : List ℕ → List ℕ → Files
files_of first capture role.Plan = first
files_of first capture role.Rules = first
files_of first capture role.Capture = capture
files_of first capture role.Report = []

-- the files of the command `check`
abbrev pub check_files : List ℕ → List ℕ → List ℕ → Files
check_files plan capture report role.Plan = plan
check_files plan capture report role.Rules = []
check_files plan capture report role.Capture = capture
check_files plan capture report role.Report = report

-- the one file of the command `hash`
pub hash_gave : (words : HashWords) (held : List ℕ → Option (List ℕ)) (rules capture : List ℕ)
    → Keeps (held words.capture) (Some capture)
    → Gave (file_bytes held (Hash words)) (files_of rules capture)
hash_gave words held rules capture told role.Plan = tt
hash_gave words held rules capture told role.Rules = tt
hash_gave words held rules capture told role.Capture = told
hash_gave words held rules capture told role.Report = tt

-- the two files of the command `place`
pub place_gave : (words : PlaceWords) (held : List ℕ → Option (List ℕ)) (rules capture : List ℕ)
    → Keeps (held words.rules) (Some rules)
    → Keeps (held words.capture) (Some capture)
    → Gave (file_bytes held (Place words)) (files_of rules capture)
place_gave words held rules capture first second role.Plan = tt
place_gave words held rules capture first second role.Rules = first
place_gave words held rules capture first second role.Capture = second
place_gave words held rules capture first second role.Report = tt

-- the two files of the commands `replay` and `run`
pub replay_gave : (words : PlanWords) (held : List ℕ → Option (List ℕ)) (plan capture : List ℕ)
    → Keeps (held words.plan) (Some plan)
    → Keeps (held words.capture) (Some capture)
    → Gave (file_bytes held (Replay words)) (files_of plan capture)
replay_gave words held plan capture first second role.Plan = first
replay_gave words held plan capture first second role.Rules = tt
replay_gave words held plan capture first second role.Capture = second
replay_gave words held plan capture first second role.Report = tt

pub run_gave : (words : PlanWords) (held : List ℕ → Option (List ℕ)) (plan capture : List ℕ)
    → Keeps (held words.plan) (Some plan)
    → Keeps (held words.capture) (Some capture)
    → Gave (file_bytes held (Run words)) (files_of plan capture)
run_gave words held plan capture first second role.Plan = first
run_gave words held plan capture first second role.Rules = tt
run_gave words held plan capture first second role.Capture = second
run_gave words held plan capture first second role.Report = tt

-- the three files of the command `check`
pub check_gave : (words : CheckWords) (held : List ℕ → Option (List ℕ))
    (plan capture report : List ℕ)
    → Keeps (held words.plan) (Some plan) → Keeps (held words.capture) (Some capture)
    → Keeps (held words.report) (Some report)
    → Gave (file_bytes held (Check words)) (check_files plan capture report)
check_gave words held plan capture report first second third role.Plan = first
check_gave words held plan capture report first second third role.Rules = tt
check_gave words held plan capture report first second third role.Capture = second
check_gave words held plan capture report first second third role.Report = third

-- the command `gen` has no file
pub gen_gave : (words : GenWords) (held : List ℕ → Option (List ℕ))
    → Gave (file_bytes held (Gen words)) (files_of [] [])
gen_gave words held role.Plan = tt
gen_gave words held role.Rules = tt
gen_gave words held role.Capture = tt
gen_gave words held role.Report = tt

-- a file of which nothing is told, or just what is told
pub told_bytes : (told : Option (List ℕ)) → (bytes : List ℕ) × Keeps told (Some bytes)
told_bytes told = (unwrap_or told [], keeps_told told [])

-- all of a text is a prefix of it
all_is_some : (before after : Option (List ℕ)) (text : List ℕ) → Appends before after text
    → AppendsSome before after text
all_is_some before after text took =
    (length text, omega arith, rw (take_all (length text) text (omega arith)) took)

-- the course with the count and the bytes of the sink after its flush
abbrev flushed : Course → ℕ → Option (List ℕ) → Course
flushed course faults written = record course { out_after = faults; written_after = written }

module _ (command : CommandWords) (files : Files) (course : Course) (faults : ℕ)
    (written : Option (List ℕ))
    (later : course.out_after ≤ faults) (kept : Keeps course.written_after written) where
  stays : (e : Ending) → EndsBy command files e course
      → EndsBy command files e (flushed course faults written)
  stays ending.Done (all, text, is, took) = (
    all,
    text,
    is,
    Appends-kept course.written_before course.written_after written text took
        kept,
  )
  stays ending.Usage h = absurd h
  stays (ending.Refuses reason) (refused, nothing) =
      (refused, Keeps-trans course.written_before course.written_after written nothing kept)
  stays ending.ReadFault (at, failed, nothing) =
      (at, failed, Keeps-trans course.written_before course.written_after written nothing kept)
  stays ending.WriteFault (all, failed, text, is, took) = (
    all,
    omega (arith, failed, later),
    text,
    is,
    AppendsSome-kept course.written_before
        course.written_after written text took kept,
  )
  stays ending.OutOfMemory nothing =
      Keeps-trans course.written_before course.written_after written nothing kept

  fails : course.out_before ≤ course.out_after → Rose course.out_after faults
      → EndsBy command files ending.Done course
      → EndsBy command files ending.WriteFault (flushed course faults written)
  fails before rose (all, text, is, took) = (
    all,
    omega (arith, rose, before),
    text,
    is,
    AppendsSome-kept course.written_before
        course.written_after written text
        (all_is_some course.written_before course.written_after text took) kept,
  )

-- a command that was done ends so behind its flush, or the flush failed; every other ending stays
pub ends_flushed : (command : CommandWords) (course : Course) (faults : ℕ)
    (written unsent : Option (List ℕ)) (e e' : Ending)
    → course.out_before ≤ course.out_after → EndsCommand e command course
    → Flushes e e' course.out_after faults course.written_after written unsent
    → EndsCommand e' command (flushed course faults written)
ends_flushed command course faults written unsent e e' before (files, gave, by) flush =
    let By : Ending → Course → Type 0 = EndsBy command files in
    let after : Course = flushed course faults written in
    elim flush.ends [
      | inl same ↦ (
        files,
        gave,
        subst (λ x. By x after) (sym same)
            (stays command files course faults written flush.later flush.kept e by),
      )
      | inr (done, failed, rose) ↦ (
        files,
        gave,
        subst (λ x. By x after) (sym failed)
            (fails command files course faults written flush.later flush.kept before rose
            (subst (λ x. By x course) done by)),
      )
    ]

-- a command over a plan and a capture that ends at one of the two
pub ends_at_input : (command : CommandWords) (words : PlanWords) (course : Course) (e : Ending)
    → roles_of command ≡ role.Plan ∷ role.Capture ∷ []
    → name_of command role.Plan ≡ Some words.plan
    → name_of command role.Capture ≡ Some words.capture
    → ((plan capture : List ℕ) → Keeps (course.held words.plan) (Some plan)
    → Keeps (course.held words.capture) (Some capture)
    → Gave (file_bytes course.held command) (files_of plan capture))
    → NothingOut course
    → EndsAtInput e words course.held course.desk_before course.desk_after course.asked
    → EndsCommand e command course
ends_at_input command words course e roles plan capture gave kept at =
    let files = files_of at.plan at.capture in
    let told = gave at.plan at.capture at.gave_plan at.gave_capture in
    elim at.at [
      | inl stops ↦
          ends_at command course files [] (role.Capture ∷ []) role.Plan words.plan e told roles
          plan tt kept stops
      | inr (good, stops) ↦
          ends_at command course files (role.Plan ∷ []) [] role.Capture words.capture e told roles
          capture (good, tt) kept stops
    ]
