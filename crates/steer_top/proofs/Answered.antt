-- A call that ended somehow is answered.
use Rattle.std.proofs.Common.{◌≡◌, ◌≢◌, ℕ, List, Option, Some, None, refl, ap, subst, arith}
use Rattle.std.specs.Io.KnownBytes.{Keeps}
use Rattle.replay.specs.Headlines.{EveryReportHasTheHeadline, EveryRunHasTheHeadline}
use Rattle.steer_top.specs.Calls.{IsAnswered}
use Rattle.steer_top.specs.Endings.{Course, DeskFailed, Ends, EndsCommand, IsRefusal, OutFailed}
use Rattle.steer_top.specs.Endings.{line_of, line_of_status, status_of}
use Rattle.steer_top.specs.Files.{Files, IsNotBoth, IsRefusedOnce}
use Rattle.steer_top.specs.Outcomes.{Asks}
use Rattle.steer_top.specs.Words.{CommandWords}
use Rattle.steer_top.specs.declared.ending.Ending.{Ending}
use Rattle.steer_top.specs.declared.ending.Ending.TheVariants as ending
use Rattle.steer_top.proofs.Headlines.{took-headline}
use Rattle.steer_top.proofs.Statuses.{accepted_of, complete_of, is_refusal, other_status, part_of}
use Rattle.steer_top.proofs.Statuses.{refused_is, refused_of, refuses_of, text_of, unread_of}

-- ---- words that are no command

usage-of : (asked : Option CommandWords) (course : Course) (e : Ending) → Ends e asked course
    → status_of e ≡ 2 → asked ≡ None
usage-of None course e ends s = refl
usage-of (Some command) course ending.Usage (files, gave, by) s = absurd by
usage-of (Some command) course (ending.Refuses reason) ends s =
    other_status reason 2 s (omega arith) (omega arith) (omega arith)
usage-of (Some command) course ending.Done ends s = absurd (omega (arith, s))
usage-of (Some command) course ending.ReadFault ends s = absurd (omega (arith, s))
usage-of (Some command) course ending.WriteFault ends s = absurd (omega (arith, s))
usage-of (Some command) course ending.OutOfMemory ends s = absurd (omega (arith, s))

no-command-of : (asked : Option CommandWords) (course : Course) (e : Ending)
    → Ends e asked course → asked ≡ None → status_of e ≡ 2
no-command-of None course e ends is = ap status_of ends.0
no-command-of (Some command) course e ends is = absurd cc

-- ---- faults

read-fault-of : (asked : Option CommandWords) (course : Course) (e : Ending)
    → Ends e asked course → status_of e ≡ 5 → DeskFailed course
read-fault-of None course e ends s =
    let two : status_of e ≡ 2 = ap status_of ends.0 in absurd (omega (arith, s, two))
read-fault-of (Some command) course ending.ReadFault (files, gave, by) s = by.1
read-fault-of (Some command) course (ending.Refuses reason) ends s =
    other_status reason 5 s (omega arith) (omega arith) (omega arith)
read-fault-of (Some command) course ending.Done ends s = absurd (omega (arith, s))
read-fault-of (Some command) course ending.Usage ends s = absurd (omega (arith, s))
read-fault-of (Some command) course ending.WriteFault ends s = absurd (omega (arith, s))
read-fault-of (Some command) course ending.OutOfMemory ends s = absurd (omega (arith, s))

write-fault-of : (asked : Option CommandWords) (course : Course) (e : Ending)
    → Ends e asked course → status_of e ≡ 6 → OutFailed course
write-fault-of None course e ends s =
    let two : status_of e ≡ 2 = ap status_of ends.0 in absurd (omega (arith, s, two))
write-fault-of (Some command) course ending.WriteFault (files, gave, by) s = by.1
write-fault-of (Some command) course (ending.Refuses reason) ends s =
    other_status reason 6 s (omega arith) (omega arith) (omega arith)
write-fault-of (Some command) course ending.Done ends s = absurd (omega (arith, s))
write-fault-of (Some command) course ending.Usage ends s = absurd (omega (arith, s))
write-fault-of (Some command) course ending.ReadFault ends s = absurd (omega (arith, s))
write-fault-of (Some command) course ending.OutOfMemory ends s = absurd (omega (arith, s))

-- ---- what went out

nothing-of : (asked : Option CommandWords) (course : Course) (e : Ending)
    → Ends e asked course → status_of e ≢ 0 → status_of e ≢ 6
    → Keeps course.written_before course.written_after
nothing-of None course e ends done failed = ends.1
nothing-of (Some command) course ending.Done ends done failed = absurd (done refl)
nothing-of (Some command) course ending.WriteFault ends done failed = absurd (failed refl)
nothing-of (Some command) course ending.Usage (files, gave, by) done failed = absurd by
nothing-of (Some command) course (ending.Refuses reason) (files, gave, by) done failed = by.1
nothing-of (Some command) course ending.ReadFault (files, gave, by) done failed = by.2
nothing-of (Some command) course ending.OutOfMemory (files, gave, by) done failed = by

line-of : (tells : List ℕ → Type 0) (e : Ending) → tells (line_of e)
    → (IsRefusal (status_of e) → ⊥) → tells (line_of_status (status_of e))
line-of tells (ending.Refuses reason) told other = absurd (other (is_refusal reason))
line-of tells ending.Done told other = told
line-of tells ending.Usage told other = told
line-of tells ending.ReadFault told other = told
line-of tells ending.WriteFault told other = told
line-of tells ending.OutOfMemory told other = told

-- ---- all of it

module _ (once : IsRefusedOnce) (apart : IsNotBoth) (replays : EveryReportHasTheHeadline)
    (runs : EveryRunHasTheHeadline) (asked : Option CommandWords) (course : Course)
    (tells : List ℕ → Type 0) (e : Ending) (ends : Ends e asked course) where
  of : {command : CommandWords} {files : Files} → Asks course.held asked command files
      → EndsCommand e command course
  of asks = subst (λ a. Ends e a course) asks.is ends

  pub answered : tells (line_of e) → IsAnswered asked course tells (status_of e)
  answered told =
      record {
        usage = usage-of asked course e ends;
        no_command = no-command-of asked course e ends;
        refuses = λ is command files asks.
            refuses_of once apart command files course asks.told e (of asks) is;
        refused = λ command files reason asks refused read.
            refused_of once apart command files course asks.told e (of asks) reason refused read;
        read_fault = read-fault-of asked course e ends;
        unread = λ is command files asks.
            unread_of once apart command files course asks.told e (of asks) is;
        write_fault = write-fault-of asked course e ends;
        complete = λ command files asks all read write.
            complete_of once apart command files course asks.told e (of asks) all read write;
        accepted = λ is command files asks.
            accepted_of once apart command files course asks.told e (of asks) is;
        text = λ is command files asks.
            text_of once apart command files course asks.told e (of asks) is;
        part = λ is command files asks.
            part_of once apart command files course asks.told e (of asks) is;
        nothing = nothing-of asked course e ends;
        headline = λ is command files asks. (
            let (text, writes, took) =
            text_of once apart command files course asks.told e (of asks) is in
            took-headline replays runs course.taps command files course.written_before
            course.written_after text writes took);
        line = line-of tells e told;
        refusal_line = λ is command files reason asks refused. (
            let same =
            refused_is once apart command files course asks.told e (of asks) is reason refused in
            subst (λ x. tells (line_of x)) same told);
        ends = (e, refl, ends, told);
      }
