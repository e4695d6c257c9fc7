-- Rows that are known from outside, as the definitions have them.
use Rattle.std.proofs.Common.{ℕ, ◌≡◌, List, ◌++◌, Option, Some, None, refl}
use Rattle.std.specs.Prelude.{codes}
use Rattle.std.specs.Fmt.{digits}
use Rattle.steer_base.specs.Sets.{those_below}
use Rattle.steer_base.specs.declared.choice.Why.TheVariants.{Plain, Passed}
use Rattle.steer_base.specs.declared.put.DropCause.TheVariants.{Full, Flow}
use Rattle.steer_base.specs.declared.put.Put.TheVariants.{At, Dropped as FellAs}
use Rattle.steer_base.specs.declared.command.Command.TheVariants as command
use Rattle.steer_base.specs.declared.command.Answer.TheVariants as answer
use Rattle.steer_base.specs.declared.command.Busy.TheVariants.{Inside, NotEmpty}
use Rattle.steer_base.specs.declared.command.User.TheVariants.{Queue, App}
use Rattle.steer_base.specs.declared.idle.Idle.TheVariants.{AlreadyOnline}
use Rattle.history.specs.declared.commanded.Commanded.{Commanded}
use Rattle.history.specs.declared.packet_line.Via.TheVariants.{Reta, Unhashed}
use Rattle.history.specs.declared.place.Place.TheVariants.{Ring, Backlog, Dropped}
use Rattle.report.specs.Texts.{row_text}
use Rattle.report.specs.Texts.Row.{Tap}
use Rattle.report.specs.Lines.{packet_row, write_row, end_row}
use Rattle.report.specs.Commands.{command_row}

-- a packet that moved, one before its weighing, and drops of both causes
moved : row_text
    (packet_row (record {
      id = 3;
      queue = 0;
      via = Reta;
      choice = Some (record {
        class = Some 0;
        want = Some 2;
        head = Some 3;
        tail = Some 3;
        lane = 2;
        why = Passed;
      });
      put = Some (At 1);
      app = 0;
      inbox = None;
      place = Backlog 2;
      flow_number = 0;
    }))
    ≡ codes "p 3 q 0 via reta class 0 want 2 head 3 tail 3 cpu 2 why passed at 1 app 0 in "
    ++ codes "- place backlog\n"
unfolding digits
moved = refl

waiting : row_text (packet_row (record {
  id = 2;
  queue = 0;
  via = Reta;
  choice = None;
  put = None;
  app = 0;
  inbox = None;
  place = Ring;
  flow_number = 0;
}))
    ≡ codes "p 2 q 0 via reta class - want - head - tail - cpu - why - at - app 0 in - place ring\n"
unfolding digits
waiting = refl

full : row_text
    (packet_row (record {
      id = 1;
      queue = 0;
      via = Unhashed;
      choice = Some (record {
        class = None;
        want = None;
        head = None;
        tail = None;
        lane = 1;
        why = Plain;
      });
      put = Some (FellAs 1 1 0 Full);
      app = 0;
      inbox = None;
      place = Dropped 1;
      flow_number = 0;
    }))
    ≡ codes "p 1 q 0 via none class - want - head - tail - cpu 1 why plain at drop 1 1 0 "
    ++ codes "app 0 in - place drop\n"
unfolding digits
full = refl

limited : row_text
    (packet_row (record {
      id = 199;
      queue = 0;
      via = Reta;
      choice = Some (record {
        class = None;
        want = None;
        head = None;
        tail = None;
        lane = 1;
        why = Plain;
      });
      put = Some (FellAs 49 151 0 (Flow 200));
      app = 0;
      inbox = None;
      place = Dropped 1;
      flow_number = 0;
    }))
    ≡ codes "p 199 q 0 via reta class - want - head - tail - cpu 1 why plain at drop 49 "
    ++ codes "151 0 flow 200 app 0 in - place drop\n"
unfolding digits
limited = refl

-- the text of a command and of the last row
abbrev command_text : ℕ → Commanded → List ℕ
command_text number c = row_text (command_row number c)

abbrev end_text : ℕ → ℕ → Option ℕ → List ℕ
end_text arrived total cut = row_text (end_row arrived total cut)

-- commands, each with one kind of answer
busy : command_text 0 (record {
  command = command.Mask 0 (record { 0 = 4 });
  answer = answer.Busy
      (NotEmpty 1 4294967295 0);
}) ≡ codes "c 0 mask 0 2 busy lane 1 head 4294967295 tail 0\n"
unfolding digits those_below
busy = refl

inside : command_text 0 (record {
  command = command.Mask 0 (record { 0 = 4 });
  answer = answer.Busy
      (Inside 1);
}) ≡ codes "c 0 mask 0 2 busy inside 1\n"
unfolding digits those_below
inside = refl

home : command_text 0 (record {
  command = command.Offline 0;
  answer = answer.CpuInUse
      (Queue 0);
}) ≡ codes "c 0 offline 0 in use queue 0\n"
unfolding digits
home = refl

stood_on : command_text 1 (record {
  command = command.Offline 2;
  answer = answer.CpuInUse
      (App 0);
}) ≡ codes "c 1 offline 2 in use app 0\n"
unfolding digits
stood_on = refl

offline : command_text 4 (record {
  command = command.Offline 2;
  answer = answer.CpuOffline;
}) ≡ codes "c 4 offline 2 cpu offline\n"
unfolding digits
offline = refl

online : command_text 6 (record { command = command.Online 3; answer = answer.Idle AlreadyOnline })
    ≡ codes "c 6 online 3 idle online\n"
unfolding digits
online = refl

expired : command_text 9 (record { command = command.Expire; answer = answer.Expired 0 }) ≡ codes
    "c 9 expire expired 0\n"
unfolding digits
expired = refl

-- a set in ascending order, and the empty one
set : command_text 7 (record {
  command = command.XCpus 0 (record { 0 = 2147483657 });
  answer = answer.Done;
}) ≡ codes "c 7 xcpus 0 0,3,31 done\n"
unfolding digits those_below
set = refl

no_set : command_text 8 (record { command = command.XQueues 1 0; answer = answer.Done }) ≡ codes
    "c 8 xqueues 1 - done\n"
unfolding digits those_below
no_set = refl

-- a socket write, a tap with its text, and the end of a capture with a cut
write : row_text (write_row 0 (record { entry = 8; cpu = 3 })) ≡ codes "w app 0 entry 8 cpu 3\n"
unfolding digits
write = refl

tap : row_text (Tap 0 (codes "cpu 1 packets 2\n")) ≡ codes "tap 0 bytes 16\ncpu 1 packets 2\n"
unfolding digits
tap = refl

cut : end_text 1 2 (Some 69) ≡ codes "end 1 of 2 cut 69\n"
unfolding digits
cut = refl
