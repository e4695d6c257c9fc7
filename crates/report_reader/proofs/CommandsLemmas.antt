-- The rows of commands show them with their answers.
use Rattle.std.proofs.Common.{ℕ, suc, ◌≡◌, ◌≤◌, ◌++◌, List, [], ◌∷◌, length}
use Rattle.std.proofs.Common.{decimal, refl, arith, true}
use Rattle.std.proofs.lemmas.List.{length-append}
use Rattle.std.specs.Prelude.{codes}
use Rattle.std.specs.List.{All}
use Rattle.std.proofs.lemmas.List.Elements.{All-head, All-tail}
use Rattle.steer_base.specs.declared.command.Answer.{Answer}
use Rattle.steer_base.specs.declared.command.Answer.TheVariants as answer
use Rattle.steer_base.specs.declared.command.Busy.TheVariants.{Inside, NotEmpty}
use Rattle.steer_base.specs.declared.command.Command.{Command}
use Rattle.steer_base.specs.declared.command.Command.TheVariants as command
use Rattle.steer_base.specs.declared.command.User.TheVariants.{Queue, App}
use Rattle.steer_base.specs.declared.idle.Idle.{Idle}
use Rattle.steer_base.specs.declared.idle.Idle.TheVariants.{AlreadyOnline}
use Rattle.history.specs.Ranges.{AnswerFits, CommandFits, CommandedFits}
use Rattle.history.specs.Regular.{has_text}
use Rattle.history.specs.declared.commanded.Commanded.{Commanded}
use Rattle.report.specs.Commands.{cpus_field, queues_field}
use Rattle.report.specs.Commands.{answer_fields, command_fields, command_row, idle_fields}
use Rattle.report.specs.Report.{numbered}
use Rattle.report.specs.Texts.{AreRows}
use Rattle.report_reader.specs.Commands.{ShowsAnswer, ShowsCommand, ShowsCommanded, answer_start}
use Rattle.report_reader.specs.Sections.{AreShown, IsShown}
use Rattle.report_reader.specs.declared.shortest.TheConstants.{SHORTEST_COMMAND}
use Rattle.report_reader.proofs.ShortestLemmas.{command-long}

command-shows : (number : ℕ) (c : Command) (rest : List (List ℕ)) → CommandFits c
    → ShowsCommand (codes "c" ∷ decimal number ∷ (command_fields c ++ rest)) c
command-shows number (command.Mask q m) rest f = (refl, refl, f.0, refl, f.1)
command-shows number (command.Flows q n) rest f = (refl, refl, f.0, refl, f.1)
command-shows number (command.Sock n) rest f = (refl, refl, f)
command-shows number (command.Offline n) rest f = (refl, refl, f)
command-shows number (command.Online n) rest f = (refl, refl, f)
command-shows number (command.XCpus q m) rest f = (refl, refl, f.0, refl, f.1)
command-shows number (command.XQueues q m) rest f = (refl, refl, f.0, refl, f.1)
command-shows number (command.Reta i q) rest f = (refl, refl, f.0, refl, f.1)
command-shows number (command.Stand a c) rest f = (refl, refl, f.0, refl, f.1)
command-shows number command.Expire rest f = refl

-- an answer behind three, four and five fields
behind-3 : (u v w : List ℕ) (a : Answer) → AnswerFits a → has_text a ≡ true
    → ShowsAnswer (u ∷ v ∷ w ∷ answer_fields a) 3 a
behind-3 u v w answer.Done f t = refl
behind-3 u v w (answer.Idle i) f t = (refl, t)
behind-3 u v w (answer.Busy (Inside n)) f t = (refl, (refl, refl, f))
behind-3 u v w (answer.Busy (NotEmpty l h k)) f t = (refl, (refl, refl, f.0, refl, f.1, refl, f.2))
behind-3 u v w (answer.CpuInUse (Queue q)) f t = (refl, (refl, refl, f))
behind-3 u v w (answer.CpuInUse (App q)) f t = (refl, (refl, refl, f))
behind-3 u v w answer.CpuOffline f t = refl
behind-3 u v w (answer.Expired n) f t = (refl, refl, f)

behind-4 : (u v w x : List ℕ) (a : Answer) → AnswerFits a → has_text a ≡ true
    → ShowsAnswer (u ∷ v ∷ w ∷ x ∷ answer_fields a) 4 a
behind-4 u v w x answer.Done f t = refl
behind-4 u v w x (answer.Idle i) f t = (refl, t)
behind-4 u v w x (answer.Busy (Inside n)) f t = (refl, (refl, refl, f))
behind-4 u v w x (answer.Busy (NotEmpty l h k)) f t =
    (refl, (refl, refl, f.0, refl, f.1, refl, f.2))
behind-4 u v w x (answer.CpuInUse (Queue q)) f t = (refl, (refl, refl, f))
behind-4 u v w x (answer.CpuInUse (App q)) f t = (refl, (refl, refl, f))
behind-4 u v w x answer.CpuOffline f t = refl
behind-4 u v w x (answer.Expired n) f t = (refl, refl, f)

behind-5 : (u v w x y : List ℕ) (a : Answer) → AnswerFits a → has_text a ≡ true
    → ShowsAnswer (u ∷ v ∷ w ∷ x ∷ y ∷ answer_fields a) 5 a
behind-5 u v w x y answer.Done f t = refl
behind-5 u v w x y (answer.Idle i) f t = (refl, t)
behind-5 u v w x y (answer.Busy (Inside n)) f t = (refl, (refl, refl, f))
behind-5 u v w x y (answer.Busy (NotEmpty l h k)) f t =
    (refl, (refl, refl, f.0, refl, f.1, refl, f.2))
behind-5 u v w x y (answer.CpuInUse (Queue q)) f t = (refl, (refl, refl, f))
behind-5 u v w x y (answer.CpuInUse (App q)) f t = (refl, (refl, refl, f))
behind-5 u v w x y answer.CpuOffline f t = refl
behind-5 u v w x y (answer.Expired n) f t = (refl, refl, f)

answer-shows : (number : ℕ) (c : Command) (a : Answer) → AnswerFits a → has_text a ≡ true
    → ShowsAnswer (codes "c" ∷ decimal number ∷ (command_fields c ++ answer_fields a))
    (answer_start c) a
answer-shows number (command.Mask q m) a f t =
    behind-5 (codes "c") (decimal number) (codes "mask") (decimal q) (cpus_field m) a f t
answer-shows number (command.Flows q m) a f t =
    behind-5 (codes "c") (decimal number) (codes "flows") (decimal q) (decimal m) a f t
answer-shows number (command.Sock m) a f t =
    behind-4 (codes "c") (decimal number) (codes "sock") (decimal m) a f t
answer-shows number (command.Offline m) a f t =
    behind-4 (codes "c") (decimal number) (codes "offline") (decimal m) a f t
answer-shows number (command.Online m) a f t =
    behind-4 (codes "c") (decimal number) (codes "online") (decimal m) a f t
answer-shows number (command.XCpus q m) a f t =
    behind-5 (codes "c") (decimal number) (codes "xcpus") (decimal q) (cpus_field m) a f t
answer-shows number (command.XQueues q m) a f t =
    behind-5 (codes "c") (decimal number) (codes "xqueues") (decimal q) (queues_field m) a f t
answer-shows number (command.Reta q m) a f t =
    behind-5 (codes "c") (decimal number) (codes "reta") (decimal q) (decimal m) a f t
answer-shows number (command.Stand q m) a f t =
    behind-5 (codes "c") (decimal number) (codes "stand") (decimal q) (decimal m) a f t
answer-shows number command.Expire a f t =
    behind-3 (codes "c") (decimal number) (codes "expire") a f t

few-command : (c : Command) → length (command_fields c) ≤ 3
few-command (command.Mask q m) = omega arith
few-command (command.Flows q n) = omega arith
few-command (command.Sock n) = omega arith
few-command (command.Offline n) = omega arith
few-command (command.Online n) = omega arith
few-command (command.XCpus q m) = omega arith
few-command (command.XQueues q m) = omega arith
few-command (command.Reta i q) = omega arith
few-command (command.Stand b c) = omega arith
few-command command.Expire = omega arith

few-idle : (i : Idle) → length (idle_fields i) ≤ 1
few-idle AlreadyOnline = omega arith
few-idle i = omega arith

few-answer : (a : Answer) → length (answer_fields a) ≤ 8
few-answer answer.Done = omega arith
few-answer (answer.Idle i) = let f = few-idle i in omega (arith, f)
few-answer (answer.Busy (Inside n)) = omega arith
few-answer (answer.Busy (NotEmpty l h k)) = omega arith
few-answer (answer.CpuInUse (Queue q)) = omega arith
few-answer (answer.CpuInUse (App q)) = omega arith
few-answer answer.CpuOffline = omega arith
few-answer (answer.Expired n) = omega arith

pub few-commanded : (c : Commanded) → length (command_fields c.command ++ answer_fields c.answer) ≤
    11
few-commanded c =
    let a = length-append (command_fields c.command) (answer_fields c.answer) in
    let b = few-command c.command in
    let d = few-answer c.answer in omega (arith, a, b, d)

pub commands-shown : (i : ℕ) (commands : List Commanded) → All CommandedFits commands
    → All (λ c. has_text c.answer ≡ true) commands
    → AreRows (numbered command_row i commands)
    → AreShown (codes "c") SHORTEST_COMMAND ShowsCommanded commands
    (numbered command_row i commands)
commands-shown i [] f t r = tt
commands-shown i (c ∷ commands) f t r =
    let h = All-head CommandedFits c commands f in
    let few = few-commanded c in
    let s : IsShown (codes "c") SHORTEST_COMMAND ShowsCommanded c (command_row i c) = record {
      further = decimal i ∷ (command_fields c.command ++ answer_fields c.answer);
      is = refl;
      is_field = r.0.0;
      are_fields = r.0.1;
      few = omega (arith, few);
      long = command-long i c;
      shown = record {
        command = command-shows i c.command (answer_fields c.answer) h.command;
        answer = answer-shows i c.command c.answer h.answer
            (All-head (λ d. has_text d.answer ≡ true) c commands t);
      };
    } in (
      s,
      commands-shown (suc i) commands (All-tail CommandedFits c commands f)
          (All-tail (λ d. has_text d.answer ≡ true) c commands t) r.1,
    )
