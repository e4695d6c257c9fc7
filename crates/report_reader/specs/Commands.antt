-- What the fields of a line show of a command and of its answer.
use Rattle.std.specs.Prelude.{ℕ, ◌≡◌, ◌<◌, ◌^◌, ◌+◌, Bool, true, false, List, codes, decimal}
use Rattle.steer_base.specs.declared.command.Answer.{Answer}
use Rattle.steer_base.specs.declared.command.Answer.TheVariants as answer
use Rattle.steer_base.specs.declared.command.Busy.{Busy}
use Rattle.steer_base.specs.declared.command.Busy.TheVariants.{Inside, NotEmpty}
use Rattle.steer_base.specs.declared.command.Command.{Command}
use Rattle.steer_base.specs.declared.command.Command.TheVariants as command
use Rattle.steer_base.specs.declared.command.User.{User}
use Rattle.steer_base.specs.declared.command.User.TheVariants.{Queue, App}
use Rattle.history.specs.Regular.{is_online}
use Rattle.history.specs.declared.commanded.Commanded.{Commanded}
use Rattle.report.specs.Commands.{cpus_field, queues_field}
use Rattle.report_reader.specs.Seen.{field_at}

-- the fields of a line show a command
abbrev pub ShowsCommand : List (List ℕ) → Command → Type 0
ShowsCommand fs (command.Mask queue cpus) =
    (field_at fs 2 ≡ codes "mask") × (field_at fs 3 ≡ decimal queue) × (queue < 2 ^ 8)
    × (field_at fs 4 ≡ cpus_field cpus) × (cpus.0 < 2 ^ 32)
ShowsCommand fs (command.Flows queue count) =
    (field_at fs 2 ≡ codes "flows") × (field_at fs 3 ≡ decimal queue) × (queue < 2 ^ 8)
    × (field_at fs 4 ≡ decimal count) × (count < 2 ^ 32)
ShowsCommand fs (command.Sock size) =
    (field_at fs 2 ≡ codes "sock") × (field_at fs 3 ≡ decimal size) × (size < 2 ^ 32)
ShowsCommand fs (command.Offline cpu) =
    (field_at fs 2 ≡ codes "offline") × (field_at fs 3 ≡ decimal cpu) × (cpu < 2 ^ 8)
ShowsCommand fs (command.Online cpu) =
    (field_at fs 2 ≡ codes "online") × (field_at fs 3 ≡ decimal cpu) × (cpu < 2 ^ 8)
ShowsCommand fs (command.XCpus tx cpus) =
    (field_at fs 2 ≡ codes "xcpus") × (field_at fs 3 ≡ decimal tx) × (tx < 2 ^ 8)
    × (field_at fs 4 ≡ cpus_field cpus) × (cpus.0 < 2 ^ 32)
ShowsCommand fs (command.XQueues tx queues) =
    (field_at fs 2 ≡ codes "xqueues") × (field_at fs 3 ≡ decimal tx) × (tx < 2 ^ 8)
    × (field_at fs 4 ≡ queues_field queues) × (queues < 2 ^ 16)
ShowsCommand fs (command.Reta place queue) =
    (field_at fs 2 ≡ codes "reta") × (field_at fs 3 ≡ decimal place) × (place < 2 ^ 8)
    × (field_at fs 4 ≡ decimal queue) × (queue < 2 ^ 8)
ShowsCommand fs (command.Stand app cpu) =
    (field_at fs 2 ≡ codes "stand") × (field_at fs 3 ≡ decimal app) × (app < 2 ^ 8)
    × (field_at fs 4 ≡ decimal cpu) × (cpu < 2 ^ 8)
ShowsCommand fs command.Expire = field_at fs 2 ≡ codes "expire"

-- whether a command has two parts
abbrev pub has_pair : Command → Bool
has_pair (command.Sock size) = false
has_pair (command.Offline cpu) = false
has_pair (command.Online cpu) = false
has_pair command.Expire = false
has_pair _ = true

-- how many fields there are before those of the answer
abbrev pub answer_start : Command → ℕ
answer_start (command.Sock size) = 4
answer_start (command.Offline cpu) = 4
answer_start (command.Online cpu) = 4
answer_start command.Expire = 3
answer_start _ = 5

-- the fields from this one on show why the machine was busy
abbrev pub ShowsBusy : List (List ℕ) → ℕ → Busy → Type 0
ShowsBusy fs i (Inside actors) =
    (field_at fs i ≡ codes "inside") × (field_at fs (i + 1) ≡ decimal actors) × (actors < 2 ^ 32)
ShowsBusy fs i (NotEmpty lane head tail) =
    (field_at fs i ≡ codes "lane") × (field_at fs (i + 1) ≡ decimal lane) × (lane < 2 ^ 8)
    × (field_at fs (i + 3) ≡ decimal head) × (head < 2 ^ 32)
    × (field_at fs (i + 5) ≡ decimal tail) × (tail < 2 ^ 32)

-- the fields from this one on show who uses a processor
abbrev pub ShowsUser : List (List ℕ) → ℕ → User → Type 0
ShowsUser fs i (Queue queue) =
    (field_at fs i ≡ codes "queue") × (field_at fs (i + 1) ≡ decimal queue) × (queue < 2 ^ 8)
ShowsUser fs i (App app) =
    (field_at fs i ≡ codes "app") × (field_at fs (i + 1) ≡ decimal app) × (app < 2 ^ 8)

-- the fields from this one on show an answer
abbrev pub ShowsAnswer : List (List ℕ) → ℕ → Answer → Type 0
ShowsAnswer fs i answer.Done = field_at fs i ≡ codes "done"
ShowsAnswer fs i (answer.Idle why) = (field_at fs i ≡ codes "idle") × (is_online why ≡ true)
ShowsAnswer fs i (answer.Busy busy) = (field_at fs i ≡ codes "busy") × ShowsBusy fs (i + 1) busy
ShowsAnswer fs i (answer.CpuInUse user) =
    (field_at fs i ≡ codes "in") × ShowsUser fs (i + 2) user
ShowsAnswer fs i answer.CpuOffline = field_at fs i ≡ codes "cpu"
ShowsAnswer fs i (answer.Expired filters) =
    (field_at fs i ≡ codes "expired") × (field_at fs (i + 1) ≡ decimal filters)
    × (filters < 2 ^ 32)

-- the fields of a line show a command with its answer
pub record ShowsCommanded (c : Commanded) (fs : List (List ℕ)) : Type 0 where
  pub command : ShowsCommand fs c.command
  pub answer : ShowsAnswer fs (answer_start c.command) c.answer
