-- The row of a command: its number, the text of its step, and its answer.
use Rattle.std.specs.Prelude.{ℕ, List, [], ◌∷◌, ◌++◌, codes, decimal}
use Rattle.steer_base.specs.Sets.{has, has_queue, those_below}
use Rattle.steer_base.specs.declared.command.Command.{Command}
use Rattle.steer_base.specs.declared.command.Command.TheVariants as command
use Rattle.steer_base.specs.declared.command.Answer.{Answer}
use Rattle.steer_base.specs.declared.command.Answer.TheVariants as answer
use Rattle.steer_base.specs.declared.command.Busy.{Busy}
use Rattle.steer_base.specs.declared.command.Busy.TheVariants.{Inside, NotEmpty}
use Rattle.steer_base.specs.declared.command.User.{User}
use Rattle.steer_base.specs.declared.command.User.TheVariants.{Queue, App}
use Rattle.steer_base.specs.declared.idle.Idle.{Idle}
use Rattle.steer_base.specs.declared.idle.Idle.TheVariants.{AlreadyOnline}
use Rattle.steer_base.specs.declared.cpu_mask.CpuMask.{CpuMask}
use Rattle.history.specs.declared.commanded.Commanded.{Commanded}
use Rattle.report.specs.Texts.{Row}
use Rattle.report.specs.Texts.Row.{Line}

-- numbers, each after a comma
abbrev pub with_commas : List ℕ → List ℕ
with_commas [] = []
with_commas (n ∷ ns) = 44 ∷ (decimal n ++ with_commas ns)

-- numbers separated by commas, a dash if there are none
abbrev pub set_field : List ℕ → List ℕ
set_field [] = codes "-"
set_field (n ∷ ns) = decimal n ++ with_commas ns

-- the processors of a set, ascending, separated by commas
abbrev pub cpus_field : CpuMask → List ℕ
cpus_field cpus = set_field (those_below 32 (has cpus))

-- the receive queues of a set, ascending, separated by commas
abbrev pub queues_field : ℕ → List ℕ
queues_field queues = set_field (those_below 16 (has_queue queues))

-- the text of a command's step, with flow counts and socket table sizes as they were given
abbrev pub command_fields : Command → List (List ℕ)
command_fields (command.Mask queue cpus) = codes "mask" ∷ decimal queue ∷ cpus_field cpus ∷ []
command_fields (command.Flows queue count) = codes "flows" ∷ decimal queue ∷ decimal count ∷ []
command_fields (command.Sock size) = codes "sock" ∷ decimal size ∷ []
command_fields (command.Offline cpu) = codes "offline" ∷ decimal cpu ∷ []
command_fields (command.Online cpu) = codes "online" ∷ decimal cpu ∷ []
command_fields (command.XCpus tx cpus) = codes "xcpus" ∷ decimal tx ∷ cpus_field cpus ∷ []
command_fields (command.XQueues tx queues) = codes "xqueues" ∷ decimal tx ∷ queues_field queues ∷ []
command_fields (command.Reta place queue) = codes "reta" ∷ decimal place ∷ decimal queue ∷ []
command_fields (command.Stand app cpu) = codes "stand" ∷ decimal app ∷ decimal cpu ∷ []
command_fields command.Expire = codes "expire" ∷ []

-- the word for the only reason why a command does nothing: the processor is already online
abbrev pub idle_fields : Idle → List (List ℕ)
idle_fields AlreadyOnline = codes "online" ∷ []
idle_fields other = []

-- the fields of why a command found the machine busy
abbrev pub busy_fields : Busy → List (List ℕ)
busy_fields (Inside actors) = codes "inside" ∷ decimal actors ∷ []
busy_fields (NotEmpty lane head tail) =
    codes "lane" ∷ decimal lane ∷ codes "head" ∷ decimal head ∷ codes "tail" ∷ decimal tail ∷ []

-- the fields of who uses a processor
abbrev pub user_fields : User → List (List ℕ)
user_fields (Queue queue) = codes "queue" ∷ decimal queue ∷ []
user_fields (App app) = codes "app" ∷ decimal app ∷ []

-- the fields of a command's answer
abbrev pub answer_fields : Answer → List (List ℕ)
answer_fields answer.Done = codes "done" ∷ []
answer_fields (answer.Idle idle) = codes "idle" ∷ idle_fields idle
answer_fields (answer.Busy busy) = codes "busy" ∷ busy_fields busy
answer_fields (answer.CpuInUse user) = codes "in" ∷ codes "use" ∷ user_fields user
answer_fields answer.CpuOffline = codes "cpu" ∷ codes "offline" ∷ []
answer_fields (answer.Expired filters) = codes "expired" ∷ decimal filters ∷ []

-- the row of the command with this number
abbrev pub command_row : ℕ → Commanded → Row
command_row number c =
    Line (codes "c") (decimal number ∷ (command_fields c.command ++ answer_fields c.answer))
