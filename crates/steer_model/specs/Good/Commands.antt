-- A good history's commands: those of the plan, how often each was tried, and what answered it.
use Rattle.std.specs.Prelude.{ℕ, ◌+◌, ◌≤◌, ◌<◌, ◌≡◌, ◌⊎◌, Bool, true, false, List, [], ◌∷◌, ◌++◌}
use Rattle.std.specs.Prelude.{Option, Some, None, length, slice_get}
use Rattle.std.specs.List.{All}
use Rattle.steer_base.specs.Commands.{refusal}
use Rattle.steer_base.specs.Counters.{distance}
use Rattle.steer_base.specs.declared.command.Answer.{Answer}
use Rattle.steer_base.specs.declared.command.Answer.TheVariants as says
use Rattle.steer_base.specs.declared.command.Busy.{Busy}
use Rattle.steer_base.specs.declared.command.Busy.TheVariants as busy
use Rattle.steer_base.specs.declared.command.Command.{Command}
use Rattle.steer_base.specs.declared.command.Command.TheVariants as give
use Rattle.steer_base.specs.declared.command.Refused.{Refused}
use Rattle.history.specs.Lists.{lane_at}
use Rattle.history.specs.declared.commanded.Commanded.{Commanded}
use Rattle.history.specs.declared.history.History.{History}
use Rattle.history.specs.declared.lane_list.LaneList.{LaneList}
use Rattle.plan_reader.specs.Ranges.{commands_of}
use Rattle.steer_model.specs.Steps.Commands.{affects, refused_answer}
use Rattle.steer_model.specs.Good.Inputs.{Input, settings_at, setup_in}
use Rattle.steer_model.specs.State.Settings.{Settings}

-- ---- clause 10

-- whether an answer is busy
abbrev pub is_busy : Answer → Bool
is_busy (says.Busy why) = true
is_busy _ = false

-- the tries of one command: each but the last is busy, and the last one too if all tries are used
-- up
pub record AreTries (tries : ℕ) (c : Command) (block : List Commanded) : Type 0 where
  pub some : 1 ≤ length block
  pub few : length block ≤ tries
  pub same : All (λ given. given.command ≡ c) block
  pub again : (k : ℕ) (given : Commanded) → k + 1 < length block
      → slice_get block k ≡ Some given → is_busy given.answer ≡ true
  pub last : (k : ℕ) (given : Commanded) → length block < tries → k + 1 ≡ length block
      → slice_get block k ≡ Some given → is_busy given.answer ≡ false

-- the commands of a plan in their order, each with its tries
abbrev pub AreGiven : ℕ → List Command → List Commanded → Type 0
AreGiven tries [] given = given ≡ []
AreGiven tries (c ∷ cs) given =
    (block : List Commanded) × (rest : List Commanded) × (given ≡ block ++ rest)
    × AreTries tries c block × AreGiven tries cs rest

-- the lanes behind the gate that a command needs closed, if it needs one
abbrev pub gate_lanes : History → Command → Option (List LaneList)
gate_lanes h (give.Mask q mask) = Some h.lanes
gate_lanes h (give.Flows q count) = Some h.lanes
gate_lanes h (give.Sock size) = Some h.lanes
gate_lanes h (give.Offline cpu) = Some h.lanes
gate_lanes h (give.Online cpu) = Some h.lanes
gate_lanes h (give.XCpus tx mask) = Some h.tx_lanes
gate_lanes h (give.XQueues tx queues) = Some h.tx_lanes
gate_lanes h (give.Reta place q) = None
gate_lanes h (give.Stand app cpu) = None
gate_lanes h give.Expire = None

-- A command may be answered busy: some workers were inside, or a lane that had to be empty had a
-- head below its tail, neither beyond what the lane has in the end.
abbrev pub MayBeBusy : Input → History → List LaneList → Command → Busy → Type 0
MayBeBusy i h lanes c (busy.Inside n) = (1 ≤ n) × (n ≤ i.plan.workers)
MayBeBusy i h lanes c (busy.NotEmpty lane head tail) =
    (lane < length lanes) × (affects (setup_in i) c lane ≡ true)
    × (distance head h.start < distance tail h.start)
    × (distance head h.start ≤ (lane_at lanes lane).retired)
    × (distance tail h.start ≤ length (lane_at lanes lane).accepted)

-- the answer of a command that is not refused and not busy
abbrev pub IsEnd : Input → Command → Answer → Type 0
IsEnd i give.Expire a = (n : ℕ) × (a ≡ says.Expired n) × (n ≤ i.plan.filters)
IsEnd i c a = a ≡ says.Done

-- the answer to a command: the reason to refuse it, otherwise its end or that its gate is busy
abbrev pub IsAnswer : Input → History → Command → Option Refused → Answer → Type 0
IsAnswer i h c (Some why) a = a ≡ refused_answer why
IsAnswer i h c None a =
    IsEnd i c a
    ⊎ ((lanes : List LaneList) × (why : Busy) × (gate_lanes h c ≡ Some lanes)
    × (a ≡ says.Busy why) × MayBeBusy i h lanes c why)

-- the reason to refuse a command with these settings, if there is one
abbrev pub refused_with : Input → Settings → Command → Option Refused
refused_with i s c = refusal s.online c (setup_in i).homes s.stands

-- The commands are those of the plan, each answered by the done ones before it.
pub record CommandsAreGiven (i : Input) (h : History) : Type 0 where
  pub given : AreGiven i.plan.tries (commands_of i.plan.steps) h.commands
  pub answers : (k : ℕ) (c : Commanded) → slice_get h.commands k ≡ Some c
      → IsAnswer i h c.command (refused_with i (settings_at i h k) c.command) c.answer
