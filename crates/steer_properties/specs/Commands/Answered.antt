-- What a replay's writes to the socket flow table and its commands are, in every state: the parts
-- of the good history's clauses on them that do not ask that the run is over.
use Rattle.std.specs.Prelude.{ℕ, ◌<◌, ◌≤◌, ◌≡◌, ◌⊎◌, None, Some, List, length, slice_get}
use Rattle.std.specs.List.{All}
use Rattle.history.specs.Lists.{list_at}
use Rattle.history.specs.declared.commanded.Commanded.{Commanded}
use Rattle.history.specs.declared.history.History.{History}
use Rattle.history.specs.declared.lane_list.LaneList.{LaneList}
use Rattle.history.specs.declared.sock_write.SockWrite.{SockWrite}
use Rattle.steer_base.specs.declared.command.Answer.TheVariants as says
use Rattle.steer_base.specs.declared.command.Busy.TheVariants as busy
use Rattle.steer_model.specs.Good.Commands.{IsAnswer, gate_lanes, refused_with}
use Rattle.steer_model.specs.Good.Writes.{IsWrite}
use Rattle.steer_model.specs.Good.Inputs.{Input, setup_in, settings_at}
use Rattle.steer_model.specs.State.Settings.{Settings}
use Rattle.steer_model.specs.State.Setup.{app_for, packet_hash}

-- The write is that of an application for a packet of the capture that is its own and has a hash.
pub record IsWriteFor (i : Input) (h : History) (a : ℕ) (w : SockWrite) : Type 0 where
  pub packet : ℕ
  pub of_the_capture : packet < length i.packets
  pub own : app_for (setup_in i) packet ≡ a
  pub hash : ℕ
  pub hash_is : packet_hash (setup_in i) packet ≡ Some hash
  pub write : IsWrite i h a hash w

-- Each write to the socket flow table is that of an application for a packet of its own.
abbrev pub WritesAreMade : Input → History → Type 0
WritesAreMade i h = (a : ℕ) → All (IsWriteFor i h a) (list_at h.writes a)

-- A command that is not refused found somebody inside its gate; a replay may have more actors
-- inside than a plan has workers.
pub record IsInside (i : Input) (h : History) (s : Settings) (c : Commanded) : Type 0 where
  pub number : ℕ
  pub answer : c.answer ≡ says.Busy (busy.Inside number)
  pub some : 1 ≤ number
  pub allowed : refused_with i s c.command ≡ None
  pub lanes : List LaneList
  pub gate : gate_lanes h c.command ≡ Some lanes

-- Each command is answered by the done ones before it.
abbrev pub AreAnswered : Input → History → Type 0
AreAnswered i h =
    (k : ℕ) (c : Commanded) → slice_get h.commands k ≡ Some c
    → IsAnswer i h c.command (refused_with i (settings_at i h k) c.command) c.answer
    ⊎ IsInside i h (settings_at i h k) c
