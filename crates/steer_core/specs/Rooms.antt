-- What room a step needs in the machine's lists.
use Rattle.std.specs.Prelude.{ℕ, ◌+◌, ◌<◌, length}
use Rattle.steer_base.specs.declared.step.Step.{Step}
use Rattle.steer_base.specs.declared.step.Step.TheVariants as act
use Rattle.hop_model.specs.Hop.{placed_of}
use Rattle.history.specs.Lists.{list_at}
use Rattle.steer_model.specs.State.Machine.{Machine}
use Rattle.steer_core.specs.Running.{Rooms}

-- Each application has room for one write of the socket flow table, and for one more with each
-- packet that it has not yet put a reply for.
abbrev pub HasSpare : Rooms → Machine → Type 0
HasSpare rooms m =
    (a : ℕ) → length (list_at m.writes a) + length m.setup.packets < rooms.writes + placed_of m.tx a

-- There is room for what a step appends: a record and a reply after it a write, a command itself.
abbrev pub HasRoomFor : Rooms → Machine → Step → Type 0
HasRoomFor rooms m (act.Record flow) = HasSpare rooms m
HasRoomFor rooms m (act.Serve a) = HasSpare rooms m
HasRoomFor rooms m act.Sweep = HasSpare rooms m
HasRoomFor rooms m (act.Give c) = length m.commands < rooms.commands
HasRoomFor rooms m _ = Unit {0}
