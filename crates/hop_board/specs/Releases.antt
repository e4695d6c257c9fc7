-- Releases: giving a lane back, as a value.
use Rattle.std.specs.Prelude.{◌≡◌, ℕ, ◌<◌, Bool, true, false, List, Some, slice_get}
use Rattle.steer_base.specs.declared.put.Put.{Put}
use Rattle.steer_base.specs.declared.put.Put.TheVariants.{At, Dropped}
use Rattle.hop_rule.specs.declared.sizes.BoardSizes.{BoardSizes}
use Rattle.hop_rule.specs.declared.step.BoardStep.{BoardStep}
use Rattle.hop_rule.specs.declared.step.BoardStep.TheVariants.{Lane}
use Rattle.hop_rule.specs.declared.step.Change.TheVariants as change
use Rattle.hop_rule.specs.declared.step.LaneStep.TheVariants as lane
use Rattle.hop_rule.specs.declared.step.Slot.{Slot}
use Rattle.hop_rule.specs.declared.step.Slot.TheVariants as slot
use Rattle.board_api.specs.declared.held_lane.LaneId.{LaneId}
use Rattle.board_api.specs.declared.held_lane.LaneId.TheVariants as id
use Rattle.hop_board.specs.declared.release.Release.{Release}
use Rattle.hop_board.specs.declared.release.Release.TheVariants.{Unchanged, Offered, Pulled, Given}

-- The lane that is given back.
abbrev pub released_lane : Release → LaneId
released_lane (Unchanged x) = x
released_lane (Offered l packet hash answer) = id.Middle l
released_lane (Pulled l packet) = id.Middle l
released_lane (Given o from packet place) = id.Out o

-- Whether a put with this answer raises the tail of its lane.
abbrev pub rises_by : Put → Bool
rises_by (At n) = true
rises_by (Dropped number accepted pulled cause) = false

-- Whether a release raises the tail of its lane.
abbrev pub rises_in : Release → Bool
rises_in (Unchanged x) = false
rises_in (Offered l packet hash answer) = rises_by answer
rises_in (Pulled l packet) = false
rises_in (Given o from packet place) = true

-- The step of a release.
abbrev pub step_in : Release → BoardStep
step_in (Unchanged (id.Middle l)) = Lane (lane.Freed l change.Nothing)
step_in (Unchanged (id.Out o)) = Lane (lane.OutFreed o)
step_in (Offered l packet hash answer) = Lane (lane.Freed l (change.Offered packet hash answer))
step_in (Pulled l packet) = Lane (lane.Freed l (change.Pulled packet))
step_in (Given o from packet place) = Lane (lane.Given o from packet place)

-- Each packet of a list has a number below the room.
abbrev pub AreBelow : ℕ → List ℕ → Type 0
AreBelow room items = (n packet : ℕ) → slice_get items n ≡ Some packet → packet < room

-- What a release shows: the packet that was pulled, and the packets of an out lane that was held,
-- have numbers below the room.
abbrev pub is_told : BoardSizes → Release → Slot → Type 0
is_told about (Unchanged x) (slot.Middle y) = Unit {0}
is_told about (Unchanged x) (slot.Out y) = AreBelow about.room y.items
is_told about (Offered l packet hash answer) content = Unit {0}
is_told about (Pulled l packet) content = packet < about.room
is_told about (Given o from packet place) content = Unit {0}
