-- There is room in the machine's lists for what its steps append.
use Rattle.std.proofs.Common.{ℕ, ◌+◌, ◌≤◌, ◌<◌, length, arith}
use Rattle.hop_model.specs.Hop.{choices_of, placed_of}
use Rattle.hop_core.proofs.Fits.{fits_room}
use Rattle.history.specs.Lists.{list_at}
use Rattle.steer_model.specs.State.Machine.{Machine}
use Rattle.steer_invariant.specs.StepInvariant.{StepInvariant}

-- for one write more of an application
pub room_write : (m : Machine) (room a : ℕ) → StepInvariant m
    → length (list_at m.writes a) + length m.setup.packets < room + placed_of m.tx a
    → length (list_at m.writes a) < room
room_write m room a k spare =
    let z = k.tx.sizes in
    let put : placed_of m.tx a ≤ length (choices_of m.tx a) = k.tx.sound.hands.put a in
    let few : length (choices_of m.tx a) ≤ m.tx.fixed.room =
    (fits_room m.tx k.tx.sound).choices a in
    omega (arith, put, few, spare, z.room)
