use Rattle.steer_core.proofs.RoomLemmas.{room_write}
use Rattle.steer_core.proofs.actors.Actors.write.Goals as goal

pub push-requires-clause-room : goal.push-requires-clause-room
push-requires-clause-room c =
    room_write _ c.self.inside.writes.room c.args.a c.self.invariant.0.kept
    (rw (← c.self.view_is) at (c.requires.room c.args.a))
