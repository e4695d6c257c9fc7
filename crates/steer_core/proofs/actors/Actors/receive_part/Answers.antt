use Rattle.std.proofs.Common.{refl}
use Rattle.steer_core.proofs.actors.Actors.receive_part.Goals as goal

pub returns : goal.returns
returns c =
    rw (
      c.in_ok-taken.ensures,
      c.in_ok-choices.ensures,
      c.in_ok-lanes.ensures,
      c.in_ok-outs.ensures,
      c.start_of.ensures,
      ← c.self.view_is,
    ) refl
