use Rattle.std.proofs.Common.{refl}
use Rattle.steer_core.proofs.parts.HistoryParts.joined.Goals as goal

pub returns : goal.returns
returns c = rw (c.only_list.ensures) refl
