use Rattle.std.proofs.Common.{ℕ, ◌<◌}
use Rattle.steer_base.specs.Sets.{has}
use Rattle.backlog.specs.Offers.{AllExplained}
use Rattle.history.specs.Lists.{lane_at}
use Rattle.steer_model.specs.State.Setup.{packet_hash}
use Rattle.good_check.specs.Drops.{limited_lane}
use Rattle.good_check.proofs.case.Case.all_are_explained.Given as goal

abbrev pub invariant-loop-cpu : goal.invariant-loop-cpu
invariant-loop-cpu l = (c : ℕ) → c < l.cpu → AllExplained (packet_hash l.self.given.now)
    (limited_lane l.self.plan.now.backlog (has l.self.plan.now.limited c)
    (lane_at l.self.h.now.lanes c))
