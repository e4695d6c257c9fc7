use Rattle.std.proofs.Common.{take}
use Rattle.std.specs.List.{All}
use Rattle.rule_check.specs.Pairs.{has_pair}
use Rattle.steer_model.specs.State.Setup.{packet_hash}
use Rattle.good_check.specs.Queues.{IsSeenIn}
use Rattle.good_check.proofs.case.Case.are_seen.Given as goal

abbrev pub invariant-loop-arrival : goal.invariant-loop-arrival
invariant-loop-arrival l = All (λ a. IsSeenIn (has_pair l.set) l.self.settings.now.reta.entries
    l.self.plan.now.filters (packet_hash l.self.given.now a.id) a)
    (take l.arrival-index l.self.h.now.arrivals)
