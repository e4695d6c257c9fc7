use Rattle.std.proofs.Common.{subst}
use Rattle.steer_base.specs.Sets.{has}
use Rattle.backlog.specs.Offers.{AllExplained}
use Rattle.history.specs.Lists.{lane_at}
use Rattle.steer_model.specs.State.Setup.{packet_hash}
use Rattle.good_check.specs.Cases.{input_of}
use Rattle.good_check.specs.Drops.{limited_lane}
use Rattle.good_check.proofs.DropsLemmas.{causes-to}
use Rattle.good_check.proofs.case.Case.has_explained_drops.Goals as goal

pub all_are_explained-requires-clause-rise : goal.all_are_explained-requires-clause-rise
all_are_explained-requires-clause-rise c = c.drops_rise.ensures.yes c.if-not-drops_rise.false

pub returns-clause-yes : goal.returns-clause-yes
returns-clause-yes c = λ t.
    let case = c.args.self.now in
    let h = case.h.now in
    let plan = case.plan.now in
    record {
      causes = causes-to (input_of case) h c.requires.lanes (λ cpu l.
          subst (λ p. AllExplained (packet_hash p) (limited_lane plan.backlog
          (has plan.limited cpu) (lane_at h.lanes cpu))) case.is_setup
          (c.in_ok-explained.ensures.yes t cpu l));
      counts = c.drops_rise.ensures.yes c.if-not-drops_rise.false;
    }
