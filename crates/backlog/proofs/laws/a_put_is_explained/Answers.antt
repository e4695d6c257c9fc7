use Rattle.std.proofs.Common.{refl}
use Rattle.steer_base.specs.Drops.{lane_drop_cause}
use Rattle.backlog.proofs.ExplainedLemmas.{AllExplained-put, AreOffers-put}
use Rattle.backlog.proofs.laws.a_put_is_explained.Goals as goal

pub returns-clause-offers : goal.returns-clause-offers
returns-clause-offers c = λ hash l id h. AreOffers-put hash l id (lane_drop_cause l (hash id)) h

pub returns-clause-drops : goal.returns-clause-drops
returns-clause-drops c = λ hash l id h all. AllExplained-put hash l id
    (lane_drop_cause l (hash id)) refl h all
