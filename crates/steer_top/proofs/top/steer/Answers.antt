use Rattle.steer_top.proofs.top.steer.Goals as goal

pub returns-then-means_run-clause-call : goal.returns-then-means_run-clause-call
returns-then-means_run-clause-call g c =
    rw (c.means_run.ensures.live c.if-means_run.true) at c.steer_live.ensures.call

pub returns-else-means_run-clause-call : goal.returns-else-means_run-clause-call
returns-else-means_run-clause-call g c =
    rw (c.means_run.ensures.still c.if-means_run.false) at c.steer_still_by.ensures.call
