use Rattle.std.proofs.Common.{◌∙◌, arith}
use Rattle.steer_core.proofs.FilterLemmas.{same-count, same-kept}
use Rattle.steer_core.proofs.actors.old_filters.clear_old.Goals as goal

pub returns-clause-cleared : goal.returns-clause-cleared
returns-clause-cleared c =
    c.expire_all.ensures.cleared
    ∙ same-kept c.args.rx.now c.args.settings.now c.heads_of-heads.result c.counts_of-flows.result
    (λ cpu lt. c.heads_of-heads.ensures cpu
    (omega (arith, lt, c.requires.cpus, c.cpus.ensures.value)))
    (λ queue lt. c.counts_of-flows.ensures.same queue
    (omega (arith, lt, c.requires.queues, c.queues.ensures.value)))
    c.args.filters.now c.requires.seated

pub returns-clause-count : goal.returns-clause-count
returns-clause-count c =
    c.expire_all.ensures.count
    ∙ same-count c.args.rx.now c.args.settings.now c.heads_of-heads.result c.counts_of-flows.result
    (λ cpu lt. c.heads_of-heads.ensures cpu
    (omega (arith, lt, c.requires.cpus, c.cpus.ensures.value)))
    (λ queue lt. c.counts_of-flows.ensures.same queue
    (omega (arith, lt, c.requires.queues, c.queues.ensures.value)))
    c.args.filters.now c.requires.seated
