use Rattle.steer_model.specs.Good.GoodHistory.{Good}
use Rattle.run_coupling.specs.Coupling.Runs.{IsRun}
use Rattle.workers.proofs.Names.{refl, subst, Input}
use Rattle.workers.proofs.BackLemmas.{input_of, own-flows, own-start, same-input}
use Rattle.workers.proofs.running.run_threads.Goals as goal

pub run_to_the_end-requires : goal.run_to_the_end-requires
run_to_the_end-requires g c κs within =
    let i : Input = record {
      plan = c.args.plan.now;
      packets = c.args.packets.now;
      cut = c.args.cut;
    } in
    let run = c.in_ok-run.run' in
    let start = c.in_ok-run.ensures in (
      search,
      (
        search,
        (
          search,
          (
            search,
            (
              refl,
              (
                own-flows i run start c.requires.flows,
                (own-start i run start, (c.in_ok-posts.ensures, c.in_ok-spare.ensures)),
              ),
            ),
          ),
        ),
      ),
    )

pub returns-clause-run : goal.returns-clause-run
returns-clause-run g c =
    let i : Input = record {
      plan = c.args.plan.now;
      packets = c.args.packets.now;
      cut = c.args.cut;
    } in
    let run = c.in_ok-run.run' in
    let h = c.run_to_the_end.result in
    subst (λ (j : Input). IsRun j h) (same-input i run c.in_ok-run.ensures)
    (c.ended_runs_are_runs.ensures (input_of c.args.plan.now run) h c.run_to_the_end.ensures)

pub returns-clause-good : goal.returns-clause-good
returns-clause-good g c =
    let i : Input = record {
      plan = c.args.plan.now;
      packets = c.args.packets.now;
      cut = c.args.cut;
    } in
    let run = c.in_ok-run.run' in
    let h = c.run_to_the_end.result in
    subst (λ (j : Input). Good j h) (same-input i run c.in_ok-run.ensures)
    (c.a_run_is_good.ensures (input_of c.args.plan.now run) h
    (c.ended_runs_are_runs.ensures (input_of c.args.plan.now run) h c.run_to_the_end.ensures))
