use Rattle.workers.proofs.running.run_threads.Given as goal

abbrev pub ghost-run_to_the_end : goal.ghost-run_to_the_end
ghost-run_to_the_end g a = record {
  plan = a.plan.now;
  packets = a.run.stage.shared.given.packets;
  cut = a.run.stage.shared.given.cut;
}
