use Rattle.workers.proofs.running.run_to_the_end.Given as goal

abbrev pub ghost-run_all : goal.ghost-run_all
ghost-run_all g a = g.i

abbrev pub ghost-sweep_all : goal.ghost-sweep_all
ghost-sweep_all g a = g.i

abbrev pub ghost-close : goal.ghost-close
ghost-close g a = g.i
