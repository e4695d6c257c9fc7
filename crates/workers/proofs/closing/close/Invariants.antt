use Rattle.workers.proofs.closing.close.Given as goal

abbrev pub ghost-leave : goal.ghost-leave
ghost-leave g a = g.i
