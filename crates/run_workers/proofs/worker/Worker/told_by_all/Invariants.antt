use Rattle.run_workers.specs.Tally.{Loaded}
use Rattle.run_workers.proofs.Names.{ℕ, ◌≤◌, CountsOn, finished_by}
use Rattle.run_workers.proofs.worker.Worker.told_by_all.Given as goal

abbrev pub invariant-loop-word : goal.invariant-loop-word
invariant-loop-word l = record {
  counts : CountsOn l.fn.tally l.fn.counter l.counter (finished_by l.fn.self);
  sum : ℕ;
  loaded : Loaded l.counter.seat.steps l.word sum;
  most : l.total ≤ sum;
}
