use Rattle.run_workers.specs.Looks.{look_count}
use Rattle.run_workers.specs.Tally.{HasFinished}
use Rattle.run_workers.specs.declared.work.TheConstants.{MAX_IDLE_TURNS}
use Rattle.run_workers.proofs.Names.{◌≡◌, ◌+◌, ◌<◌, ◌≤◌, true, length, stage_view, CountsOn}
use Rattle.run_workers.proofs.Names.{finished_by, GoesOn}
use Rattle.run_workers.proofs.worker.Worker.work.Given as goal

abbrev pub invariant-loop : goal.invariant-loop
invariant-loop g l = record {
  goes : GoesOn (stage_view (g.B.Board.view l.fn.stage.rx) (g.B.Board.view l.fn.stage.tx)
      l.fn.stage.shared l.fn.stage.late.items) l.fn.self l.self l.fn.seats l.seats;
  counts : CountsOn l.fn.tally l.fn.counter l.counter (finished_by l.self);
  few : l.idle < MAX_IDLE_TURNS;
  looks : look_count l.fn.seats.hint.steps + l.idle ≤ look_count l.seats.hint.steps;
  finished : l.finished ≡ true → HasFinished l.fn.tally.workers
      (length l.fn.stage.shared.given.packets) l.seats l.counter;
}
