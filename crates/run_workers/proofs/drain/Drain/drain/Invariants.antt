use Rattle.run_workers.specs.Hands.Drains.{Moves}
use Rattle.run_workers.proofs.Names.{◌≡◌, ◌≤◌, Serves, this_lane, IsDrain}
use Rattle.run_workers.proofs.drain.Drain.drain.Given as goal

abbrev pub invariant-loop-round : goal.invariant-loop-round
invariant-loop-round g l = record {
  is : IsDrain l.fn.given l.self l.seat.steps;
  serves : Serves (this_lane l.fn.self.lane) l.fn.seat l.seat;
  lane : l.self.lane ≡ l.fn.self.lane;
  exit : l.self.exit ≡ l.fn.self.exit;
  start : l.self.start ≡ l.fn.self.start;
  did : Moves l.fn.self l.self l.did;
  rounds : l.round ≤ l.self.retired;
}
