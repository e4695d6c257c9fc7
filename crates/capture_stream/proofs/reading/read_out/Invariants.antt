use Rattle.std.proofs.Common.{◌≡◌, ◌≤◌, ◌<◌, ◌+◌, ◌-◌, ℕ, List, ◌++◌, length, Option}
use Rattle.outside_io.specs.Desk.{GoesOnTelling}
use Rattle.capture_stream.specs.Streams.{AreRead}
use Rattle.capture_stream.proofs.reading.read_out.Given as goal

abbrev pub invariant-loop-fault : goal.invariant-loop-fault
invariant-loop-fault g l = record {
  read : (named : Option (List ℕ)) (bytes : List ℕ)
      → AreRead named (g.D.Desk.left l.initial.desk) l.initial.window bytes
      → (more : List ℕ) × AreRead named (g.D.Desk.left l.desk) l.window (bytes ++ more);
  same : l.fault ≡ l.fn.fault;
  limit : l.window.limit ≡ l.initial.window.limit;
  piece : 0 < length l.piece;
  held : g.D.Desk.held l.desk ≡ g.D.Desk.held l.initial.desk;
  asked : g.D.Desk.asked l.desk ≡ g.D.Desk.asked l.initial.desk;
  later : g.D.Desk.faults l.initial.desk ≤ g.D.Desk.faults l.desk;
  told : GoesOnTelling (g.D.Desk.left l.initial.desk) (g.D.Desk.left l.desk);
}

abbrev pub decreases-loop-fault : goal.decreases-loop-fault
decreases-loop-fault g l = l.window.limit + 1 - l.window.taken
