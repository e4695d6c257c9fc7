use Rattle.std.proofs.Common.{◌≡◌, ◌≤◌, ◌<◌, ◌+◌, ◌-◌, ◌*◌, ℕ, List, length, Option}
use Rattle.outside_io.specs.Desk.{GoesOnTelling}
use Rattle.capture_stream.specs.Streams.{IsUnderWay}
use Rattle.capture_stream.specs.Windows.{content}
use Rattle.capture_stream.proofs.reading.walk.Given as goal

abbrev pub invariant-loop-start : goal.invariant-loop-start
invariant-loop-start g l = record {
  begun : (named : Option (List ℕ)) (first : _)
      → IsUnderWay g.W.Walk.passed g.F.FrameSink.takes named (g.D.Desk.left l.initial.desk) first
      l.initial.walker l.initial.window l.initial.sink
      → IsUnderWay g.W.Walk.passed g.F.FrameSink.takes named (g.D.Desk.left l.desk) first
      l.walker l.window l.sink;
  limit : l.window.limit ≡ l.initial.window.limit;
  piece : 0 < length l.piece;
  held : g.D.Desk.held l.desk ≡ g.D.Desk.held l.initial.desk;
  asked : g.D.Desk.asked l.desk ≡ g.D.Desk.asked l.initial.desk;
  later : g.D.Desk.faults l.initial.desk ≤ g.D.Desk.faults l.desk;
  told : GoesOnTelling (g.D.Desk.left l.initial.desk) (g.D.Desk.left l.desk);
}

abbrev pub decreases-loop-start : goal.decreases-loop-start
decreases-loop-start g l =
    2 * (l.window.limit + 1 - l.window.taken) + length (content l.window)
