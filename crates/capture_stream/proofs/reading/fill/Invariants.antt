use Rattle.std.proofs.Common.{◌≡◌, ◌≤◌, ◌+◌, ◌-◌, ℕ, List, length, Option}
use Rattle.outside_io.specs.Desk.{GoesOnTelling}
use Rattle.capture_stream.specs.Streams.{IsBegun}
use Rattle.capture_stream.proofs.reading.fill.Given as goal

abbrev pub invariant-loop-window : goal.invariant-loop-window
invariant-loop-window g l = record {
  begun : (named : Option (List ℕ)) → IsBegun named (g.D.Desk.left l.initial.desk) l.initial.window
      → IsBegun named (g.D.Desk.left l.desk) l.window;
  limit : l.window.limit ≡ l.initial.window.limit;
  piece : length l.piece ≡ length l.initial.piece;
  held : g.D.Desk.held l.desk ≡ g.D.Desk.held l.initial.desk;
  asked : g.D.Desk.asked l.desk ≡ g.D.Desk.asked l.initial.desk;
  later : g.D.Desk.faults l.initial.desk ≤ g.D.Desk.faults l.desk;
  told : GoesOnTelling (g.D.Desk.left l.initial.desk) (g.D.Desk.left l.desk);
}

abbrev pub decreases-loop-window : goal.decreases-loop-window
decreases-loop-window g l = l.window.limit + 1 - l.window.taken
