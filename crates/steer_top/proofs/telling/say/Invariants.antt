use Rattle.std.proofs.Common.{◌≤◌, take}
use Rattle.std.specs.Io.KnownBytes.{Appends}
use Rattle.std.specs.List.{flat_map}
use Rattle.steer_top.proofs.telling.say.Given as goal

-- the pieces so far went out
abbrev pub invariant-loop-piece : goal.invariant-loop-piece
invariant-loop-piece g l = record {
  written : Appends (g.E.Sink.written l.initial.err) (g.E.Sink.written l.err)
      (flat_map (λ piece. piece.now) (take l.piece-index l.pieces));
  later : g.E.Sink.faults l.initial.err ≤ g.E.Sink.faults l.err;
}
