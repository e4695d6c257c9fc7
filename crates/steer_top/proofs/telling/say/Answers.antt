use Rattle.std.proofs.Common.{ℕ, ◌+◌, List, [], ◌++◌, Bor, take, drop, get_or, inr, subst, arith}
use Rattle.std.specs.List.{flat_map}
use Rattle.outside_io.specs.Sink.{AppendsSome}
use Rattle.steer_top.proofs.Tellings.{AppendsSome-first, AppendsSome-next, flat_map_split}
use Rattle.steer_top.proofs.telling.say.Goals as goal

pub returns-in-Err : goal.returns-in-Err
returns-in-Err g c =
    let text : Bor (List ℕ) → List ℕ = λ piece. piece.now in
    let none : Bor (List ℕ) = record { ref_ptr = (0, 0); now = [] } in
    let pieces = c.args.pieces.now in
    let n = c.loop-piece.piece-index in
    let before = g.E.Sink.written c.args.err.now in
    let after = g.E.Sink.written c.write_whole.new.out in
    let so_far = flat_map text (take n pieces) in
    let piece = text (get_or pieces n none) in
    let rest = flat_map text (drop (n + 1) pieces) in
    let some = AppendsSome-next before
    (g.E.Sink.written c.loop-piece.err) after so_far piece c.loop-piece.invariant.written
    c.in-Err.ensures.part in
    let all = flat_map_split text n pieces none c.loop-piece-test.true in
    record {
      later = omega (arith, c.loop-piece.invariant.later, c.write_whole.ensures.later);
      took = inr (
        omega (arith, c.loop-piece.invariant.later, c.in-Err.ensures.fault),
        subst
            (AppendsSome before after) all
            (AppendsSome-first before after (so_far ++ piece) rest some),
      );
    }
