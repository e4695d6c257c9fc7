use Rattle.std.proofs.Common.{arith, ℕ, length-take, length-drop}
use Rattle.outside_io.proofs.Pieces.{Appends-next}
use Rattle.outside_io.proofs.writing.write_whole.Goals as goal

pub loop-done-preserved : goal.loop-done-preserved
loop-done-preserved g c = record {
  within = omega (arith, c.in-Bytes.ensures.written.1, length-take {A = ℕ}, length-drop {A = ℕ});
  written = Appends-next _ _ _ c.args.bytes.now c.loop-done.done c.in-Bytes.count
      c.loop-done.invariant.written c.in-Bytes.ensures.written.2;
  later = omega (arith, c.in-Bytes.ensures.later);
}
