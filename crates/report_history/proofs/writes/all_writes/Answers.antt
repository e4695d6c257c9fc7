use Rattle.std.proofs.Common.{arith}
use Rattle.report_history.specs.Shown.{own_write}
use Rattle.report_history.proofs.ChoicesLemmas.{nothing-left}
use Rattle.report_history.proofs.WritesLemmas.{lists-are}
use Rattle.report_history.proofs.writes.all_writes.Goals as goal

pub returns : goal.returns
returns c =
    lists-are c.args.writes.now c.args.apps c.loop-write.lists.items c.loop-write.invariant.long
    (λ a l. nothing-left (own_write a) c.args.writes.now c.loop-write.write-index _ (omega (
      arith,
      c.loop-write-test.false,
      c.loop-write.auto.write-index-end,
    )) (c.loop-write.invariant.each a l))
