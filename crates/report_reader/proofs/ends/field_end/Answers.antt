use Rattle.std.proofs.Common.{ap, ◌∙◌, arith}
use Rattle.report_reader.proofs.EndsLemmas.{plain-more}
use Rattle.report_reader.proofs.NumbersLemmas.{adds-up, next_number, number-more}
use Rattle.report_reader.proofs.ends.field_end.Goals as goal

pub loop-end-preserved : goal.loop-end-preserved
loop-end-preserved c =
    let i = c.loop-end.invariant in
    record {
      behind = omega (arith, i.behind);
      within = omega (arith, c.loop-end-test.true);
      plain = plain-more c.args.bytes.now c.args.at c.loop-end.end i.plain
          (c.is_stop.ensures.no c.if-is_stop.false);
      number = ap (next_number c.loop-end.number) c.from.ensures
          ∙ number-more 0 c.args.bytes.now c.args.at c.loop-end.end c.loop-end.number i.behind
          c.loop-end-test.true i.number;
    }

pub returns-then-is_stop-clause-number : goal.returns-then-is_stop-clause-number
returns-then-is_stop-clause-number c = adds-up _ _ c.loop-end.invariant.number

pub returns-clause-number : goal.returns-clause-number
returns-clause-number c = adds-up _ _ c.loop-end.invariant.number
