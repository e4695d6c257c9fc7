use Rattle.std.proofs.Common.{rules, ◌+◌, ◌++◌, ◌∙◌, ap, arith, decimal, length, length-take-le}
use Rattle.std.proofs.Common.{take}
use Rattle.std.proofs.lemmas.List.{with_items_is, places}
use Rattle.report.proofs.DecimalLemmas.{length-decimal, placed-behind}
use Rattle.report.proofs.line.LineBuf.push_digits.Goals as goal

pub write_digits-requires : goal.write_digits-requires
write_digits-requires c =
    let line = c.self.inside in
    let digits = length-decimal c.ilog10.result c.args.number c.ranges.number.fits
    c.ilog10.ensures.power_le c.ilog10.ensures.next_power_gt in
    let front = length-take-le line.length line.room.items
    (omega (arith, c.self.invariant.0, c.self.invariant.1)) in
    let whole = ap length c.self.view_is in (
      omega (arith, digits),
      omega (
        arith,
        c.requires.room,
        whole,
        front,
        c.ilog10.ensures.bound,
        c.deref_mut.ensures.len,
        c.self.invariant.0,
      ),
    )

pub returns-clause-value : goal.returns-clause-value
returns-clause-value c =
    let line = c.self.inside in
    let n = c.args.number in
    let end = line.length + c.ilog10.result + 1 in
    let digits = length-decimal c.ilog10.result n c.ranges.number.fits c.ilog10.ensures.power_le
    c.ilog10.ensures.next_power_gt in
    let placed = placed-behind c.deref_mut.result.now c.write_digits.new.buf (decimal n)
    line.length c.write_digits.result end (omega (arith, c.write_digits.ensures.start, digits))
    c.write_digits.ensures.start c.write_digits.ensures.written c.write_digits.ensures.before in
    ap (take end) (with_items_is line.room c.write_digits.new.buf (search (rules, places)))
    ∙ placed
    ∙ ap (λ r. take line.length r ++ decimal n) c.deref_mut.ensures.value
    ∙ ap (λ r. r ++ decimal n) c.self.view_is
