use Rattle.std.proofs.Common.{◌≡◌, arith, length}
use Rattle.good_check.proofs.ArrivedLemmas.{count-arrived}
use Rattle.good_check.proofs.case.Case.has_arrived.Goals as goal

pub returns-then-len-count-clause-no : goal.returns-then-len-count-clause-no
returns-then-len-count-clause-no c = λ h.
    let case = c.args.self.now in
    let count : length case.h.now.arrivals ≡ length case.given.now.packets =
    count-arrived case.h.now.arrivals (length case.given.now.packets) h.all in
    absurd (omega (
      arith,
      count,
      c.if-len-count.true,
      c.len.ensures,
      c.packet_count-count.ensures.value,
    ))
