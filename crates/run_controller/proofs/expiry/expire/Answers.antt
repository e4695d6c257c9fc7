use Rattle.run_controller.proofs.Names.{◌∙◌, ap, gate_steps, visit, BoardSeatView}
use Rattle.run_controller.proofs.LoopLemmas.{entered}
use Rattle.run_controller.proofs.expiry.expire.Goals as goal

pub expire_all-count-requires-clause-table : goal.expire_all-count-requires-clause-table
expire_all-count-requires-clause-table g c =
    let enters = entered c.args.seat.now c.enter.new.seat c.enter.result c.enter.ensures.step
    (c.enter.ensures.closer c.requires.seated.closer) in
    ap (λ (s : BoardSeatView). s.table) enters.2 ∙ c.requires.seated.table

pub expire_all-count-requires-clause-inside : goal.expire_all-count-requires-clause-inside
expire_all-count-requires-clause-inside g c =
    let enters = entered c.args.seat.now c.enter.new.seat c.enter.result c.enter.ensures.step
    (c.enter.ensures.closer c.requires.seated.closer) in
    ap (λ (s : BoardSeatView). visit (gate_steps s.steps)) enters.2

pub leave-requires-clause-table : goal.leave-requires-clause-table
leave-requires-clause-table g c =
    let enters = entered c.args.seat.now c.enter.new.seat c.enter.result c.enter.ensures.step
    (c.enter.ensures.closer c.requires.seated.closer) in
    c.expire_all-count.ensures.table
    ∙ (ap (λ (s : BoardSeatView). s.table) enters.2 ∙ c.requires.seated.table)

pub returns : goal.returns
returns g c =
    let enters = entered c.args.seat.now c.enter.new.seat c.enter.result c.enter.ensures.step
    (c.enter.ensures.closer c.requires.seated.closer) in
    record {
      word = enters.0;
      first = c.enter.new.seat;
      last = c.expire_all-count.new.seat;
      unmarked = enters.1;
      enters = enters.2;
      all = c.expire_all-count.ensures.all;
      leaves = c.leave.ensures;
    }
