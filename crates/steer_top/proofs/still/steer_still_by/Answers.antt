use Rattle.std.proofs.Common.{◌∙◌, sym}
use Rattle.steer_top.proofs.Answered.{answered}
use Rattle.steer_top.proofs.Statuses.{done_of}
use Rattle.steer_top.proofs.still.steer_still_by.Goals as goal

pub returns-clause-call : goal.returns-clause-call
returns-clause-call g c =
    let law = c.a_call_is_decided.ensures in
    rw c.status.ensures
    (answered law.once law.apart c.every_report_has_the_headline.ensures
    c.every_run_has_the_headline.ensures _ _ _ c.carry_out-ending.result
    c.carry_out-ending.ensures.ends c.tell.ensures.line)

pub returns-clause-sent : goal.returns-clause-sent
returns-clause-sent g c = λ status.
    c.carry_out-ending.ensures.sent
    (done_of c.carry_out-ending.result (sym c.status.ensures ∙ status))
