use Rattle.std.proofs.Common.{arith}
use Rattle.std.proofs.lemmas.Bool.{ne_eqb}
use Rattle.steer_base.proofs.CountersLemmas.{first_power-next, power-least}
use Rattle.steer_base.proofs.counter.round_up.Goals as goal

pub returns-else-n-eq0-clause-value : goal.returns-else-n-eq0-clause-value
returns-else-n-eq0-clause-value c =
    let p = c.next_power_of_two.ensures in
    rw (ne_eqb c.args.n 0 c.if-n-eq0.false)
    (first_power-next c.args.n c.next_power_of_two.result p.power
    (omega arith) c.requires p.lower_bound p.upper_bound)

pub returns-else-n-eq0-clause-least : goal.returns-else-n-eq0-clause-least
returns-else-n-eq0-clause-least c = λ k h.
    let p = c.next_power_of_two.ensures in
    power-least c.args.n c.next_power_of_two.result k p.power (omega arith) p.upper_bound h

pub returns-else-n-eq0-clause-bounded : goal.returns-else-n-eq0-clause-bounded
returns-else-n-eq0-clause-bounded c =
    let p = c.next_power_of_two.ensures in
    power-least c.args.n c.next_power_of_two.result 16 p.power
    (omega arith) p.upper_bound c.requires

pub returns-else-n-eq0-clause-receive_size : goal.returns-else-n-eq0-clause-receive_size
returns-else-n-eq0-clause-receive_size c = λ h.
    let p = c.next_power_of_two.ensures in
    power-least c.args.n c.next_power_of_two.result 15 p.power (omega arith) p.upper_bound h
