use Rattle.std.proofs.Common.{◌<◌, ap, ◌∙◌, arith}
use Rattle.steer_model.specs.Steps.Commands.{affects, gate_answer}
use Rattle.hop_core.proofs.Empties.{set_is_asked}
use Rattle.steer_core.proofs.actors.Actors.rx_gate.Goals as goal

pub affected-lanes-requires-clause-homes : goal.affected-lanes-requires-clause-homes
affected-lanes-requires-clause-homes c = let f = c.homes.ensures.few in omega arith

pub returns : goal.returns
returns c =
    let s = c.self.inside.rx in
    let p = c.self.inside.given in
    let many = c.self.invariant.0.kept.rx.sizes.cpus in
    let few = c.cpus.ensures.few in let is = c.cpus.ensures.value in
    rw (← c.self.view_is) (c.gate_answer.ensures
    ∙ ap (gate_answer s) (set_is_asked s c.affected-lanes.result (affects p c.args.command.now)
    (λ d lt. let below : d < 32 = omega arith in
    rw (c.homes.ensures.homes, c.cpus.ensures.value, c.txs.ensures.value) at
    (c.affected-lanes.ensures.lanes d below))))
