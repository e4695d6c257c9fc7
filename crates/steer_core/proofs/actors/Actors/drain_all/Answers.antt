use Rattle.std.proofs.Common.{◌<◌, refl, ap, ◌∙◌, arith}
use Rattle.steer_model.specs.State.Setup.{Setup}
use Rattle.steer_model.specs.Steps.CompoundSteps.{Progress, drain}
use Rattle.steer_core.specs.Running.{Running}
use Rattle.steer_core.proofs.TurnLemmas.{each-start, each-then}
use Rattle.steer_core.proofs.WalkLemmas.{drains-past}
use Rattle.steer_core.proofs.actors.Actors.drain_all.Goals as goal

pub loop-c-init : goal.loop-c-init
loop-c-init c = record {
  turn = each-start drain (c.args.self.now.machine, c.args.worked);
  within = omega arith;
  setup = refl;
  rooms = refl;
  busy = c.requires;
}

pub loop-c-preserved : goal.loop-c-preserved
loop-c-preserved c =
    let loop = c.loop-c in
    let before = loop.invariant in
    let view = c.self.view_is in
    let next = c.in-Some.ensures.some in
    let done = c.drain_busy-done.ensures in
    let start : Progress = (c.args.self.now.machine, c.args.worked) in
    let lt : c.in-Some.c < loop.self.machine.setup.cpus =
    (let count = c.cpus.ensures.value ∙ ap (λ (r : Running). r.machine.setup.cpus) view in
    omega (arith, next.0, count)) in
    let came =
    drains-past loop.self.machine loop.done loop.busy before.busy start loop.from c.in-Some.c
    next.1.low before.turn (omega (arith, lt)) next.1.before in
    record {
      turn = each-then c.in-Some.c drain start (loop.self.machine, loop.done)
          (c.drain_busy-done.new.self.machine, c.drain_busy-done.result) came done.turn;
      within = (
          let same = ap (λ (p : Setup). p.cpus) before.setup in omega (arith, lt, same));
      setup = done.setup ∙ before.setup;
      rooms = done.rooms ∙ before.rooms;
      busy = done.busy;
    }

pub returns-clause-turn : goal.returns-clause-turn
returns-clause-turn c =
    let loop = c.loop-c in
    let before = loop.invariant in
    let view = c.self.view_is in
    let start : Progress = (c.args.self.now.machine, c.args.worked) in
    let same = ap (λ (p : Setup). p.cpus) before.setup in
    let count = c.cpus.ensures.value ∙ ap (λ (r : Running). r.machine.setup.cpus) view in
    drains-past loop.self.machine loop.done loop.busy before.busy start loop.from
    c.args.self.now.machine.setup.cpus before.within before.turn
    (omega (arith, same))
    (λ d above below.
    c.in_default.ensures.none d above (omega (arith, below, same, count)))
