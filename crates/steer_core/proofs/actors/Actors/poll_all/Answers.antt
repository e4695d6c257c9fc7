use Rattle.std.proofs.Common.{◌<◌, length, refl, ap, ◌∙◌, arith, subst}
use Rattle.steer_invariant.specs.Invariant.{Invariant}
use Rattle.steer_model.specs.State.Setup.{Setup}
use Rattle.steer_model.specs.Steps.CompoundSteps.{Progress, poll}
use Rattle.steer_core.specs.Running.{Running}
use Rattle.steer_core.proofs.TurnLemmas.{each-start, each-then}
use Rattle.steer_core.proofs.WalkLemmas.{polls-past}
use Rattle.steer_core.proofs.actors.Actors.poll_all.Goals as goal

pub loop-q-init : goal.loop-q-init
loop-q-init c = record {
  turn = each-start poll (c.args.self.now.machine, c.args.worked);
  within = omega arith;
  setup = refl;
  rooms = refl;
  busy = c.requires;
}

pub loop-q-preserved : goal.loop-q-preserved
loop-q-preserved c =
    let loop = c.loop-q in
    let before = loop.invariant in
    let view = c.self.view_is in
    let next = c.in-Some.ensures.some in
    let done = c.poll_busy-done.ensures in
    let start : Progress = (c.args.self.now.machine, c.args.worked) in
    let held : Invariant loop.self.machine =
    subst (λ (r : Running). Invariant r.machine) view c.self.invariant.0 in
    let lt : c.in-Some.q < length loop.self.machine.setup.homes =
    (let count = c.queues.ensures.value ∙ ap (λ (r : Running). length r.machine.setup.homes) view in
    omega (arith, next.0, count)) in
    let came =
    polls-past loop.self.machine loop.done loop.busy before.busy start loop.from c.in-Some.q
    next.1.low held.kept before.turn (omega (arith, lt)) next.1.before in
    record {
      turn = each-then c.in-Some.q poll start (loop.self.machine, loop.done)
          (c.poll_busy-done.new.self.machine, c.poll_busy-done.result) came done.turn;
      within = (
          let same = ap (λ (p : Setup). length p.homes) before.setup in omega (arith, lt, same));
      setup = done.setup ∙ before.setup;
      rooms = done.rooms ∙ before.rooms;
      busy = done.busy;
    }

pub returns-clause-turn : goal.returns-clause-turn
returns-clause-turn c =
    let loop = c.loop-q in
    let before = loop.invariant in
    let view = c.self.view_is in
    let start : Progress = (c.args.self.now.machine, c.args.worked) in
    let held : Invariant loop.self.machine =
    subst (λ (r : Running). Invariant r.machine) view c.self.invariant.0 in
    let same = ap (λ (p : Setup). length p.homes) before.setup in
    let count = c.queues.ensures.value ∙ ap (λ (r : Running). length r.machine.setup.homes) view in
    polls-past loop.self.machine loop.done loop.busy before.busy start loop.from
    (length c.args.self.now.machine.setup.homes) before.within held.kept before.turn
    (omega (arith, same))
    (λ q above below.
    c.in_default.ensures.none q above (omega (arith, below, same, count)))
