use Rattle.std.proofs.Common.{◌<◌, refl, ap, ◌∙◌, arith}
use Rattle.steer_model.specs.State.Setup.{Setup}
use Rattle.steer_model.specs.Steps.CompoundSteps.{Progress, ship}
use Rattle.steer_core.specs.Running.{Running}
use Rattle.steer_core.proofs.TurnLemmas.{each-start, each-then}
use Rattle.steer_core.proofs.WalkLemmas.{ships-past}
use Rattle.steer_core.proofs.actors.Actors.ship_all.Goals as goal

pub loop-t-init : goal.loop-t-init
loop-t-init c = record {
  turn = each-start ship (c.args.self.now.machine, c.args.worked);
  within = omega arith;
  setup = refl;
  rooms = refl;
  busy = c.requires;
}

pub loop-t-preserved : goal.loop-t-preserved
loop-t-preserved c =
    let loop = c.loop-t in
    let before = loop.invariant in
    let view = c.self.view_is in
    let next = c.in-Some.ensures.some in
    let done = c.ship_busy-done.ensures in
    let start : Progress = (c.args.self.now.machine, c.args.worked) in
    let lt : c.in-Some.t < loop.self.machine.setup.txs =
    (let count = c.txs.ensures.value ∙ ap (λ (r : Running). r.machine.setup.txs) view in
    omega (arith, next.0, count)) in
    let came =
    ships-past loop.self.machine loop.done loop.busy before.busy start loop.from c.in-Some.t
    next.1.low before.turn (omega (arith, lt)) next.1.before in
    record {
      turn = each-then c.in-Some.t ship start (loop.self.machine, loop.done)
          (c.ship_busy-done.new.self.machine, c.ship_busy-done.result) came done.turn;
      within = (
          let same = ap (λ (p : Setup). p.txs) before.setup in omega (arith, lt, same));
      setup = done.setup ∙ before.setup;
      rooms = done.rooms ∙ before.rooms;
      busy = done.busy;
    }

pub returns-clause-turn : goal.returns-clause-turn
returns-clause-turn c =
    let loop = c.loop-t in
    let before = loop.invariant in
    let view = c.self.view_is in
    let start : Progress = (c.args.self.now.machine, c.args.worked) in
    let same = ap (λ (p : Setup). p.txs) before.setup in
    let count = c.txs.ensures.value ∙ ap (λ (r : Running). r.machine.setup.txs) view in
    ships-past loop.self.machine loop.done loop.busy before.busy start loop.from
    c.args.self.now.machine.setup.txs before.within before.turn
    (omega (arith, same))
    (λ t above below.
    c.in_default.ensures.none t above (omega (arith, below, same, count)))
