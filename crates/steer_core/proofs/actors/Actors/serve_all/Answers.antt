use Rattle.std.proofs.Common.{◌<◌, refl, ap, ◌∙◌, arith, subst}
use Rattle.steer_invariant.specs.Invariant.{Invariant}
use Rattle.steer_model.specs.State.Machine.{Machine}
use Rattle.steer_model.specs.State.Setup.{Setup}
use Rattle.steer_model.specs.Steps.CompoundSteps.{Progress, for_each, serve}
use Rattle.steer_core.specs.Running.{Running}
use Rattle.steer_core.proofs.Paced.{spare_at}
use Rattle.steer_core.proofs.PacedSteps.{serves-paced}
use Rattle.steer_core.proofs.TurnLemmas.{each-start, each-then}
use Rattle.steer_core.proofs.WalkLemmas.{serves-past}
use Rattle.steer_core.proofs.actors.Actors.serve_all.Goals as goal

pub loop-a-init : goal.loop-a-init
loop-a-init c = record {
  turn = each-start serve (c.args.self.now.machine, c.args.worked);
  within = omega arith;
  setup = refl;
  rooms = refl;
  busy = c.requires.busy;
}

pub serve_busy-done-requires-clause-room : goal.serve_busy-done-requires-clause-room
serve_busy-done-requires-clause-room c =
    let m : Machine = c.args.self.now.machine in
    let before = c.loop-a.invariant in
    spare_at _ _ m c.loop-a.self.machine (for_each c.loop-a.from serve (m, c.args.worked)).0
    (ap (λ (t : Progress). t.0) before.turn) before.rooms
    (serves-paced m c.sound.ensures c.loop-a.from c.args.worked before.within) c.requires.room

pub loop-a-preserved : goal.loop-a-preserved
loop-a-preserved c =
    let loop = c.loop-a in
    let before = loop.invariant in
    let view = c.self-in-loop-a.view_is in
    let next = c.in-Some.ensures.some in
    let done = c.serve_busy-done.ensures in
    let start : Progress = (c.args.self.now.machine, c.args.worked) in
    let held : Invariant loop.self.machine =
    subst (λ (r : Running). Invariant r.machine) view c.self-in-loop-a.invariant.0 in
    let lt : c.in-Some.a < loop.self.machine.setup.apps =
    (let count = c.apps.ensures.value ∙ ap (λ (r : Running). r.machine.setup.apps) view in
    omega (arith, next.0, count)) in
    let came =
    serves-past loop.self.machine loop.done loop.busy before.busy start loop.from c.in-Some.a
    next.1.low held.kept before.turn (omega (arith, lt)) next.1.before in
    record {
      turn = each-then c.in-Some.a serve start (loop.self.machine, loop.done)
          (c.serve_busy-done.new.self.machine, c.serve_busy-done.result) came done.turn;
      within = (
          let same = ap (λ (p : Setup). p.apps) before.setup in omega (arith, lt, same));
      setup = done.setup ∙ before.setup;
      rooms = done.rooms ∙ before.rooms;
      busy = done.busy;
    }

pub returns-clause-turn : goal.returns-clause-turn
returns-clause-turn c =
    let loop = c.loop-a in
    let before = loop.invariant in
    let view = c.self-in-loop-a.view_is in
    let start : Progress = (c.args.self.now.machine, c.args.worked) in
    let held : Invariant loop.self.machine =
    subst (λ (r : Running). Invariant r.machine) view c.self-in-loop-a.invariant.0 in
    let same = ap (λ (p : Setup). p.apps) before.setup in
    let count = c.apps.ensures.value ∙ ap (λ (r : Running). r.machine.setup.apps) view in
    serves-past loop.self.machine loop.done loop.busy before.busy start loop.from
    c.args.self.now.machine.setup.apps before.within held.kept before.turn
    (omega (arith, same))
    (λ a above below.
    c.in_default.ensures.none a above (omega (arith, below, same, count)))

pub returns-clause-spare : goal.returns-clause-spare
returns-clause-spare c =
    let m : Machine = c.args.self.now.machine in
    let before = c.loop-a.invariant in
    spare_at _ _ m c.loop-a.self.machine (for_each c.loop-a.from serve (m, c.args.worked)).0
    (ap (λ (t : Progress). t.0) before.turn) before.rooms
    (serves-paced m c.sound.ensures c.loop-a.from c.args.worked before.within) c.requires.room
