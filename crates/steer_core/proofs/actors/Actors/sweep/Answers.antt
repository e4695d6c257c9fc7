use Rattle.std.proofs.Common.{◌≡◌, false, length, refl, ap, ◌∙◌}
use Rattle.steer_model.specs.State.Machine.{Machine}
use Rattle.steer_model.specs.Steps.CompoundSteps.{most_rounds, rounds}
use Rattle.steer_core.specs.Running.{Running}
use Rattle.steer_core.proofs.TurnLemmas.{rounds-end, rounds-off, rounds-on, rounds-start}
use Rattle.steer_core.proofs.actors.Actors.sweep.Goals as goal

pub loop-init : goal.loop-init
loop-init c = (
  rounds-start c.most_rounds-end.result (c.args.self.now.machine, false),
  refl,
  refl,
  c.requires.room,
  c.requires.busy,
)

pub round-requires-clause-room : goal.round-requires-clause-room
round-requires-clause-room c = c.loop.invariant.3

pub round-requires-clause-busy : goal.round-requires-clause-busy
round-requires-clause-busy c = c.loop.invariant.4

pub returns-then-not-round-clause-turn : goal.returns-then-not-round-clause-turn
returns-then-not-round-clause-turn c =
    let m : Machine = c.args.self.now.machine in
    let most : c.most_rounds-end.result ≡ most_rounds (length m.setup.packets) =
    c.most_rounds-end.ensures ∙ ap most_rounds (c.packet_count.ensures.value
    ∙ ap (λ (r : Running). length r.machine.setup.packets) c.self.view_is) in
    rounds-off c.most_rounds-end.result c.loop.counter c.loop.self.machine c.round.new.self.machine
    c.loop.worked
    c.round.result _ c.loop-test.true c.round.ensures.turn c.if-not-round.true c.loop.invariant.0
    ∙ ap (λ k. rounds k (m, false)) most

pub returns-then-not-round-clause-setup : goal.returns-then-not-round-clause-setup
returns-then-not-round-clause-setup c = c.round.ensures.setup ∙ c.loop.invariant.1

pub returns-then-not-round-clause-rooms : goal.returns-then-not-round-clause-rooms
returns-then-not-round-clause-rooms c = c.round.ensures.rooms ∙ c.loop.invariant.2

pub loop-preserved : goal.loop-preserved
loop-preserved c =
    let once = c.round.ensures in (
      rounds-on c.most_rounds-end.result c.loop.counter c.loop.self.machine c.round.new.self.machine
          c.loop.worked
          c.round.result _ c.loop-test.true once.turn c.if-not-round.false c.loop.invariant.0,
      once.setup ∙ c.loop.invariant.1,
      once.rooms ∙ c.loop.invariant.2,
      once.spare,
      once.busy,
    )

pub returns-clause-turn : goal.returns-clause-turn
returns-clause-turn c =
    let m : Machine = c.args.self.now.machine in
    let most : c.most_rounds-end.result ≡ most_rounds (length m.setup.packets) =
    c.most_rounds-end.ensures ∙ ap most_rounds (c.packet_count.ensures.value
    ∙ ap (λ (r : Running). length r.machine.setup.packets) c.self.view_is) in
    rounds-end c.most_rounds-end.result c.loop.counter (c.loop.self.machine, c.loop.worked) _
    c.loop-test.false
    c.loop.invariant.0
    ∙ ap (λ k. rounds k (m, false)) most

pub returns-then-not-round-clause-busy : goal.returns-then-not-round-clause-busy
returns-then-not-round-clause-busy c = c.round.ensures.busy
