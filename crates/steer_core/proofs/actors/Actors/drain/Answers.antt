use Rattle.std.proofs.Common.{◌<◌, refl, ◌∙◌, subst, sym}
use Rattle.steer_model.specs.State.Setup.{Setup}
use Rattle.steer_core.proofs.SameReplies.{sender-refl, sender-trans}
use Rattle.steer_model.specs.Steps.CompoundSteps.{drain_one}
use Rattle.steer_core.proofs.TurnLemmas.{again-start, again-then}
use Rattle.steer_core.proofs.actors.Actors.drain.Goals as goal

pub loop-init : goal.loop-init
loop-init c = (
  again-start (drain_one c.args.c) (c.args.self.now.machine, c.args.worked),
  refl,
  refl,
  λ a lt free. (free, sender-refl a c.args.self.now.machine),
)

pub loop-preserved : goal.loop-preserved
loop-preserved c =
    let done = c.drain_one-done.ensures in (
      again-then c.loop.counter (drain_one c.args.c) (c.args.self.now.machine, c.args.worked)
          (c.loop.self.machine, c.loop.done) (
            c.drain_one-done.new.self.machine,
            c.drain_one-done.result,
          )
          c.loop.invariant.0 done.turn,
      done.setup ∙ c.loop.invariant.1,
      done.rooms ∙ c.loop.invariant.2,
      λ a lt free. (
          let now = done.apps a (subst (λ (p : Setup). a < p.apps) (sym c.loop.invariant.1) lt)
          free in
          let before = c.loop.invariant.3 a lt now.0 in (
            before.0,
            sender-trans a c.args.self.now.machine c.loop.self.machine
                c.drain_one-done.new.self.machine before.1 now.1,
          )),
    )

pub returns-clause-apps : goal.returns-clause-apps
returns-clause-apps c = c.loop.invariant.3
