use Rattle.std.proofs.Common.{refl, sym, ◌∙◌}
use Rattle.steer_base.specs.declared.step.Step.TheVariants as act
use Rattle.steer_model.specs.State.Machine.{Machine}
use Rattle.steer_core.proofs.TurnLemmas.{then-with}
use Rattle.std.proofs.Common.{arith}
use Rattle.steer_core.proofs.SameReplies.{sender-deliver, sender-pull, sender-retire, sender-trans}
use Rattle.steer_core.proofs.actors.Actors.drain_one.Goals as goal

pub returns-clause-turn : goal.returns-clause-turn
returns-clause-turn c =
    let pull-tried =
    then-with {m = c.args.self.now.machine} {w = c.args.worked} refl (act.Pull c.args.c)
    c.pull.ensures.state refl c.pull.ensures.answer c.worked_by-worked.ensures in
    let deliver-tried =
    then-with pull-tried (act.Deliver c.args.c) c.deliver_to.ensures.state refl
    c.deliver_to.ensures.answer c.worked_by-worked-2.ensures in
    then-with deliver-tried (act.Retire c.args.c) c.retire.ensures.state refl
    c.retire.ensures.answer c.worked_by.ensures

pub returns-clause-apps : goal.returns-clause-apps
returns-clause-apps c =
    λ a lt free. (
    let few = c.sound.ensures.kept.given.few_apps in
    let mark = c.mark.ensures.marked a (omega (arith, lt, few)) free in
    let m : Machine = c.args.self.now.machine in
    let n : Machine = c.pull.new.self.machine in
    let o : Machine = c.deliver_to.new.self.machine in
    let p : Machine = c.retire.new.self.machine in (
      mark.0,
      sender-trans a m o p
          (sender-trans a m n o (sender-pull a c.args.c m n c.pull.ensures.state)
          (sender-deliver a c.args.c n o (λ e. mark.1 (e ∙ sym c.destination-to.ensures))
          c.deliver_to.ensures.state))
          (sender-retire a c.args.c o p c.retire.ensures.state),
    ))
