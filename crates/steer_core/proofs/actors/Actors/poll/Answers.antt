use Rattle.std.proofs.Common.{ℕ, ap, refl, ◌∙◌}
use Rattle.steer_base.specs.declared.step.Step.TheVariants as act
use Rattle.steer_model.specs.State.Machine.{Machine}
use Rattle.steer_core.proofs.TurnLemmas.{then-idly, then-with}
use Rattle.std.proofs.Common.{subst, arith}
use Rattle.hop_model.specs.Hop.{HopState}
use Rattle.steer_core.specs.Resting.{PutsBeside}
use Rattle.steer_core.specs.Running.{Running}
use Rattle.steer_core.proofs.SameLanes.{accepts-by, accepts-put, same-cpu}
use Rattle.steer_core.proofs.actors.Actors.poll.Goals as goal

pub returns-clause-turn : goal.returns-clause-turn
returns-clause-turn c =
    let enter-tried =
    then-idly {m = c.args.self.now.machine} {w = c.args.worked} refl (act.Enter c.args.q)
    c.enter.ensures.state refl in
    let take-tried =
    then-with enter-tried (act.Take c.args.q) c.take.ensures.state refl
    c.take.ensures.answer c.worked_by-worked.ensures in
    let look-tried =
    then-with take-tried (act.Look c.args.q) c.look.ensures.state refl
    c.look.ensures.answer c.worked_by-worked-2.ensures in
    let weigh-tried =
    then-with look-tried (act.Weigh c.args.q) c.weigh.ensures.state refl
    c.weigh.ensures.answer c.worked_by-worked-3.ensures in
    let put-tried =
    then-with weigh-tried (act.Put c.args.q) c.put.ensures.state refl
    c.put.ensures.answer c.worked_by-worked-4.ensures in
    let ask-tried =
    then-with put-tried (act.Ask c.args.q) c.ask.ensures.state refl
    c.ask.ensures.answer c.worked_by-worked-5.ensures in
    then-idly ask-tried (act.Leave c.args.q) c.leave.ensures.state refl

pub returns-clause-cpus : goal.returns-clause-cpus
returns-clause-cpus c =
    λ x lt free. (
    let few = c.sound.ensures.kept.given.few_cpus in
    let mark = c.mark_next.ensures x (omega (arith, lt, few)) free in
    let q : ℕ = c.args.q in
    let m : Machine = c.args.self.now.machine in
    let n : Machine = c.weigh.new.self.machine in
    let o : Machine = c.put.new.self.machine in
    let p : Machine = c.leave.new.self.machine in
    let other : PutsBeside n.rx q x =
    subst (λ (s : HopState). PutsBeside s q x)
    (ap (λ (r : Running). r.machine.rx) c.self.view_is) mark.1 in
    let before =
    accepts-by x c.look.new.self.machine n (act.Weigh q) refl c.weigh.ensures.state
    ∙ accepts-by x c.take.new.self.machine c.look.new.self.machine (act.Look q) refl
    c.look.ensures.state
    ∙ accepts-by x c.enter.new.self.machine c.take.new.self.machine (act.Take q) refl
    c.take.ensures.state
    ∙ accepts-by x m c.enter.new.self.machine (act.Enter q) refl c.enter.ensures.state in
    let after =
    accepts-by x c.ask.new.self.machine p (act.Leave q) refl c.leave.ensures.state
    ∙ accepts-by x o c.ask.new.self.machine (act.Ask q) refl c.ask.ensures.state in (
      mark.0,
      same-cpu x q m p c.args.worked c.worked_by-worked-5.result (returns-clause-turn c)
          (after ∙ accepts-put x q n o other c.put.ensures.state ∙ before),
    ))
