use Rattle.std.proofs.Common.{ℕ, ap, refl}
use Rattle.steer_base.specs.declared.step.Step.TheVariants as act
use Rattle.steer_model.specs.State.Machine.{Machine}
use Rattle.steer_core.proofs.TurnLemmas.{then-idly, then-with}
use Rattle.std.proofs.Common.{subst, arith}
use Rattle.hop_model.specs.Hop.{HopState}
use Rattle.steer_core.specs.Resting.{PutsBeside}
use Rattle.steer_core.specs.Running.{Running}
use Rattle.steer_core.proofs.SameReplies.{tx-put, tx-still, tx-trans}
use Rattle.steer_core.proofs.actors.Actors.reply.Goals as goal

pub returns-clause-turn : goal.returns-clause-turn
returns-clause-turn c =
    let tenter-tried =
    then-idly {m = c.args.self.now.machine} {w = c.args.worked} refl (act.TEnter c.args.a)
    c.tenter.ensures.state refl in
    let send-tried =
    then-with tenter-tried (act.Send c.args.a) c.send.ensures.state refl
    c.send.ensures.answer c.worked_by-worked.ensures in
    let tweigh-tried =
    then-with send-tried (act.TWeigh c.args.a) c.tweigh.ensures.state refl
    c.tweigh.ensures.answer c.worked_by-worked-2.ensures in
    let tput-tried =
    then-with tweigh-tried (act.TPut c.args.a) c.tput.ensures.state refl
    c.tput.ensures.answer c.worked_by-worked-3.ensures in
    then-idly tput-tried (act.TLeave c.args.a) c.tleave.ensures.state refl

pub returns-clause-txs : goal.returns-clause-txs
returns-clause-txs c =
    λ x lt free. (
    let few = c.sound.ensures.kept.given.few_txs in
    let mark = c.mark_next.ensures x (omega (arith, lt, few)) free in
    let a : ℕ = c.args.a in
    let k : Machine = c.args.self.now.machine in
    let l : Machine = c.tenter.new.self.machine in
    let m : Machine = c.send.new.self.machine in
    let n : Machine = c.tweigh.new.self.machine in
    let o : Machine = c.tput.new.self.machine in
    let p : Machine = c.tleave.new.self.machine in
    let other : PutsBeside n.tx a x =
    subst (λ (s : HopState). PutsBeside s a x)
    (ap (λ (r : Running). r.machine.tx) c.self.view_is) mark.1 in (
      mark.0,
      tx-trans x k o p
          (tx-trans x k n o
          (tx-trans x k m n
          (tx-trans x k l m (tx-still x k l (act.TEnter a) refl c.tenter.ensures.state)
          (tx-still x l m (act.Send a) refl c.send.ensures.state))
          (tx-still x m n (act.TWeigh a) refl c.tweigh.ensures.state))
          (tx-put x a n o other c.tput.ensures.state))
          (tx-still x o p (act.TLeave a) refl c.tleave.ensures.state),
    ))
