use Rattle.std.proofs.Common.{refl}
use Rattle.steer_base.specs.declared.step.Step.TheVariants as act
use Rattle.steer_core.proofs.TurnLemmas.{then-with}
use Rattle.steer_core.proofs.actors.Actors.ship_one.Goals as goal

pub returns-clause-turn : goal.returns-clause-turn
returns-clause-turn c =
    let tpull-tried =
    then-with {m = c.args.self.now.machine} {w = c.args.worked} refl (act.TPull c.args.t)
    c.tpull.ensures.state refl c.tpull.ensures.answer c.worked_by-worked.ensures in
    let tdeliver-tried =
    then-with tpull-tried (act.TDeliver c.args.t) c.tdeliver.ensures.state refl
    c.tdeliver.ensures.answer c.worked_by-worked-2.ensures in
    then-with tdeliver-tried (act.TRetire c.args.t) c.tretire.ensures.state refl
    c.tretire.ensures.answer c.worked_by.ensures
