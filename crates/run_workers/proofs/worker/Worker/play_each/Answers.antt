use Rattle.run_workers.proofs.Names.{arith, stage_view, Plays, actors}
use Rattle.run_workers.proofs.SameLemmas.{as_many, goes_both, goes_first}
use Rattle.run_workers.proofs.TurnLemmas.{actors_counted, first_all, first_next, first_none}
use Rattle.run_workers.proofs.TurnLemmas.{goes_grow, others_both, others_same}
use Rattle.run_workers.proofs.worker.Worker.play_each.Goals as goal

pub loop-i-init : goal.loop-i-init
loop-i-init g c = (
  goes_first _ c.args.self.now c.args.seats.now c.requires.is,
  first_none (Plays (stage_view (g.B.Board.view c.args.stage.now.rx)
      (g.B.Board.view c.args.stage.now.tx) c.args.stage.now.shared c.args.stage.now.late.items)
      c.args.part) _ (actors c.args.part c.args.self.now) c.args.seats.now,
  others_same c.args.part c.args.self.now,
)

pub play-went-requires-clause-within : goal.play-went-requires-clause-within
play-went-requires-clause-within g c =
    let less = c.loop-i-test.true in
    let count = c.count-i-end.ensures in
    let same =
    as_many c.args.part c.args.self.now c.loop-i.self _ _ c.loop-i.invariant.0.same in
    omega (arith, less, count, same)

pub play-went-requires-clause-is : goal.play-went-requires-clause-is
play-went-requires-clause-is g c = c.loop-i.invariant.0.is

pub loop-i-preserved : goal.loop-i-preserved
loop-i-preserved g c = (
  goes_both _ c.args.self.now c.loop-i.self _ c.args.seats.now c.loop-i.seats _
      c.loop-i.invariant.0 c.play-went.ensures.goes,
  first_next _ c.loop-i.i c.loop-i.did c.play-went.result _ _ _ c.args.seats.now c.loop-i.seats _
      (goes_grow _ c.args.self.now c.loop-i.self c.args.seats.now c.loop-i.seats
      c.loop-i.invariant.0)
      (goes_grow _ c.loop-i.self _ c.loop-i.seats _ c.play-went.ensures.goes)
      c.loop-i.invariant.1 c.play-went.ensures.one,
  others_both c.args.part c.args.self.now c.loop-i.self _ c.loop-i.invariant.2
      c.play-went.ensures.others,
)

pub returns : goal.returns
returns g c =
    let done = c.loop-i-test.false in
    let count = c.count-i-end.ensures in
    let same =
    as_many c.args.part c.args.self.now c.loop-i.self _ _ c.loop-i.invariant.0.same in
    let all = actors_counted c.args.part c.loop-i.self in
    record {
      goes = c.loop-i.invariant.0;
      calls = first_all _ c.loop-i.i c.loop-i.did _ _ c.args.seats.now c.loop-i.seats
          (omega (arith, done, count, same, all)) c.loop-i.invariant.1;
      others = c.loop-i.invariant.2;
    }
