use Rattle.std.proofs.Common.{slice_index_or}
use Rattle.std.proofs.lemmas.Option.{slice_get-get_or}
use Rattle.run_crew.proofs.Names.{arith, stage_view}
use Rattle.run_crew.proofs.RoundLemmas.{all_after, go_first, go_set}
use Rattle.run_crew.proofs.rounds.play_each.Goals as goal

pub loop-i-init : goal.loop-i-init
loop-i-init g c = go_first _ c.args.crew.now c.requires.work

pub play-requires : goal.play-requires
play-requires g c =
    let test = c.loop-i-test.true in
    let count = c.loop-i.invariant.count in
    let there =
    slice_get-get_or c.loop-i.crew c.loop-i.i c.index-crew-i.result
    (omega (arith, test, count)) in
    record {
      work = all_after (stage_view (g.B.Board.view c.args.stage.now.rx)
          (g.B.Board.view c.args.stage.now.tx) c.args.stage.now.shared
          c.args.stage.now.late.items) c.args.crew.now c.loop-i.crew c.loop-i.invariant c.loop-i.i
          (slice_index_or c.loop-i.crew c.loop-i.i c.index-crew-i.result) there;
    }

pub loop-i-preserved : goal.loop-i-preserved
loop-i-preserved g c =
    let test = c.loop-i-test.true in
    let count = c.loop-i.invariant.count in
    let there =
    slice_get-get_or c.loop-i.crew c.loop-i.i c.index-crew-i.result
    (omega (arith, test, count)) in
    go_set (stage_view (g.B.Board.view c.args.stage.now.rx) (g.B.Board.view c.args.stage.now.tx)
    c.args.stage.now.shared c.args.stage.now.late.items) c.args.crew.now c.loop-i.crew c.loop-i.i
    (slice_index_or c.loop-i.crew c.loop-i.i c.index-crew-i.result) c.play.new.seated
    c.loop-i.invariant there c.play.ensures.goes
