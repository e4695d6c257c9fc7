use Rattle.std.proofs.Common.{◌∙◌, refl, sym, arith}
use Rattle.std.proofs.lemmas.List.{length-set}
use Rattle.taps.proofs.ShownLemmas.{partly-all, partly-next, partly-none}
use Rattle.taps.proofs.feeding.note_all.Goals as goal

pub loop-i-init : goal.loop-i-init
loop-i-init g c = record { count = refl; texts = λ lines here is. partly-none _ _ c.args.fed.now }

pub loop-i-preserved : goal.loop-i-preserved
loop-i-preserved g c =
    let l = c.loop-i in
    let test = c.loop-i-test.true in
    let count = l.invariant.count in
    record {
      count = length-set l.fed l.i c.note_next.new.fed ∙ count;
      texts = λ lines here is. partly-next _ _ l.i l.fed c.index-fed-i.result c.note_next.new.fed
          (omega (arith, test, count)) (c.in_ok-note_next.ensures lines here is)
          ∙ l.invariant.texts lines here is;
    }

pub returns : goal.returns
returns g c =
    let l = c.loop-i in
    let test = c.loop-i-test.false in
    let count = l.invariant.count in
    λ lines here is. sym (partly-all _ _ l.i l.fed (omega (arith, test, count)))
    ∙ l.invariant.texts lines here is
