use Rattle.std.proofs.Common.{◌∙◌, arith, get_or, length, ap}
use Rattle.std.proofs.lemmas.List.{length_push}
use Rattle.report_reader.proofs.PlacesLemmas.{made-more}
use Rattle.report_reader.proofs.shelf.Places.make.Goals as goal

pub loop-n-preserved : goal.loop-n-preserved
loop-n-preserved c = record {
  lists =
      let e = ap length c.in_ok-push.ensures.items in
      let f = length_push c.loop-n.lists.items c.in_ok-zeros.field-0 in
      let g = c.loop-n.invariant.lists in
      omega (arith, e, f, g);
  long = made-more (λ list. list.items) c.loop-n.lists.items _ c.in_ok-zeros.field-0 c.loop-n.n
      (λ k. get_or c.args.counts.now k 0) c.in_ok-push.ensures.items c.loop-n.invariant.lists
      (c.in_ok-zeros.ensures ∙ c.count_at.ensures) c.loop-n.invariant.long;
}
