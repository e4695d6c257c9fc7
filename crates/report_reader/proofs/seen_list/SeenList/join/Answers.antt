use Rattle.std.proofs.Common.{◌∙◌, ap, arith, drop, length}
use Rattle.std.proofs.lemmas.List.{length_push}
use Rattle.report_reader.specs.Joined.{first_of, seen_lines}
use Rattle.report_reader.proofs.JoinedLemmas.{join-all, join-next, join-none, lines-long}
use Rattle.report_reader.proofs.JoinedLemmas.{lines-none}
use Rattle.report_reader.proofs.seen_list.SeenList.join.Goals as goal

pub loop-x-init : goal.loop-x-init
loop-x-init c =
    let ps = c.args.packets.items in
    let rs = c.args.replies.items in
    record {
      few = omega arith;
      long = ap length c.in_ok-numbers.ensures.items;
      joined = λ lines j. join-none ps rs lines j _
          (ap (seen_lines rs ps) c.in_ok-numbers.ensures.items ∙ lines-none rs ps);
    }

pub loop-x-preserved : goal.loop-x-preserved
loop-x-preserved c = record {
  few = omega (arith, c.loop-x.invariant.few, c.one_if-next.ensures.most);
  long =
      let e = ap length c.in_ok-push.ensures.items in
      let f = length_push c.loop-x.numbers.items c.number_of-number.result in
      let g = c.loop-x.invariant.long in
      omega (arith, e, f, g);
  joined = λ lines j.
      join-next c.args.packets.items c.args.replies.items lines j c.loop-x.x c.loop-x.next
      c.one_if-next.result c.number_of-number.result c.loop-x.numbers.items _
      c.reply_at-reply.result (omega (arith, c.loop-x-test.true, c.len-x-end.ensures))
      c.loop-x.invariant.long
      (c.loop-x.invariant.joined lines j)
      (c.reply_at-reply.ensures
      ∙ ap (λ rs. first_of c.loop-x.x (drop c.loop-x.next rs)) c.deref.ensures.value)
      c.one_if-next.ensures.none c.one_if-next.ensures.some
      c.number_of-number.ensures.none c.number_of-number.ensures.some c.in_ok-push.ensures.items;
}

pub returns-clause-long : goal.returns-clause-long
returns-clause-long c =
    let f = lines-long c.args.replies.items c.args.packets.items c.loop-x.numbers.items in
    omega (arith, f, c.loop-x.invariant.long, c.loop-x-test.false, c.loop-x.auto.x-end)

pub returns-clause-joined : goal.returns-clause-joined
returns-clause-joined c = λ lines j.
    join-all c.args.packets.items c.args.replies.items lines j c.loop-x.x _ _
    (omega (arith, c.loop-x-test.false, c.loop-x.auto.x-end)) (c.loop-x.invariant.joined lines j)
