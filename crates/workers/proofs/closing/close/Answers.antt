use Rattle.run_crew.specs.RunLaws.{RunEnds}
use Rattle.workers.specs.Left.{IsLeft, history_of}
use Rattle.workers.proofs.Names.{ap, length, subst, sym, ◌∙◌, Plan, Setup}
use Rattle.workers.proofs.closing.close.Goals as goal

pub put_together-requires : goal.put_together-requires
put_together-requires g c =
    record {
      port = c.left_lists_make_histories.ensures.port g.i c.args.run c.leave-left.result
          c.requires.1.0
          (subst (λ (p : Plan). IsLeft c.args.run (length p.queues) (length p.apps)
          c.leave-left.result) (sym c.requires.0) c.leave-left.ensures);
    }

pub returns : goal.returns
returns g c =
    let given = c.requires.1.0.back.boards.given in
    let left = c.leave-left.result in
    let is = subst (λ (p : Plan). IsLeft c.args.run (length p.queues) (length p.apps) left)
    (sym c.requires.0) c.leave-left.ensures in
    let history =
    c.put_together.ensures
    ∙ (ap (λ n. history_of n c.cut-cut.result c.args.plan.now.start left)
    (c.packet_count-total.ensures.value ∙ ap (λ (s : Setup). length s.packets) given)
    ∙ (ap (λ o. history_of (length g.i.packets) o c.args.plan.now.start left)
    (c.cut-cut.ensures ∙ ap (λ (s : Setup). s.cut) given)
    ∙ ap (λ (p : Plan). history_of (length g.i.packets) g.i.cut p.start left)
    (sym c.requires.0))) in
    subst (RunEnds g.i) (sym history)
    (c.left_lists_make_histories.ensures.ends g.i c.args.run left c.requires.1.0 is)
