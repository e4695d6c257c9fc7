use Rattle.std.proofs.Common.{[], ◌∷◌, ◌++◌, ap, ◌∙◌}
use Rattle.steer_top.proofs.FlowLists.{flows-more}
use Rattle.steer_top.proofs.flow_list.FlowList.push.Goals as goal

pub returns-clause-ok : goal.returns-clause-ok
returns-clause-ok c =
    flows-more c.self.inside.long.items c.entry_of.new.long.items c.self.inside.entries.items
    c.push_reserved.new.self.items c.args.flow c.in_ok-entry.entry c.self.invariant.each
    c.in_ok-entry.ensures.ok
    (c.push_reserved.ensures.items
    ∙ ap (λ es. es ++ c.in_ok-entry.entry ∷ []) c.reserve.ensures.items)
    ∙ ap (λ flows. flows ++ c.args.flow ∷ []) c.self.view_is
