use Rattle.std.specs.Option.{option_to_list}
use Rattle.hop_board.proofs.Names.{[], ◌∷◌, ◌++◌, reverse, sym, ap, ◌∙◌, spaced}
use Rattle.hop_board.proofs.Opening.{spaced_back}
use Rattle.hop_board.proofs.making.spaced.Goals as goal

pub loop-slot-preserved : goal.loop-slot-preserved
loop-slot-preserved c =
    let x = c.in-Some.slot in
    let taken = c.pop.ensures.items ∙ ap (λ r. c.pop.new.self.items ++ option_to_list r)
    c.in-Some.is in
    spaced_back c.pop.new.self.items c.loop-slot.all.items c.push.new.self.items x
    (c.in_ok-push.ensures.items ∙ ap (λ l. l ++ x ∷ []) c.in_ok-push_empty.ensures)
    ∙ (ap (λ l. spaced l ++ reverse c.loop-slot.all.items) (sym taken) ∙ c.loop-slot.invariant)
