use Rattle.backlog.specs.Puts.{new_lane}
use Rattle.hop_rule.specs.declared.step.Slot.TheVariants.{Middle}
use Rattle.hop_board.proofs.Names.{[], ◌∷◌, ◌++◌, Some, sym, ap, ◌∙◌, arith}
use Rattle.hop_board.proofs.Names.{map-range_with_len_more, new_middle}
use Rattle.hop_board.proofs.making.middle_slots.Goals as goal

pub loop-lane-preserved : goal.loop-lane-preserved
loop-lane-preserved c =
    let about = c.args.sizes.now in
    let lane = c.loop-lane.lane in
    let made = c.in_ok-middle.ensures ∙ ap (new_lane about.limit about.room about.start)
    c.has-limited.ensures in
    c.in_ok-push.ensures.items
    ∙ ((λ i. c.loop-lane.invariant i ++ Some (Middle (made i)) ∷ [])
    ∙ sym (map-range_with_len_more (new_middle about) 0 lane lane (omega arith)))
