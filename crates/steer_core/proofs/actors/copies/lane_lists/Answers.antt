use Rattle.std.proofs.Common.{ℕ, ◌++◌, ◌∷◌, [], List, map, ap, sym, ◌∙◌, arith}
use Rattle.std.specs.List.{range_with_len}
use Rattle.std.proofs.lemmas.List.FromFn.{map-range_with_len_more}
use Rattle.history.specs.declared.lane_list.LaneList.{LaneList}
use Rattle.steer_model.specs.State.Machine.{lane_list}
use Rattle.steer_core.proofs.actors.copies.lane_lists.Goals as goal

pub loop-lane-preserved : goal.loop-lane-preserved
loop-lane-preserved c =
    let list : ℕ → LaneList = lane_list c.args.hop.now.bare in
    let before : List LaneList = map list (range_with_len 0 c.loop-lane.lane) in
    c.in_ok-push.ensures.items
    ∙ ap (λ (xs : List LaneList). xs ++ c.in_ok-lane_list.field-0 ∷ []) c.loop-lane.invariant
    ∙ ap (λ (x : LaneList). before ++ x ∷ []) c.in_ok-lane_list.ensures
    ∙ sym (map-range_with_len_more list 0 c.loop-lane.lane c.loop-lane.lane (omega arith))
