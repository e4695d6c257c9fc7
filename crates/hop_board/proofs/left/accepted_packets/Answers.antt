use Rattle.std.proofs.lemmas.List.{take_more}
use Rattle.std.proofs.lemmas.Option.{get_or_from_slice_get, slice_get_within}
use Rattle.steer_base.specs.Journals.{grown}
use Rattle.hop_board.proofs.Names.{[], ◌∷◌, ◌++◌, take, sym, ap, ◌∙◌, journal}
use Rattle.hop_board.proofs.left.accepted_packets.Goals as goal

pub loop-n-preserved : goal.loop-n-preserved
loop-n-preserved c =
    let xs = c.args.lane.now.accepted in
    let n = c.loop-n.n in
    let x = c.unwrap.result in
    let at = sym c.accepted_at.ensures ∙ c.unwrap.ensures in
    c.push.ensures
    ∙ (ap (λ j. grown j x) c.loop-n.invariant
    ∙ ap (λ ys. journal ys c.args.packets.room)
    (ap (λ y. take n xs ++ y ∷ []) (sym (get_or_from_slice_get xs n x x at))
    ∙ sym (take_more xs n x (slice_get_within xs n x at))))
