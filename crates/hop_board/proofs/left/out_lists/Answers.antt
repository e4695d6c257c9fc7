use Rattle.hop_board.specs.Left.{out_left}
use Rattle.hop_board.proofs.Names.{◌≡◌, ◌+◌, ◌*◌, ℕ, [], ◌∷◌, ◌++◌, None, length, slice_index_or}
use Rattle.hop_board.proofs.Names.{sym, ap, ◌∙◌, subst, arith, slots_filled, slots_items, slots_len}
use Rattle.hop_board.proofs.Names.{vec_len, length-map-range_with_len, map-range_with_len_more}
use Rattle.hop_board.proofs.Names.{AreFullFrom, AreTakenFrom, SLOTS_PER_LANE}
use Rattle.hop_board.proofs.Taking.{more_taken, out_found}
use Rattle.hop_board.proofs.left.out_lists.Goals as goal

pub out_list-requires : goal.out_list-requires
out_list-requires c =
    let about = c.args.sizes.now in
    let out = c.loop-out.out in
    let items = slots_items c.args.closed.now.slots in
    let less = c.loop-out-test.true in
    out_found about items out c.take_lane-found.result c.requires.lie less
    (ap (λ xs. slice_index_or xs (SLOTS_PER_LANE * (about.lanes + out)) None)
    (sym c.loop-out.invariant.same) ∙ c.take_lane-found.ensures.lane)

pub push_reserved-requires : goal.push_reserved-requires
push_reserved-requires c =
    let about = c.args.sizes.now in
    let inv = c.loop-out.invariant in
    let items = slots_items c.args.closed.now.slots in
    let room = inv.room in
    let less = c.loop-out-test.true in
    let long : vec_len c.loop-out.lists ≡ c.loop-out.out =
    c.loop-out.lists.ok.0
    ∙ (ap (λ l. length l) inv.lists
    ∙ length-map-range_with_len
    (λ o. out_left (slice_index_or items (SLOTS_PER_LANE * (about.lanes + o)) None)) 0
    c.loop-out.out) in
    omega arith

pub loop-out-preserved : goal.loop-out-preserved
loop-out-preserved c =
    let about = c.args.sizes.now in
    let inv = c.loop-out.invariant in
    let out = c.loop-out.out in
    let items = slots_items c.args.closed.now.slots in
    let less = c.loop-out-test.true in
    let found = ap (λ xs. slice_index_or xs (SLOTS_PER_LANE * (about.lanes + out)) None)
    (sym inv.same) ∙ c.take_lane-found.ensures.lane in
    let others = c.take_lane-found.ensures in
    let capacity = c.push_reserved.ensures.capacity in
    let room = inv.room in
    let count = inv.count in
    let all = c.requires.count in
    let old = slots_filled c.loop-out.closed.slots in
    let new = slots_filled c.take_lane-found.new.closed.slots in
    let many = slots_len c.take_lane-found.new.closed.slots in
    let next : SLOTS_PER_LANE * (about.lanes + out) + SLOTS_PER_LANE
    ≡ SLOTS_PER_LANE * (about.lanes + (out + 1)) = omega arith in
    let more : SLOTS_PER_LANE * out + SLOTS_PER_LANE ≡ SLOTS_PER_LANE * (out + 1) = omega arith in
    record {
      lists = c.push_reserved.ensures.items
          ∙ ((λ i. inv.lists i ++ (c.out_list.ensures ∙ ap out_left (sym found)) i ∷ [])
          ∙ sym (map-range_with_len_more
          (λ o. out_left (slice_index_or items (SLOTS_PER_LANE * (about.lanes + o)) None)) 0 out out
          (omega arith)));
      room = omega arith;
      same = others.same ∙ inv.same;
      count = others.count ∙ inv.count;
      left = subst (λ (k : ℕ). AreFullFrom k many new) next others.left;
      taken = subst (λ (k : ℕ). AreTakenFrom (SLOTS_PER_LANE * about.lanes) k
          (slots_filled c.args.closed.now.slots) new) more
          (more_taken (slots_filled c.args.closed.now.slots) old new (SLOTS_PER_LANE * about.lanes)
          (SLOTS_PER_LANE * out) SLOTS_PER_LANE (SLOTS_PER_LANE * (about.lanes + out)) (omega arith)
          inv.taken others.taken);
    }
