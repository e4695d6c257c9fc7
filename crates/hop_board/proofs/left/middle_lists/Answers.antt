use Rattle.std.specs.Option.{option_to_list}
use Rattle.hop_board.specs.Left.{IsMiddleOf, middle_left}
use Rattle.hop_board.proofs.Names.{◌≡◌, ◌+◌, ◌-◌, ◌*◌, ℕ, [], ◌∷◌, ◌++◌, None, length}
use Rattle.hop_board.proofs.Names.{slice_index_or, sym, ap, ◌∙◌, subst, arith, slots_filled}
use Rattle.hop_board.proofs.Names.{slots_items, slots_len, vec_len, length-map-range_with_len}
use Rattle.hop_board.proofs.Names.{map-range_with_len_more, AreSpare, AreTakenTo, SLOTS_PER_LANE}
use Rattle.hop_board.proofs.Taking.{middle_found, popped_is, popped_left, taken_to}
use Rattle.hop_board.proofs.left.middle_lists.Goals as goal

pub middle_list-requires-clause-lane : goal.middle_list-requires-clause-lane
middle_list-requires-clause-lane c =
    let about = c.args.sizes.now in
    let inv = c.loop-lane.invariant in
    let lane = c.loop-lane.lane in
    let items = slots_items c.args.closed.now.slots in
    let less = c.loop-lane-test.true in
    let n : about.lanes - lane ≡ about.lanes - (lane + 1) + 1 = omega arith in
    let found = ap (λ xs. slice_index_or xs (SLOTS_PER_LANE * lane) None) (sym inv.same)
    ∙ c.take_lane-found.ensures.lane in
    let taken = c.pop.ensures.items ∙ ap (λ r. c.pop.new.self.items
    ++ option_to_list r) c.in-Some-Some.is-0 in
    let spare = popped_is c.loop-lane.accepted.items c.pop.new.self.items c.in-Some-Some.packets
    (about.lanes - (lane + 1)) about.room taken
    (subst (λ (k : ℕ). AreSpare k about.room c.loop-lane.accepted.items) n inv.accepted) in
    subst (λ (k : ℕ). IsMiddleOf k c.take_lane-found.result) (sym (ap (λ j. j.room) spare))
    (middle_found about items lane c.take_lane-found.result c.requires.lie less found)

pub middle_list-requires-clause-packets : goal.middle_list-requires-clause-packets
middle_list-requires-clause-packets c =
    let about = c.args.sizes.now in
    let lane = c.loop-lane.lane in
    let less = c.loop-lane-test.true in
    let n : about.lanes - lane ≡ about.lanes - (lane + 1) + 1 = omega arith in
    let taken = c.pop.ensures.items ∙ ap (λ r. c.pop.new.self.items
    ++ option_to_list r) c.in-Some-Some.is-0 in
    ap (λ j. j.items)
    (popped_is c.loop-lane.accepted.items c.pop.new.self.items c.in-Some-Some.packets
    (about.lanes - (lane + 1)) about.room taken
    (subst (λ (k : ℕ). AreSpare k about.room c.loop-lane.accepted.items) n
    c.loop-lane.invariant.accepted))

pub middle_list-requires-clause-fallen : goal.middle_list-requires-clause-fallen
middle_list-requires-clause-fallen c =
    let about = c.args.sizes.now in
    let lane = c.loop-lane.lane in
    let less = c.loop-lane-test.true in
    let n : about.lanes - lane ≡ about.lanes - (lane + 1) + 1 = omega arith in
    let taken = c.pop-in-loop-lane.ensures.items ∙ ap (λ r. c.pop-in-loop-lane.new.self.items
    ++ option_to_list r) c.in-Some-Some.is-1 in
    ap (λ j. j.items) (popped_is c.loop-lane.drops.items c.pop-in-loop-lane.new.self.items
    c.in-Some-Some.fallen (about.lanes - (lane + 1)) about.room taken
    (subst (λ (k : ℕ). AreSpare k about.room c.loop-lane.drops.items) n
    c.loop-lane.invariant.drops))

pub middle_list-requires-clause-room : goal.middle_list-requires-clause-room
middle_list-requires-clause-room c =
    let about = c.args.sizes.now in
    let lane = c.loop-lane.lane in
    let less = c.loop-lane-test.true in
    let n : about.lanes - lane ≡ about.lanes - (lane + 1) + 1 = omega arith in
    let taken = c.pop.ensures.items ∙ ap (λ r. c.pop.new.self.items
    ++ option_to_list r) c.in-Some-Some.is-0 in
    let other = c.pop-in-loop-lane.ensures.items ∙ ap (λ r. c.pop-in-loop-lane.new.self.items
    ++ option_to_list r) c.in-Some-Some.is-1 in
    ap (λ j. j.room) (popped_is c.loop-lane.drops.items c.pop-in-loop-lane.new.self.items
    c.in-Some-Some.fallen (about.lanes - (lane + 1)) about.room other
    (subst (λ (k : ℕ). AreSpare k about.room c.loop-lane.drops.items) n
    c.loop-lane.invariant.drops))
    ∙ sym (ap (λ j. j.room)
    (popped_is c.loop-lane.accepted.items c.pop.new.self.items c.in-Some-Some.packets
    (about.lanes - (lane + 1)) about.room taken
    (subst (λ (k : ℕ). AreSpare k about.room c.loop-lane.accepted.items) n
    c.loop-lane.invariant.accepted)))

pub push_reserved-requires : goal.push_reserved-requires
push_reserved-requires c =
    let inv = c.loop-lane.invariant in
    let items = slots_items c.args.closed.now.slots in
    let room = inv.room in
    let less = c.loop-lane-test.true in
    let long : vec_len c.loop-lane.lists ≡ c.loop-lane.lane =
    c.loop-lane.lists.ok.0
    ∙ (ap (λ l. length l) inv.lists
    ∙ length-map-range_with_len
    (λ l. middle_left (slice_index_or items (SLOTS_PER_LANE * l) None)) 0 c.loop-lane.lane) in
    omega arith

pub loop-lane-preserved : goal.loop-lane-preserved
loop-lane-preserved c =
    let about = c.args.sizes.now in
    let inv = c.loop-lane.invariant in
    let lane = c.loop-lane.lane in
    let items = slots_items c.args.closed.now.slots in
    let less = c.loop-lane-test.true in
    let n : about.lanes - lane ≡ about.lanes - (lane + 1) + 1 = omega arith in
    let found = ap (λ xs. slice_index_or xs (SLOTS_PER_LANE * lane) None) (sym inv.same)
    ∙ c.take_lane-found.ensures.lane in
    let taken = c.pop.ensures.items ∙ ap (λ r. c.pop.new.self.items
    ++ option_to_list r) c.in-Some-Some.is-0 in
    let other = c.pop-in-loop-lane.ensures.items ∙ ap (λ r. c.pop-in-loop-lane.new.self.items
    ++ option_to_list r) c.in-Some-Some.is-1 in
    let others = c.take_lane-found.ensures in
    let now = slots_filled c.take_lane-found.new.closed.slots in
    let next : SLOTS_PER_LANE * lane + SLOTS_PER_LANE ≡ SLOTS_PER_LANE * (lane + 1) = omega arith in
    let capacity = c.push_reserved.ensures.capacity in
    let room = inv.room in
    let count = inv.count in
    let all = c.requires.count in
    record {
      lists = c.push_reserved.ensures.items
          ∙ ((λ i. inv.lists i ++ (c.middle_list.ensures ∙ ap middle_left (sym found)) i ∷ [])
          ∙ sym (map-range_with_len_more
          (λ l. middle_left (slice_index_or items (SLOTS_PER_LANE * l) None)) 0 lane lane
          (omega arith)));
      room = omega arith;
      same = others.same ∙ inv.same;
      count = others.count ∙ inv.count;
      taken = subst (λ (k : ℕ). AreTakenTo k (slots_len c.take_lane-found.new.closed.slots) now)
          next (taken_to (SLOTS_PER_LANE * lane) SLOTS_PER_LANE
          (slots_len c.take_lane-found.new.closed.slots) (slots_filled c.loop-lane.closed.slots) now
          (subst (λ (k : ℕ). AreTakenTo (SLOTS_PER_LANE * lane) k
          (slots_filled c.loop-lane.closed.slots)) (sym others.count) inv.taken)
          others.taken others.left);
      accepted = popped_left c.loop-lane.accepted.items c.pop.new.self.items c.in-Some-Some.packets
          (about.lanes - (lane + 1)) about.room taken
          (subst (λ (k : ℕ). AreSpare k about.room c.loop-lane.accepted.items) n inv.accepted);
      drops = popped_left c.loop-lane.drops.items c.pop-in-loop-lane.new.self.items
          c.in-Some-Some.fallen (about.lanes - (lane + 1)) about.room other
          (subst (λ (k : ℕ). AreSpare k about.room c.loop-lane.drops.items) n inv.drops);
    }
