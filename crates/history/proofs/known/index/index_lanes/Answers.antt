use Rattle.std.proofs.Common.{◌+◌, ◌≡◌, ap, arith, length, take, take_all}
use Rattle.std.specs.Option.{option_map}
use Rattle.history.specs.Lines.{choice_in}
use Rattle.history.proofs.IndexLemmas.{index-mapped, index-next, value_at-lanes}
use Rattle.history.proofs.known.index.index_lanes.Goals as goal

pub loop-list-preserved : goal.loop-list-preserved
loop-list-preserved c =
    index-next (λ d. d.id) (λ i d. d.choice.lane) (λ list. list)
    (λ x list. option_map (λ d. d.lane) (choice_in x list))
    (λ x list. value_at-lanes x list 0) c.args.count c.loop-list.list-index
    (c.loop-list.list-index + 1)
    c.loop-list.index c.note_lanes.new.index c.as_slice-list-items.result.now c.args.lists.now
    c.list-item.result
    c.as_slice-list-items.ensures c.loop-list-test.true c.list-item.is
    (omega arith) c.note_lanes.ensures c.loop-list.invariant

pub returns : goal.returns
returns c =
    let lists = c.args.lists.now in
    let i = c.loop-list.list-index in
    let all : take i lists ≡ lists =
    take_all i lists
    (omega (arith, c.loop-list-test.false, ap length c.as_slice-list-items.ensures)) in
    index-mapped (λ d. d.lane) choice_in c.args.count c.loop-list.index (take i lists) lists all
    c.loop-list.invariant
