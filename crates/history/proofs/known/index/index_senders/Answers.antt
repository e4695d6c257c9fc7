use Rattle.std.proofs.Common.{◌+◌, ◌≡◌, ap, arith, length, take, take_all}
use Rattle.std.specs.Option.{option_map}
use Rattle.history.specs.Finding.{found}
use Rattle.history.proofs.IndexLemmas.{index-mapped, index-next, value_at-mapped}
use Rattle.history.proofs.known.index.index_senders.Goals as goal

pub loop-list-preserved : goal.loop-list-preserved
loop-list-preserved c =
    index-next (λ s. s.id) (λ i s. s.cpu) (λ list. list)
    (λ x list. option_map (λ s. s.cpu) (found (λ s. s.id) x list))
    (λ x list. value_at-mapped (λ s. s.cpu) (λ s. s.id) x list 0) c.args.count
    c.loop-list.list-index (c.loop-list.list-index + 1)
    c.loop-list.index c.note_senders.new.index c.as_slice-list-items.result.now c.args.lists.now
    c.list-item.result
    c.as_slice-list-items.ensures c.loop-list-test.true c.list-item.is
    (omega arith) c.note_senders.ensures c.loop-list.invariant

pub returns : goal.returns
returns c =
    let lists = c.args.lists.now in
    let i = c.loop-list.list-index in
    let all : take i lists ≡ lists =
    take_all i lists
    (omega (arith, c.loop-list-test.false, ap length c.as_slice-list-items.ensures)) in
    index-mapped (λ s. s.cpu) (found (λ s. s.id)) c.args.count c.loop-list.index (take i lists)
    lists all c.loop-list.invariant
