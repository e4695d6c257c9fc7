use Rattle.std.proofs.Common.{ap, ◌∙◌, ◌||◌}
use Rattle.std.specs.List.{list_any}
use Rattle.rule_check.specs.Pairs.{has_pair}
use Rattle.good_check.specs.Wants.{is_write_of}
use Rattle.good_check.proofs.ListLemmas.{any-next}
use Rattle.good_check.proofs.wants.all_writes.Goals as goal

pub loop-list-preserved : goal.loop-list-preserved
loop-list-preserved c = λ n m.
    c.in_ok-note_writes.ensures n m
    ∙ ap (λ ws. has_pair c.loop-list.set n m || list_any (is_write_of n m) ws) c.as_slice.ensures
    ∙ any-next (λ ws. list_any (is_write_of n m) ws) c.as_slice-list-items.result.now
    c.args.writes.now c.loop-list.list-index c.list-item.result (has_pair c.loop-list.set n m)
    c.as_slice-list-items.ensures c.loop-list-test.true c.list-item.is
    (c.loop-list.invariant n m)
