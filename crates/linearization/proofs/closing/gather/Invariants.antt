use Rattle.std.proofs.Common.{◌≡◌, ◌++◌, All}
use Rattle.linearization.proofs.closing.gather.Given as goal

abbrev pub invariant-loop-next : goal.invariant-loop-next
invariant-loop-next g l = record {
  table : l.all.table ≡ l.shared.table_id;
  left : All (λ s. s.table ≡ l.shared.table_id) l.seats.items;
  all : l.seats.items ++ l.all.seats ≡ l.initial.seats.items;
}

abbrev pub decreases-loop-next : goal.decreases-loop-next
decreases-loop-next g l = goal.left-loop-next g l
