use Rattle.board_api.specs.Seats.{ordered_seat}
use Rattle.hop_board.proofs.Names.{◌≡◌, ◌++◌, All, map}
use Rattle.hop_board.proofs.closing.gathered.Given as goal

abbrev pub invariant-loop-next : goal.invariant-loop-next
invariant-loop-next l = record {
  table : l.all.table ≡ l.shared.table_id;
  left : All (λ s. s.table ≡ l.shared.table_id) l.seats.items;
  all : map ordered_seat l.seats.items ++ l.all.seats ≡ map ordered_seat l.initial.seats.items;
}

abbrev pub decreases-loop-next : goal.decreases-loop-next
decreases-loop-next l = goal.left-loop-next l
