use Rattle.hop_board.proofs.Names.{◌≡◌, ◌+◌, ◌≤◌, ◌++◌, false, All, map, reverse, vec_capacity}
use Rattle.hop_board.proofs.Names.{vec_len, HasNoSteps, board_seat}
use Rattle.hop_board.proofs.making.at_board.Given as goal

abbrev pub invariant-loop-seat : goal.invariant-loop-seat
invariant-loop-seat l = record {
  all : map (λ s. board_seat s false) l.given.items ++ reverse l.seats.items
      ≡ map (λ s. board_seat s false) l.initial.given.items;
  fresh : All HasNoSteps l.given.items;
  room : vec_len l.given + vec_len l.seats ≤ vec_capacity l.seats;
}

abbrev pub decreases-loop-seat : goal.decreases-loop-seat
decreases-loop-seat l = vec_len l.given
