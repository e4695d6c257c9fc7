use Rattle.hop_board.proofs.Names.{◌≡◌, take, journal}
use Rattle.hop_board.proofs.left.accepted_packets.Given as goal

abbrev pub invariant-loop-n : goal.invariant-loop-n
invariant-loop-n l = l.packets ≡ journal (take l.n l.lane.accepted) l.initial.packets.room
