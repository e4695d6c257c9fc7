use Rattle.hop_board.proofs.Names.{◌≡◌, take, journal}
use Rattle.hop_board.proofs.left.dropped_packets.Given as goal

abbrev pub invariant-loop-fallen : goal.invariant-loop-fallen
invariant-loop-fallen l =
    l.packets ≡ journal (take l.fallen-index l.lane.drops) l.initial.packets.room
