use Rattle.std.proofs.Common.{ℕ, ◌≡◌, List, ◌++◌, map, take}
use Rattle.steer_model.specs.Capture.PacketLists.{HasPackets, dissected_of}
use Rattle.steer_model.proofs.numbered_packets.NumberedPackets.push_all.Given as goal

abbrev pub invariant-loop-from : goal.invariant-loop-from
invariant-loop-from l =
    (key kinds : ℕ) (frames more : List (List ℕ)) → HasPackets key kinds frames l.fn.self
    → map (dissected_of key kinds) more ≡ l.waiting
    → HasPackets key kinds (frames ++ take l.from-index more) l.self
