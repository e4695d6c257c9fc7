use Rattle.std.proofs.Common.{◌≡◌, ◌++◌, take}
use Rattle.outside_io.proofs.ghost_bytes.GhostBytes.append.Given as goal

-- the bytes so far were added
abbrev pub invariant-loop-byte : goal.invariant-loop-byte
invariant-loop-byte l = l.self ≡ l.initial.self ++ take l.byte-index l.bytes
