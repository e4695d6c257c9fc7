use Rattle.std.proofs.Common.{◌≡◌, ◌≤◌, ◌+◌, ◌-◌, vec_len}
use Rattle.std.specs.Io.KnownBytes.{Consumes}
use Rattle.outside_io.specs.Counts.{raised}
use Rattle.outside_io.proofs.reading.read_whole.Given as goal

-- the bytes so far are those that the file has lost
abbrev pub invariant-loop-buffer : goal.invariant-loop-buffer
invariant-loop-buffer g l = record {
  within : vec_len l.bytes ≤ l.limit + 1;
  bytes : Consumes (g.D.Desk.left l.initial.desk) (g.D.Desk.left l.desk) l.bytes.items;
  held : g.D.Desk.held l.desk ≡ g.D.Desk.held l.initial.desk;
  asked : g.D.Desk.asked l.desk ≡ g.D.Desk.asked l.initial.desk;
  taken : g.D.Desk.taken l.desk ≡ raised (vec_len l.bytes) (g.D.Desk.taken l.initial.desk);
  reads : g.D.Desk.reads l.desk ≤ g.D.Desk.reads l.initial.desk + vec_len l.bytes;
  later : g.D.Desk.faults l.initial.desk ≤ g.D.Desk.faults l.desk;
}

abbrev pub decreases-loop-buffer : goal.decreases-loop-buffer
decreases-loop-buffer g l = l.limit + 1 - vec_len l.bytes
