use Rattle.std.proofs.Common.{◌≤◌, ◌-◌, IsTrue}
use Rattle.flow_dissector.specs.Ethernet.{is_ip}
use Rattle.tunnel_dissector.proofs.Deepest.{Entered}
use Rattle.tunnel_dissector.proofs.dissect.deepest.Given as goal

abbrev pub invariant-loop-depth : goal.invariant-loop-depth
invariant-loop-depth l = record {
  few : l.depth ≤ 4;
  ip : IsTrue (is_ip l.kind);
  same : Entered l.depth (4 - l.depth) l.kind l.packet l.fn.kind l.fn.packet;
}

abbrev pub decreases-loop-depth : goal.decreases-loop-depth
decreases-loop-depth l = 4 - l.depth
