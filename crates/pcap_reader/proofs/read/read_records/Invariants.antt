use Rattle.std.proofs.Common.{◌≤◌, ◌+◌, length, drop}
use Rattle.pcap_reader.specs.Captures.{Joins}
use Rattle.pcap_reader.proofs.read.read_records.Given as goal

abbrev pub invariant-loop-rest : goal.invariant-loop-rest
invariant-loop-rest g l = record {
  behind : 24 + length l.rest ≤ length l.bytes;
  few : length l.records ≤ 262144;
  joined : Joins g.T.ByteOrder.number_of 24 (drop 24 l.bytes) l.records l.rest;
}

abbrev pub decreases-loop-rest : goal.decreases-loop-rest
decreases-loop-rest g l = length l.rest
