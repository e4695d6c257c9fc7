use Rattle.std.proofs.Common.{◌≡◌, ◌≤◌, List, drop, length}
use Rattle.report_reader.specs.Joined.{AreJoined, seen_lines}
use Rattle.report_reader.specs.declared.slots.Seen.{Seen}
use Rattle.report_reader.proofs.JoinedLemmas.{IsJoinedTo}
use Rattle.report_reader.proofs.seen_list.SeenList.join.Given as goal

abbrev pub invariant-loop-x : goal.invariant-loop-x
invariant-loop-x l = record {
  few : l.next ≤ l.x;
  long : length l.numbers.items ≡ l.x;
  joined : (lines : List Seen) → AreJoined l.packets.items l.replies.items lines
      → IsJoinedTo l.x lines (seen_lines l.replies.items l.packets.items l.numbers.items)
      (drop l.next l.replies.items);
}
