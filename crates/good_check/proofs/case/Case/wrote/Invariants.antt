use Rattle.std.proofs.Common.{◌≡◌, ◌≤◌, drop, length}
use Rattle.good_check.specs.Writes.{writes_for}
use Rattle.good_check.proofs.case.Case.wrote.Given as goal

-- the writes from here on are those for the packets from here on if and only if all are
abbrev pub invariant-loop-id : goal.invariant-loop-id
invariant-loop-id l = record {
  within : l.next ≤ length l.writes;
  back : drop l.next l.writes
      ≡ writes_for l.self.given.now l.self.settings.now.sock l.cpu (drop l.id-index l.inbox)
      → l.writes ≡ writes_for l.self.given.now l.self.settings.now.sock l.cpu l.inbox;
  on : l.writes ≡ writes_for l.self.given.now l.self.settings.now.sock l.cpu l.inbox
      → drop l.next l.writes
      ≡ writes_for l.self.given.now l.self.settings.now.sock l.cpu (drop l.id-index l.inbox);
}
