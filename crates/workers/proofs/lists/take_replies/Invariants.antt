use Rattle.workers.proofs.Names.{◌≡◌, ◌++◌, List, length, map, reverse, journal, Server}
use Rattle.workers.proofs.lists.take_replies.Given as goal

abbrev pub invariant-loop-server : goal.invariant-loop-server
invariant-loop-server l = record {
  front : List Server;
  whole : front ++ reverse l.servers.items ≡ l.fn.servers.items;
  sent : l.sent ≡ journal (map (λ v. v.sent.items) front) (length l.fn.servers.items);
  choices : l.choices ≡ journal (map (λ v. v.choices.items) front) (length l.fn.servers.items);
  writes : l.writes ≡ journal (map (λ v. v.writes.items) front) (length l.fn.servers.items);
}

abbrev pub decreases-loop-server : goal.decreases-loop-server
decreases-loop-server l = goal.left-loop-server l
