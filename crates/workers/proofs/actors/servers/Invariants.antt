use Rattle.workers.proofs.Names.{◌≡◌, length, Each, IsFirstServer}
use Rattle.workers.proofs.actors.servers.Given as goal

abbrev pub invariant-loop-app : goal.invariant-loop-app
invariant-loop-app l = record {
  count : length l.all.items ≡ l.app;
  first : Each (IsFirstServer l.plan l.room l.flows) l.all.items;
}
