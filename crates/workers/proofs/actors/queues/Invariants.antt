use Rattle.workers.proofs.Names.{◌≡◌, length, Each, ArePaired, IsFirstPoller}
use Rattle.workers.proofs.actors.queues.Given as goal

abbrev pub invariant-loop-queue : goal.invariant-loop-queue
invariant-loop-queue l = record {
  rings : ArePaired l.room l.rings.items l.pollers.items;
  count : length l.pollers.items ≡ l.queue;
  first : Each (IsFirstPoller l.plan l.room) l.pollers.items;
}
