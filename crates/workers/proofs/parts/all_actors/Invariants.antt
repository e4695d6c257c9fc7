use Rattle.workers.proofs.Names.{dealt_items}
use Rattle.workers.proofs.parts.all_actors.Given as goal

abbrev pub ghost-gather : goal.ghost-gather
ghost-gather g a = dealt_items a.hands.items a.count
