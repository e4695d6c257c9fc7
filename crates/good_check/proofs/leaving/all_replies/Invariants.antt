use Rattle.std.proofs.Common.{◌≡◌, take}
use Rattle.good_check.specs.Order.{all_replies}
use Rattle.good_check.proofs.leaving.all_replies.Given as goal

abbrev pub invariant-loop-list : goal.invariant-loop-list
invariant-loop-list l = l.packets.items ≡ all_replies (take l.list-index l.sent)
