use Rattle.std.proofs.Common.{◌≡◌, ◌++◌, map, take}
use Rattle.good_check.proofs.leaving.add_replies.Given as goal

abbrev pub invariant-loop-reply : goal.invariant-loop-reply
invariant-loop-reply l =
    l.packets.items ≡ l.initial.packets.items ++ map (λ s. s.id) (take l.reply-index l.sent)
