use Rattle.std.proofs.Common.{◌≡◌, drop, map}
use Rattle.history_check.specs.Tests.{begins}
use Rattle.history_check.proofs.replying.are_to_first.Given as goal

abbrev pub invariant-loop-i : goal.invariant-loop-i
invariant-loop-i l = begins (drop l.i (map (λ s. s.id) l.sent)) (drop l.i l.inbox) ≡ begins
    (map (λ s. s.id) l.sent) l.inbox
