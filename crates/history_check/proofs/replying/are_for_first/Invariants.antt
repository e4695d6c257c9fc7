use Rattle.std.proofs.Common.{◌≡◌, drop, map}
use Rattle.history_check.specs.Tests.{begins}
use Rattle.history_check.proofs.replying.are_for_first.Given as goal

abbrev pub invariant-loop-i : goal.invariant-loop-i
invariant-loop-i l = begins (drop l.i (map (λ c. c.id) l.choices))
    (drop l.i (map (λ s. s.id) l.sent)) ≡ begins (map (λ c. c.id) l.choices)
    (map (λ s. s.id) l.sent)
