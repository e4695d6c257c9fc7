use Rattle.std.proofs.Common.{ℕ, ◌<◌}
use Rattle.good_check.specs.Choices.{HasChosen}
use Rattle.good_check.proofs.case.Case.has_choices.Given as goal

abbrev pub invariant-loop-q : goal.invariant-loop-q
invariant-loop-q l = (q : ℕ) → q < l.q
    → HasChosen l.self.given.now l.self.settings.now l.self.h.now q
