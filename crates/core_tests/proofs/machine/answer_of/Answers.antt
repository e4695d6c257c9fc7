use Rattle.std.proofs.Common.{ℕ, ◌+◌, ◌∙◌, ap}
use Rattle.steer_core.specs.Runs.{Run}
use Rattle.steer_invariant.specs.StepInvariant.{sizes_in}
use Rattle.core_tests.proofs.machine.answer_of.Goals as goal

pub returns : goal.returns
returns c =
    let step = c.step.ensures in
    let before = c.requires in
    record {
      made = ap (λ (r : Run). r.made) step.state ∙ ap (λ (n : ℕ). n + 1) before.made;
      steps = ap (λ (r : Run). r.steps) step.state ∙ before.steps;
      sizes = ap sizes_in step.setup ∙ before.sizes;
    }
