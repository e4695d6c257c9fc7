use Rattle.steer_invariant.proofs.Invariant.StartLemmas.{held-new}
use Rattle.steer_invariant.proofs.Invariant.StepLemmas.{held-after, held-step}
use Rattle.steer_invariant.proofs.invariant_laws.every_step_keeps_the_machine.Goals as goal

pub returns : goal.returns
returns c =
    record {
      new = held-new;
      step = λ m s named h. held-step m h s named;
      steps = λ m ss named h. held-after m h ss named;
    }
