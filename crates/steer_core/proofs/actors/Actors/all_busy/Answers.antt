use Rattle.std.proofs.Common.{ap, length, ◌∙◌}
use Rattle.steer_core.specs.Running.{Running}
use Rattle.steer_core.proofs.BusyLemmas.{none-out}
use Rattle.steer_core.proofs.actors.Actors.all_busy.Goals as goal

pub returns : goal.returns
returns c =
    let view = c.self.view_is in
    record {
      pollers = λ q lt free. absurd (none-out c.first_n.result _ _ q c.first_n.ensures.members
          (c.queues.ensures.value ∙ ap (λ (r : Running). length r.machine.setup.homes) view)
          lt free);
      cpus = λ x lt free. absurd (none-out c.first_n-2.result _ _ x c.first_n-2.ensures.members
          (c.cpus.ensures.value ∙ ap (λ (r : Running). r.machine.setup.cpus) view) lt free);
      apps = λ a lt free. absurd (none-out c.first_n-3.result _ _ a c.first_n-3.ensures.members
          (c.apps.ensures.value ∙ ap (λ (r : Running). r.machine.setup.apps) view) lt free);
      txs = λ x lt free. absurd (none-out c.first_n-4.result _ _ x c.first_n-4.ensures.members
          (c.txs.ensures.value ∙ ap (λ (r : Running). r.machine.setup.txs) view) lt free);
    }
