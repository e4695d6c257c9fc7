-- The settings of the examples are those of a plan.
use Rattle.std.proofs.Common.{ℕ, ◌<◌, ◌≤◌, ◌≡◌, true, List, [], ◌∷◌, arith, length}
use Rattle.std.proofs.lemmas.List.Elements.{All-cons, All-from_recursion, All-nil}
use Rattle.std.proofs.lemmas.List.Elements.{All-replicate}
use Rattle.std.specs.List.{AllPass}
use Rattle.plan_reader.specs.Ranges.{DetachIsWithin, QueueIsWithin, TxIsWithin, step_is_within}
use Rattle.plan_reader.specs.Settings.{IsWithin}
use Rattle.plan_reader.specs.declared.plan.QueuePlan.{QueuePlan}
use Rattle.plan_reader.specs.declared.settings.sizes.Sizes.{Sizes}
use Rattle.steer_base.specs.declared.step.Step.{Step}
use Rattle.headline.specs.Forged.{ExamplesAreWithin, drained_steps, full_steps, settings_with}
use Rattle.headline.specs.Forged.{waiting_steps}

abbrev sizes : Sizes
sizes = record { cpus = 2; queues = 2; apps = 1; tx = 1 }

settings-within : (backlog : ℕ) → 1 ≤ backlog → backlog ≤ 4 → (list : List Step)
    → length list ≤ 1000000 → AllPass (step_is_within sizes) list
    → IsWithin (settings_with backlog list)
settings-within backlog some most list few named =
    let at : ℕ → QueuePlan = λ home. record { home = home; mask = record { 0 = 2 }; flows = 1 } in
    let first : QueueIsWithin 2 (at 0) =
    record { home = omega arith; mask = omega arith; flows = omega arith } in
    let second : QueueIsWithin 2 (at 1) =
    record { home = omega arith; mask = omega arith; flows = omega arith } in
    let tx : TxIsWithin 2 2 (record { cpus = record { 0 = 0 }; queues = 0 }) =
    record { cpus_below = omega arith; queues_below = omega arith } in
    record {
      some_cpu = omega arith;
      cpus_within = omega arith;
      queues_length = record { at_least = omega arith; at_most = omega arith };
      queues_within =
          All-cons (QueueIsWithin 2) (at 0) (at 1 ∷ []) first
          (All-cons (QueueIsWithin 2) (at 1) [] second (All-nil (QueueIsWithin 2)));
      kinds_within = omega arith;
      reta_length = record { at_least = omega arith; at_most = omega arith };
      reta_within = All-replicate (λ q. q < 2) 128 0 (omega arith);
      sock_within = omega arith;
      filters_within = omega arith;
      some_backlog = some;
      backlog_within = omega (arith, most);
      limited_within = omega arith;
      apps_length = record { at_least = omega arith; at_most = omega arith };
      apps_within = All-cons (λ cpu. cpu < 2) 0 [] (omega arith) (All-nil (λ cpu. cpu < 2));
      tx_length = record { at_least = omega arith; at_most = omega arith };
      tx_within =
          All-cons (TxIsWithin 2 2) _ [] tx (All-nil (TxIsWithin 2 2));
      some_worker = omega arith;
      workers_within = omega arith;
      some_try = omega arith;
      tries_within = omega arith;
      detach_length = record { at_least = omega arith; at_most = omega arith };
      detach_within = All-nil DetachIsWithin;
      steps_within = record { list_length = few; list_within = named; count = omega arith };
    }

pub examples-within : ExamplesAreWithin
examples-within =
    record {
      drained =
          settings-within 4 (omega arith) (omega arith) drained_steps (omega arith)
          (All-from_recursion (λ s. step_is_within sizes s ≡ true) drained_steps assumption);
      waiting =
          settings-within 4 (omega arith) (omega arith) waiting_steps (omega arith)
          (All-from_recursion (λ s. step_is_within sizes s ≡ true) waiting_steps assumption);
      full =
          settings-within 1 (omega arith) (omega arith) full_steps (omega arith)
          (All-from_recursion (λ s. step_is_within sizes s ≡ true) full_steps assumption);
    }
