-- The steps of a seed: one word of the generator PCG XSH RR 64/32 on stream 54 for each.
use Rattle.std.specs.Prelude.{ℕ, ◌/◌, ◌%◌, nat_lt, ◌==◌, if◌then◌else◌}
use Rattle.rand_pcg.specs.Lcg.{Lcg, started, increment_of, advance}
use Rattle.rand_pcg.specs.Pcg.{multiplier_64, pcg32}
use Rattle.steer_base.specs.declared.step.Step.{Step}
use Rattle.steer_base.specs.declared.step.Step.TheVariants.{Arrive, Take, Enter, Look, Pull, Poll}
use Rattle.steer_base.specs.declared.step.Step.TheVariants.{Drain, Serve, Ship}
use Rattle.plan_reader.specs.declared.settings.sizes.Sizes.{Sizes}

-- the generator of a seed
unfoldable pub generator : ℕ → Lcg
generator seed = started 64 multiplier_64 seed (increment_of 64 54)

-- word i of a seed, from 0
unfoldable pub seeded_word : ℕ → ℕ → ℕ
seeded_word seed i = (pcg32 (advance 64 multiplier_64 i (generator seed))).0

-- the single events that a word may give
abbrev pub event_of : Sizes → ℕ → ℕ → Step
event_of sizes which j =
    if which == 0 then Take (j % sizes.queues)
    else (if which == 1 then Enter (j % sizes.queues)
    else (if which == 2 then Look (j % sizes.queues)
    else Pull (j % sizes.cpus)))

-- the step that a choice from 0 to 15 and a number give
abbrev pub chosen_step : Sizes → ℕ → ℕ → Step
chosen_step sizes k m =
    if nat_lt k 5 then Arrive
    else (if nat_lt k 9 then Poll (m % sizes.queues)
    else (if nat_lt k 12 then Drain (m % sizes.cpus)
    else (if nat_lt k 14 then Serve (m % sizes.apps)
    else (if k == 14 then Ship (m % sizes.tx)
    else event_of sizes (m % 4) (m / 4)))))

-- the step of a word
unfoldable pub seeded_step : Sizes → ℕ → Step
seeded_step sizes word = chosen_step sizes (word % 16) (word / 16)
