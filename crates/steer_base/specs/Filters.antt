-- When a hardware filter is written (kernel scaling chapter, section accelerated RFS) and when it
-- may go. The manual has no expiry: the rule is this project's own, with the factor of ten and the
-- table's size of the kernel's `rps_may_expire_flow`.
use Rattle.std.specs.Prelude.{ℕ, ◌-◌, ◌*◌, max, Bool, List, Option, None, ◌==◌, position}
use Rattle.std.specs.Prelude.{if◌then◌else◌}
use Rattle.std.specs.Option.{option_map}
use Rattle.steer_base.specs.Choices.{has_moved}
use Rattle.steer_base.specs.Counters.{has_reached}
use Rattle.steer_base.specs.declared.choice.Why.{Why}
use Rattle.steer_base.specs.declared.filter.Filter.{Filter}

-- the lowest receive queue whose home is the processor
abbrev pub home_queue : List ℕ → ℕ → Option ℕ
home_queue homes cpu = position (λ home. home == cpu) homes

-- The filter that an accepted packet writes: where its choice moved to a processor that is home to
-- a queue, the lowest such queue, that processor, and the accepted position as mark.
abbrev pub filter_written : List ℕ → Why → ℕ → ℕ → Option Filter
filter_written homes why cpu accepted =
    if has_moved why
    then option_map (λ queue. record { queue = queue; cpu = cpu; mark = accepted })
    (home_queue homes cpu)
    else None

-- Whether a filter may go: the head of its processor is ten times the flow count, less one,
-- past its mark. The flow count is that of the queue that the filter names, and counts as one where
-- it is 0.
abbrev pub may_expire : Filter → ℕ → ℕ → Bool
may_expire filter head flows = has_reached head filter.mark (10 * (max flows 1 - 1))
