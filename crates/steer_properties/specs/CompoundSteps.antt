-- What a drain makes of its processor, and a ship of its transmit queue.
use Rattle.std.specs.Prelude.{ℕ, ◌+◌, ◌<◌, ◌≡◌, false, List, Option, length}
use Rattle.std.specs.List.{AllPass}
use Rattle.steer_base.specs.declared.packet.Packet.{Packet}
use Rattle.steer_base.specs.declared.step.Step.{Step}
use Rattle.steer_base.specs.declared.step.Step.TheVariants as act
use Rattle.hop_model.specs.Events.{IsEmptied}
use Rattle.hop_model.specs.Hop.{Bare, accepted_at, pulled_at, retired_at}
use Rattle.plan_reader.specs.Plans.{sizes_of}
use Rattle.plan_reader.specs.Ranges.{step_is_within}
use Rattle.plan_reader.specs.declared.plan.Plan.{Plan}
use Rattle.steer_model.specs.State.Machine.{Machine}
use Rattle.steer_model.specs.State.Start.{new_machine}
use Rattle.steer_model.specs.Steps.CompoundSteps.{after, drain_one, ship_one, step, tries}
use Rattle.steer_invariant.specs.InvariantLaws.{MayStart}
use Rattle.steer_invariant.specs.StepInvariant.{StepInvariant}

-- Between two states of the lanes of a hop no lane accepted a packet, and one lane retired one.
pub record RetiresOne (old new : Bare) (c : ℕ) : Type 0 where
  pub accepted : new.accepted ≡ old.accepted
  pub retired : retired_at new c ≡ retired_at old c + 1

-- Between two states of the lanes of a hop no lane accepted a packet, and at the end one lane has
-- an empty hand and no packet that waits: all that it accepted is retired.
pub record EmptiesLane (old new : Bare) (c : ℕ) : Type 0 where
  pub accepted : new.accepted ≡ old.accepted
  pub hand : pulled_at new c ≡ retired_at new c
  pub waiting : pulled_at new c ≡ length (accepted_at new c)
  pub emptied : IsEmptied new c

-- ---- processors

-- Where a processor has a packet that is not retired, a pull, a delivery and a retire retire one.
abbrev pub DrainRoundRetiresOne : Type 0
DrainRoundRetiresOne =
    (m : Machine) (c : ℕ) → StepInvariant m → c < m.setup.cpus
    → retired_at m.rx.bare c < length (accepted_at m.rx.bare c)
    → RetiresOne m.rx.bare (tries (m, false) (drain_one c)).0.rx.bare c

-- A drain empties its processor, in each machine with the invariant.
abbrev pub DrainEmpties : Type 0
DrainEmpties =
    (m : Machine) (c : ℕ) → StepInvariant m → c < m.setup.cpus
    → EmptiesLane m.rx.bare (step m (act.Drain c)).0.rx.bare c

-- After any steps that name what the plan has, a drain empties its processor.
abbrev pub DrainsOfRunsEmpty : Type 0
DrainsOfRunsEmpty =
    (plan : Plan) (packets : List Packet) (cut : Option ℕ) (ss : List Step) (c : ℕ)
    → MayStart plan packets → AllPass (step_is_within (sizes_of plan)) ss → c < plan.cpus
    → EmptiesLane (after ss (new_machine plan packets cut)).rx.bare
    (step (after ss (new_machine plan packets cut)) (act.Drain c)).0.rx.bare c

-- ---- transmit queues

-- Where a transmit queue has a reply that is not retired, a pull, a delivery and a retire retire
-- one.
abbrev pub ShipRoundRetiresOne : Type 0
ShipRoundRetiresOne =
    (m : Machine) (t : ℕ) → StepInvariant m → t < m.setup.txs
    → retired_at m.tx.bare t < length (accepted_at m.tx.bare t)
    → RetiresOne m.tx.bare (tries (m, false) (ship_one t)).0.tx.bare t

-- A ship empties its transmit queue, in each machine with the invariant.
abbrev pub ShipEmpties : Type 0
ShipEmpties =
    (m : Machine) (t : ℕ) → StepInvariant m → t < m.setup.txs
    → EmptiesLane m.tx.bare (step m (act.Ship t)).0.tx.bare t

-- After any steps that name what the plan has, a ship empties its transmit queue.
abbrev pub ShipsOfRunsEmpty : Type 0
ShipsOfRunsEmpty =
    (plan : Plan) (packets : List Packet) (cut : Option ℕ) (ss : List Step) (t : ℕ)
    → MayStart plan packets → AllPass (step_is_within (sizes_of plan)) ss → t < length plan.tx
    → EmptiesLane (after ss (new_machine plan packets cut)).tx.bare
    (step (after ss (new_machine plan packets cut)) (act.Ship t)).0.tx.bare t
