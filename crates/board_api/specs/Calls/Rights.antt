-- The calls that a seat may make, by its number and its own list.
use Rattle.std.specs.Prelude.{◌≡◌, ◌⊎◌, ℕ, List}
use Rattle.hop_rule.specs.Boards.{lane_steps, gate_steps}
use Rattle.hop_rule.specs.Gates.{visit, outside, inside, closed}
use Rattle.hop_rule.specs.Lanes.{phase, has_pulled, gave}
use Rattle.hop_rule.specs.Sizes.{closer, puller}
use Rattle.hop_rule.specs.declared.sizes.BoardSizes.{BoardSizes}
use Rattle.hop_rule.specs.declared.step.BoardStep.{BoardStep}

-- The seat is neither inside nor backing out of a closed gate.
abbrev pub IsOutside : List BoardStep → Type 0
IsOutside steps = visit (gate_steps steps) ≡ outside

-- The seat is inside the gate.
abbrev pub IsInside : List BoardStep → Type 0
IsInside steps = visit (gate_steps steps) ≡ inside

-- The seat has not closed the gate, or has opened it since.
abbrev pub HasOpen : List BoardStep → Type 0
HasOpen steps = closed (gate_steps steps) ≡ 0

-- The seat has closed the gate and not opened it since.
abbrev pub HasClosed : List BoardStep → Type 0
HasClosed steps = closed (gate_steps steps) ≡ 1

-- The seat may read settings and heads: it is inside, or has closed the gate.
abbrev pub MayRead : List BoardStep → Type 0
MayRead steps = IsInside steps ⊎ HasClosed steps

-- The seat is the one that closes the gate, sets and opens it: the last one.
abbrev pub IsCloser : BoardSizes → ℕ → Type 0
IsCloser about number = number ≡ closer about

-- The seat is the one that pulls from the middle lane.
abbrev pub Pulls : BoardSizes → ℕ → ℕ → Type 0
Pulls about number lane = puller about lane ≡ number

-- The seat has pulled a packet of the lane and not delivered it.
abbrev pub HasPulled : List BoardStep → ℕ → Type 0
HasPulled steps lane = (id : ℕ) × (phase lane (lane_steps steps) ≡ has_pulled id)

-- The seat has delivered a packet of the lane and not retired it.
abbrev pub HasDelivered : List BoardStep → ℕ → Type 0
HasDelivered steps lane = phase lane (lane_steps steps) ≡ gave
