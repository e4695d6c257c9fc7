-- What the closer adds to its own list when it tries a command behind the gate.
use Rattle.std.specs.Prelude.{ℕ, Option, None, Some, [], ◌∷◌}
use Rattle.steer_base.specs.declared.command.Busy.{Busy}
use Rattle.steer_base.specs.declared.command.Busy.TheVariants.{Inside, NotEmpty}
use Rattle.steer_base.specs.declared.cpu_mask.CpuMask.{CpuMask}
use Rattle.hop_rule.specs.declared.sizes.BoardSizes.{BoardSizes}
use Rattle.hop_rule.specs.declared.step.BoardStep.TheVariants.{Gate}
use Rattle.hop_rule.specs.declared.step.GateStep.TheVariants.{Set}
use Rattle.board_api.specs.Calls.Results.{CloseTells, FindsAll, FindsFirst, OpenTells}
use Rattle.board_api.specs.Seats.{BoardSeatView, Adds}
use Rattle.board_api.specs.declared.answers.CloseAnswer.TheVariants as close

-- The gate was closed and each lane of the set found empty; or visits were open, and the gate was
-- left as it was; or the gate was closed, a lane of the set was found that is not empty, and the
-- gate was opened again.
abbrev pub ClosesEmpty : BoardSizes → CpuMask → BoardSeatView → BoardSeatView → Option Busy → Type 0
ClosesEmpty about lanes old new None =
    (mid : BoardSeatView) × CloseTells about old mid close.Ok × FindsAll about lanes mid new
ClosesEmpty about lanes old new (Some (Inside n)) = CloseTells about old new (close.Inside n)
ClosesEmpty about lanes old new (Some (NotEmpty lane head tail)) =
    (mid : BoardSeatView) × (looked : BoardSeatView) × CloseTells about old mid close.Ok
    × FindsFirst about lanes mid looked lane head tail × OpenTells looked new

-- A setting was made, and the gate was opened.
abbrev pub SetsAndOpens : ℕ → ℕ → BoardSeatView → BoardSeatView → Type 0
SetsAndOpens i v old new =
    (mid : BoardSeatView) × Adds (Gate (Set i v) ∷ []) old mid × OpenTells mid new
