-- Where the workers deliver packets.
use Rattle.std.specs.Prelude.{◌≡◌, ℕ, ◌<◌, List, All}
use Rattle.hop_rule.specs.Deliveries.{Delivery}
use Rattle.hop_rule.specs.Sizes.{puller}
use Rattle.hop_rule.specs.declared.sizes.BoardSizes.{BoardSizes}
use Rattle.hop_rule.specs.declared.step.BoardStep.{BoardStep}
use Rattle.board_api.specs.OwnSteps.{delivered_by}

-- The seat of each lane has delivered each packet of the lane to the packet's own out lane.
abbrev pub AllDeliverTo : BoardSizes → (ℕ → ℕ) → (ℕ → List BoardStep) → Type 0
AllDeliverTo about out own =
    (l : ℕ) → l < about.lanes
    → All (λ (g : Delivery). g.to ≡ out g.id) (delivered_by l (own (puller about l)))
