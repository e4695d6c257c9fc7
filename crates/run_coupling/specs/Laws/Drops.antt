-- The drops, for the sixth clause of a good history.
use Rattle.std.specs.Prelude.{◌≡◌, ℕ, List, Option}
use Rattle.steer_base.specs.declared.put.Put.{Put}
use Rattle.history.specs.declared.history.History.{History}
use Rattle.hop_rule.specs.declared.sizes.BoardSizes.{BoardSizes}
use Rattle.hop_rule.specs.declared.step.BoardStep.{BoardStep}
use Rattle.board_api.specs.OwnSteps.{Has, put_step}
use Rattle.board_api.specs.declared.lists.BoardLists.{BoardLists}
use Rattle.steer_model.specs.Good.Drops.{DropsAreExplained}
use Rattle.steer_model.specs.Good.Inputs.{Input, setup_in}
use Rattle.steer_model.specs.State.Setup.{packet_hash}
use Rattle.run_coupling.specs.Coupling.Boards.{IsReceiveBoard}

-- If each packet is put with its own hash, each drop has its cause, and the counts that drops keep
-- never fall.
abbrev pub DropsFollow : BoardSizes → (ℕ → List BoardStep) → BoardLists → Type 0
DropsFollow about own lists =
    (i : Input) (h : History) → IsReceiveBoard i h about lists
    → ((q k l id : ℕ) (hash : Option ℕ) (answer : Put) → Has (own q) k (put_step l id hash answer)
    → hash ≡ packet_hash (setup_in i) id)
    → DropsAreExplained i h
