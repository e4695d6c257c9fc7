-- The sixth premise of delivery in order, from the controller's tries.
use Rattle.std.specs.Prelude.{◌≡◌, ℕ, List, All}
use Rattle.hop_rule.specs.declared.sizes.BoardSizes.{BoardSizes}
use Rattle.hop_rule.specs.declared.step.BoardStep.{BoardStep}
use Rattle.hop_delivery.specs.Orders.Commands.{NamesCpu}
use Rattle.hop_delivery.specs.Orders.Premises.{AllFindEmpty}
use Rattle.hop_delivery.specs.Orders.ReceiveSettings.{Queues, receive_steering}
use Rattle.run_coupling.specs.Coupling.EmptiedLanes.{AllFindLanes}
use Rattle.run_coupling.specs.Coupling.Tries.{Try, steps_of_tries}

-- If each try names a processor below 32, if any, and found the lanes empty that its command
-- affects, each setting found the lanes empty that it requires to be.
abbrev pub TriesFindEmpty : Type 0
TriesFindEmpty =
    (about : BoardSizes) (q : Queues) (cpus txs : ℕ) (at : Try → List BoardStep) (ts : List Try)
    → about.lanes ≡ cpus → All (λ t. NamesCpu t.given.command) ts
    → AllFindLanes about q cpus txs at ts
    → AllFindEmpty about (receive_steering q) (steps_of_tries at ts)
