-- What the workers' records say of the lanes that they empty, at the closing of a board.
use Rattle.std.specs.Prelude.{◌≡◌, ℕ, ◌<◌, List, None}
use Rattle.hop_rule.specs.declared.sizes.BoardSizes.{BoardSizes}
use Rattle.hop_rule.specs.declared.step.BoardStep.{BoardStep}
use Rattle.steer_model.specs.State.Setup.{app_for}
use Rattle.run_workers.specs.declared.drain.Drain.{Drain}
use Rattle.run_coupling.specs.Laws.EmptyHands.{HandsAreEmpty}
use Rattle.run_coupling.specs.Coupling.Deliveries.{AllDeliverTo}
use Rattle.run_coupling.specs.Coupling.Ends.{retired_count}
use Rattle.run_workers.specs.Stages.{StageView}
use Rattle.run_crew.specs.Crews.{AreReceiveLists, AreTransmitLists, AreWorking, IsPlayed}
use Rattle.run_crew.specs.Crews.{drains_of, ships_of}
use Rattle.run_crew.specs.declared.seated.Seated.{Seated}

-- Each lane of the board is emptied by a worker, which has no packet of it in hand.
pub record AreDrained (about : BoardSizes) (crew : List Seated) (kind : Seated → List Drain)
    : Type 0 where
  pub each : (l : ℕ) → l < about.lanes → IsPlayed crew kind l
  pub hands : (l : ℕ) (less : l < about.lanes) → (each l less).actor.hand ≡ None

-- Each packet was delivered to its out lane, no seat has a packet in hand, and as many packets of
-- each lane were retired as was counted.
pub record DrainsAreCoupled (about : BoardSizes) (crew : List Seated) (kind : Seated → List Drain)
    (out : ℕ → ℕ) (own : ℕ → List BoardStep) (are : AreDrained about crew kind) : Type 0 where
  pub right : AllDeliverTo about out own
  pub empty : HandsAreEmpty about own
  pub retired : (l : ℕ) (less : l < about.lanes)
      → retired_count about own l ≡ (are.each l less).actor.retired

-- The drains keep their coupling invariants at both boards: packets go to their applications, and
-- replies to the port.
pub record DrainsKeepCoupling : Type 0 where
  pub receives : (t : StageView) (crew : List Seated) (queues apps : ℕ) (own : ℕ → List BoardStep)
      (are : AreDrained t.rx.sizes crew drains_of) → AreWorking t crew queues apps
      → AreReceiveLists crew own
      → DrainsAreCoupled t.rx.sizes crew drains_of (app_for t.shared.given) own are
  pub transmits : (t : StageView) (crew : List Seated) (queues apps : ℕ)
      (own : ℕ → List BoardStep) (are : AreDrained t.tx.sizes crew ships_of)
      → AreWorking t crew queues apps → AreTransmitLists crew own
      → DrainsAreCoupled t.tx.sizes crew ships_of (λ id. 0) own are
