-- The turns of a seat's producers, and their journals of choices.
use Rattle.std.specs.Prelude.{◌≡◌, ℕ, List, Some, map, All}
use Rattle.linearization.specs.Orders.{StepBy}
use Rattle.hop_rule.specs.Moments.{nth_step}
use Rattle.hop_rule.specs.declared.step.BoardStep.{BoardStep}
use Rattle.hop_delivery.specs.Orders.Runs.{Execution, turns_of}
use Rattle.hop_delivery.specs.Orders.Turns.{Explained, Turn}
use Rattle.run_words.specs.Lists.{oldest_first}

-- The seats' own lists are explained by turns, each of a producer of the seat. A producer's journal
-- has the choices of its turns, and in the end each of its arrivals has its choice, in order.
pub record KeepsTurns (own : ℕ → List BoardStep) (t : Execution) : Type 0 where
  pub explained : (q : ℕ) → Explained (own q) (t.turns q)
  pub by_seat : (q : ℕ) → All (λ (e : StepBy Turn). t.seat e.by ≡ q) (t.turns q)
  pub journal : (p : ℕ) → t.choices p ≡ map (λ u. u.chosen) (oldest_first (turns_of t p))
  pub all_chosen : (p : ℕ) → map (λ c. c.id) (t.choices p) ≡ t.arrivals p

-- The turn was made by the producer.
abbrev pub IsTurnOf : Execution → ℕ → Turn → Type 0
IsTurnOf t p u = (i : ℕ) × (nth_step (turns_of t p) i ≡ Some u)
