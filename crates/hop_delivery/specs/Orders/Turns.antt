-- A seat's own list explained by turns: all its puts, each in a visit of its own. Lists have the
-- newest first.
use Rattle.std.specs.Prelude.{◌≡◌, ℕ, List, [], ◌∷◌, ◌++◌, Option}
use Rattle.steer_base.specs.declared.{choice.Chosen.Chosen, put.Put.Put}
use Rattle.linearization.specs.Orders.{StepBy}
use Rattle.hop_rule.specs.Owns.{puts_of, visits_of}
use Rattle.hop_rule.specs.declared.step.BoardStep.{BoardStep, TheVariants.Lane, TheVariants.Gate}
use Rattle.hop_rule.specs.declared.step.{Change.TheVariants.Offered, GateStep.TheVariants.Entered}
use Rattle.hop_rule.specs.declared.step.{GateStep.TheVariants.Left, LaneStep.TheVariants.Freed}

-- A turn, one packet with its choice and its put: the word that the entry of its visit found, what
-- the seat did between that entry and the put, the packet's hash, and the answer of the put.
pub record Turn : Type 0 where
  pub chosen : Chosen
  pub word : ℕ
  pub early : List BoardStep
  pub hash : Option ℕ
  pub answer : Put

-- The put of a turn.
abbrev pub turn_put : Turn → BoardStep
turn_put t = Lane (Freed t.chosen.choice.lane (Offered t.chosen.id t.hash t.answer))

-- These steps are neither puts nor steps at the gate other than reads of settings.
pub record AreQuiet (ds : List BoardStep) : Type 0 where
  pub puts : puts_of ds ≡ []
  pub visits : visits_of ds ≡ []

-- A visit with its put: the entry, what the turn did early, the put, what came late, and the leave.
abbrev pub visit_with : Turn → List BoardStep → List BoardStep → List BoardStep
visit_with t late older = Gate Left ∷
    (late ++ (turn_put t ∷ (t.early ++ (Gate (Entered t.word) ∷ older))))

-- A seat's own list has the turns' visits in their order and no other put; each turn is with the
-- number of its producer. That a visit has one entry, one leave and one put would not imply that
-- the put is between the two.
abbrev pub Explained : List BoardStep → List (StepBy Turn) → Type 0
Explained ds [] = puts_of ds ≡ []
Explained ds (t ∷ ts) =
    (newer : List BoardStep) × (late : List BoardStep) × (older : List BoardStep)
    × (ds ≡ newer ++ visit_with t.step late older) × (puts_of newer ≡ []) × AreQuiet late
    × AreQuiet t.step.early × Explained older ts
