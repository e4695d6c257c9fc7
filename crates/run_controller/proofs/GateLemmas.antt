-- The gate while the closer looks at lanes.
use Rattle.hop_rule.specs.declared.step.BoardStep.TheVariants.{Counted}
use Rattle.board_api.specs.Calls.Rights.{HasClosed}
use Rattle.run_controller.proofs.Names.{◌≡◌, List, [], ◌∷◌, refl, ap, ◌∙◌, gate_steps, closed}
use Rattle.run_controller.proofs.Names.{BoardStep, Weighed, Looked, looking, BoardSeatView}

gate-looking : (xs : List Looked) (steps : List BoardStep)
    → gate_steps (looking xs steps) ≡ gate_steps steps
gate-looking [] steps = refl
gate-looking (x ∷ xs) steps =
    gate-looking xs (Counted x.lane x.tail ∷ Weighed x.lane x.head ∷ steps)

-- looks leave the gate closed
pub looks_leave_closed : (xs : List Looked) (a b : BoardSeatView) → HasClosed a.steps
    → b.steps ≡ looking xs a.steps → HasClosed b.steps
looks_leave_closed xs a b is e =
    ap (λ ds. closed (gate_steps ds)) e ∙ (ap closed (gate-looking xs a.steps) ∙ is)
