-- A seat's steps at lanes and at the gate, from its own list; the room of a lane.
use Rattle.hop_rule.specs.Boards.{lane_steps, gate_steps}
use Rattle.hop_rule.proofs.Names.{◌≡◌, ℕ, List, [], ◌∷◌, Option, Some, None, sym, refl, ap, ◌∙◌}
use Rattle.hop_rule.proofs.Names.{dite, ℕ_discrete, LaneLists, bucket_of, lane_drop_cause}
use Rattle.hop_rule.proofs.Names.{DropCause, put_by, after_put, StepBy, step_by, steps_of}
use Rattle.hop_rule.proofs.Names.{steps_of_own, steps_of_other, BoardSizes, BoardStep, Lane, Gate}
use Rattle.hop_rule.proofs.Names.{Weighed, Counted, LaneOut, LaneIn, OutCounted, Change, Nothing}
use Rattle.hop_rule.proofs.Names.{Offered, Pulled, LaneStep, Held, Missed, Freed, OutHeld}
use Rattle.hop_rule.proofs.Names.{OutMissed, OutFreed, Given, Retired, lane_changed}
use Rattle.hop_rule.proofs.Names.{lane_after_step, lane, lanes_of, gates_of}
use Rattle.hop_rule.proofs.Cases.{pick, lane_part, gate_part}

module _ (p : ℕ) where
  pub lanes_own : (es : List (StepBy BoardStep)) → steps_of p (lanes_of es) ≡ lane_steps
      (steps_of p es)
  lanes_own [] = refl
  lanes_own (e ∷ es) = by_step e.by e.step (lanes_own es)
    where
      by_step : (q : ℕ) (d : BoardStep) → steps_of p (lanes_of es) ≡ lane_steps (steps_of p es)
          → steps_of p (lane_part q d (lanes_of es)) ≡ lane_steps (steps_of p (step_by q d ∷ es))
      by_step q (Lane d) is = dite (ℕ_discrete q p)
          (λ e. steps_of_own p q d (lanes_of es) e
          ∙ (ap (λ l. d ∷ l) is ∙ sym (ap lane_steps (steps_of_own p q (Lane d) es e))))
          (λ ne. steps_of_other p q d (lanes_of es) ne
          ∙ (is ∙ sym (ap lane_steps (steps_of_other p q (Lane d) es ne))))
      by_step q (Gate d) is = is
          ∙ sym (pick q p (Gate d ∷ steps_of p es) (steps_of p es)
          (λ l. lane_steps l ≡ lane_steps (steps_of p es)) (λ _. refl) (λ _. refl))
      by_step q (Weighed i w) is = is
          ∙ sym (pick q p (Weighed i w ∷ steps_of p es) (steps_of p es)
          (λ l. lane_steps l ≡ lane_steps (steps_of p es)) (λ _. refl) (λ _. refl))
      by_step q (Counted i w) is = is
          ∙ sym (pick q p (Counted i w ∷ steps_of p es) (steps_of p es)
          (λ l. lane_steps l ≡ lane_steps (steps_of p es)) (λ _. refl) (λ _. refl))
      by_step q (OutCounted i w) is = is
          ∙ sym (pick q p (OutCounted i w ∷ steps_of p es) (steps_of p es)
          (λ l. lane_steps l ≡ lane_steps (steps_of p es)) (λ _. refl) (λ _. refl))
      by_step q (LaneOut i) is = is
          ∙ sym (pick q p (LaneOut i ∷ steps_of p es) (steps_of p es)
          (λ l. lane_steps l ≡ lane_steps (steps_of p es)) (λ _. refl) (λ _. refl))
      by_step q (LaneIn i) is = is
          ∙ sym (pick q p (LaneIn i ∷ steps_of p es) (steps_of p es)
          (λ l. lane_steps l ≡ lane_steps (steps_of p es)) (λ _. refl) (λ _. refl))

  pub gates_own : (es : List (StepBy BoardStep)) → steps_of p (gates_of es) ≡ gate_steps
      (steps_of p es)
  gates_own [] = refl
  gates_own (e ∷ es) = by_step e.by e.step (gates_own es)
    where
      by_step : (q : ℕ) (d : BoardStep) → steps_of p (gates_of es) ≡ gate_steps (steps_of p es)
          → steps_of p (gate_part q d (gates_of es)) ≡ gate_steps (steps_of p (step_by q d ∷ es))
      by_step q (Gate d) is = dite (ℕ_discrete q p)
          (λ e. steps_of_own p q d (gates_of es) e
          ∙ (ap (λ l. d ∷ l) is ∙ sym (ap gate_steps (steps_of_own p q (Gate d) es e))))
          (λ ne. steps_of_other p q d (gates_of es) ne
          ∙ (is ∙ sym (ap gate_steps (steps_of_other p q (Gate d) es ne))))
      by_step q (Lane d) is = is
          ∙ sym (pick q p (Lane d ∷ steps_of p es) (steps_of p es)
          (λ l. gate_steps l ≡ gate_steps (steps_of p es)) (λ _. refl) (λ _. refl))
      by_step q (Weighed i w) is = is
          ∙ sym (pick q p (Weighed i w ∷ steps_of p es) (steps_of p es)
          (λ l. gate_steps l ≡ gate_steps (steps_of p es)) (λ _. refl) (λ _. refl))
      by_step q (Counted i w) is = is
          ∙ sym (pick q p (Counted i w ∷ steps_of p es) (steps_of p es)
          (λ l. gate_steps l ≡ gate_steps (steps_of p es)) (λ _. refl) (λ _. refl))
      by_step q (OutCounted i w) is = is
          ∙ sym (pick q p (OutCounted i w ∷ steps_of p es) (steps_of p es)
          (λ l. gate_steps l ≡ gate_steps (steps_of p es)) (λ _. refl) (λ _. refl))
      by_step q (LaneOut i) is = is
          ∙ sym (pick q p (LaneOut i ∷ steps_of p es) (steps_of p es)
          (λ l. gate_steps l ≡ gate_steps (steps_of p es)) (λ _. refl) (λ _. refl))
      by_step q (LaneIn i) is = is
          ∙ sym (pick q p (LaneIn i ∷ steps_of p es) (steps_of p es)
          (λ l. gate_steps l ≡ gate_steps (steps_of p es)) (λ _. refl) (λ _. refl))

module _ (about : BoardSizes) where
  put_room : (x : LaneLists) (id : ℕ) (hash : Option ℕ) → (after_put x id hash).room ≡ x.room
  put_room x id hash = by_cause (lane_drop_cause x hash)
    where
      by_cause : (cause : Option DropCause) → (put_by cause x id (bucket_of hash)).room ≡ x.room
      by_cause None = refl
      by_cause (Some cause) = refl

  changed_room : (c : Change) (x : LaneLists) → (lane_changed c x).room ≡ x.room
  changed_room Nothing x = refl
  changed_room (Offered id hash answer) x = put_room x id hash
  changed_room (Pulled id) x = refl

  step_room : (l : ℕ) (d : LaneStep) (x : LaneLists) → (lane_after_step l d x).room ≡ x.room
  step_room l (Freed i c) x = pick i l (lane_changed c x) x (λ (y : LaneLists). y.room ≡ x.room)
      (λ _. changed_room c x) (λ _. refl)
  step_room l (Held i w y) x = refl
  step_room l (Missed i w) x = refl
  step_room l (OutHeld i w y) x = refl
  step_room l (OutMissed i w) x = refl
  step_room l (OutFreed i) x = refl
  step_room l (Given i from id place) x = refl
  step_room l (Retired i w) x = refl

  pub lane_room : (es : List (StepBy LaneStep)) (l : ℕ) → (lane about l es).room ≡ about.room
  lane_room [] l = refl
  lane_room (e ∷ es) l = step_room l e.step (lane about l es) ∙ lane_room es l
