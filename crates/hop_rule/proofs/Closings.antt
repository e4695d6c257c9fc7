-- The holder of a lane holds it by its own steps; the settings are those of the closer's own steps.
use Rattle.hop_rule.specs.Gates as gates
use Rattle.hop_rule.specs.OutLanes.{out_list}
use Rattle.hop_rule.specs.Lanes.{holder, holding, holding_after, out, out_content, out_holder}
use Rattle.hop_rule.specs.Lanes.{out_holder_after, out_holding, out_holding_after, MayCome}
use Rattle.hop_rule.proofs.Names.{◌≡◌, ◌≢◌, ℕ, suc, ◌==◌, List, [], ◌∷◌, ◌++◌, Option, Some, None}
use Rattle.hop_rule.proofs.Names.{if◌then◌else◌, sym, refl, ap, ◌∙◌, arith, dite, ℕ_discrete}
use Rattle.hop_rule.proofs.Names.{StepBy, step_by, steps_of, steps_of_own, steps_of_other, if_same}
use Rattle.hop_rule.proofs.Names.{if_other, BoardSizes, LaneStep, Held, Missed, Freed, OutHeld}
use Rattle.hop_rule.proofs.Names.{OutMissed, OutFreed, Given, Retired, GateStep, Entered, Turned}
use Rattle.hop_rule.proofs.Names.{Left, Shut, NotShut, Opened, Set, Read, closer, OutList}
use Rattle.hop_rule.proofs.Names.{lane_changed, lane, out_after, AreLawful}
use Rattle.hop_rule.proofs.Cases.{pick}

module _ (about : BoardSizes) where
  abbrev HeldIs : List (StepBy LaneStep) → Type 0
  HeldIs es = (l p : ℕ) → holder l es ≡ suc p → holding l (steps_of p es) ≡ Some (lane about l es)

  passes : (q : ℕ) (d : LaneStep) (es : List (StepBy LaneStep)) (l p : ℕ) → holding_after l d
      (holding l (steps_of p es)) ≡ holding l (steps_of p es)
      → holding l (steps_of p (step_by q d ∷ es)) ≡ holding l (steps_of p es)
  passes q d es l p same = dite (ℕ_discrete q p) (λ e. ap (holding l) (steps_of_own p q d es e)
      ∙ same) (λ ne. ap (holding l) (steps_of_other p q d es ne))

  held_step : (q : ℕ) (d : LaneStep) (es : List (StepBy LaneStep)) → MayCome about q es d
      → HeldIs es → HeldIs (step_by q d ∷ es)
  held_step q (Held i w x) es may before l p h = dite (ℕ_discrete i l)
      (λ e. let same : suc q ≡ suc p = sym (if_same i l (suc q) (holder l es) e)
      ∙ h in let by : q ≡ p = omega arith in
      ap (holding l) (steps_of_own p q (Held i w x) es by)
      ∙ (if_same i l (Some x) (holding l (steps_of p es)) e
      ∙ ap Some (may.3 ∙ ap (λ (z : ℕ). lane about z es) e)))
      (λ ne. passes q (Held i w x) es l p (if_other i l (Some x) (holding l (steps_of p es)) ne)
      ∙ before l p (sym (if_other i l (suc q) (holder l es) ne) ∙ h))
  held_step q (Freed i c) es may before l p h = dite (ℕ_discrete i l)
      (λ e. let z : 0 ≡ suc p = sym (if_same i l 0 (holder l es) e) ∙ h in absurd (omega arith))
      (λ ne. passes q (Freed i c) es l p (if_other i l None (holding l (steps_of p es)) ne)
      ∙ (before l p (sym (if_other i l 0 (holder l es) ne) ∙ h)
      ∙ ap Some (sym (if_other i l (lane_changed c (lane about l es)) (lane about l es) ne))))
  held_step q (Missed i w) es may before l p h = passes q (Missed i w) es l p refl ∙ before l p h
  held_step q (OutHeld i w x) es may before l p h = passes q (OutHeld i w x) es l p refl
      ∙ before l p h
  held_step q (OutMissed i w) es may before l p h = passes q (OutMissed i w) es l p refl
      ∙ before l p h
  held_step q (OutFreed i) es may before l p h = passes q (OutFreed i) es l p refl ∙ before l p h
  held_step q (Given i from id place) es may before l p h = passes q (Given i from id place) es l p
      refl ∙ before l p h
  held_step q (Retired i w) es may before l p h = passes q (Retired i w) es l p refl ∙ before l p h

  -- the holder of a lane holds it by its own steps, as it is
  pub held_is : (es : List (StepBy LaneStep)) → AreLawful about es → HeldIs es
  held_is [] lawful l p h = absurd (omega arith)
  held_is (e ∷ es) lawful l p h = held_step e.by e.step es lawful.0 (held_is es lawful.1) l p h

  -- ---- the same of out lanes

  abbrev OutHeldIs : List (StepBy LaneStep) → Type 0
  OutHeldIs es = (o p : ℕ) → out_holder o es ≡ suc p → out_holding o (steps_of p es) ≡ Some
      (out_content about o es)

  out_passes : (q : ℕ) (d : LaneStep) (es : List (StepBy LaneStep)) (o p : ℕ)
      → out_holding_after o d (out_holding o (steps_of p es)) ≡ out_holding o (steps_of p es)
      → out_holding o (steps_of p (step_by q d ∷ es)) ≡ out_holding o (steps_of p es)
  out_passes q d es o p same = dite (ℕ_discrete q p)
      (λ e. ap (out_holding o) (steps_of_own p q d es e) ∙ same)
      (λ ne. ap (out_holding o) (steps_of_other p q d es ne))

  -- a step that gives the out lane i back
  out_freed : (q i : ℕ) (d : LaneStep) (es : List (StepBy LaneStep)) (o p : ℕ)
      → ((x : Option OutList) → out_holding_after o d x ≡ (if i == o then None else x))
      → out_holder_after o q d (out_holder o es) ≡ (if i == o then 0 else out_holder o es)
      → (i ≢ o → out_after o d (out o es) ≡ out o es) → OutHeldIs es
      → out_holder o (step_by q d ∷ es) ≡ suc p → out_holding o (steps_of p (step_by q d ∷ es))
      ≡ Some (out_content about o (step_by q d ∷ es))
  out_freed q i d es o p a b same before h = dite (ℕ_discrete i o)
      (λ e. let z : 0 ≡ suc p = sym (b ∙ if_same i o 0 (out_holder o es) e)
      ∙ h in absurd (omega arith))
      (λ ne. out_passes q d es o p (a (out_holding o (steps_of p es)) ∙ if_other i o None
      (out_holding o (steps_of p es)) ne)
      ∙ (before o p (sym (b ∙ if_other i o 0 (out_holder o es) ne) ∙ h)
      ∙ ap (λ xs. Some (out_list xs about.room)) (sym (same ne))))

  out_held_step : (q : ℕ) (d : LaneStep) (es : List (StepBy LaneStep)) → MayCome about q es d
      → OutHeldIs es → OutHeldIs (step_by q d ∷ es)
  out_held_step q (OutHeld i w x) es may before o p h = dite (ℕ_discrete i o)
      (λ e. let same : suc q ≡ suc p = sym (if_same i o (suc q) (out_holder o es) e)
      ∙ h in let by : q ≡ p = omega arith in
      ap (out_holding o) (steps_of_own p q (OutHeld i w x) es by)
      ∙ (if_same i o (Some x) (out_holding o (steps_of p es)) e
      ∙ ap Some (may.3 ∙ ap (λ (z : ℕ). out_content about z es) e)))
      (λ ne. out_passes q (OutHeld i w x) es o p
      (if_other i o (Some x) (out_holding o (steps_of p es)) ne)
      ∙ before o p (sym (if_other i o (suc q) (out_holder o es) ne) ∙ h))
  out_held_step q (OutFreed i) es may before o p h = out_freed q i (OutFreed i) es o p
      (λ _. refl) refl (λ _. refl) before h
  out_held_step q (Given i from id place) es may before o p h = out_freed q i
      (Given i from id place) es o p (λ _. refl) refl
      (λ ne. if_other i o (out o es ++ id ∷ []) (out o es) ne) before h
  out_held_step q (Held i w x) es may before o p h = out_passes q (Held i w x) es o p refl
      ∙ before o p h
  out_held_step q (Missed i w) es may before o p h = out_passes q (Missed i w) es o p refl
      ∙ before o p h
  out_held_step q (Freed i c) es may before o p h = out_passes q (Freed i c) es o p refl
      ∙ before o p h
  out_held_step q (OutMissed i w) es may before o p h = out_passes q (OutMissed i w) es o p refl
      ∙ before o p h
  out_held_step q (Retired i w) es may before o p h = out_passes q (Retired i w) es o p refl
      ∙ before o p h

  pub out_held_is : (es : List (StepBy LaneStep)) → AreLawful about es → OutHeldIs es
  out_held_is [] lawful o p h = absurd (omega arith)
  out_held_is (e ∷ es) lawful o p h = out_held_step e.by e.step es lawful.0
      (out_held_is es lawful.1) o p h

  -- ---- settings

  -- the settings are the closer's own
  pub settings_own : (es : List (StepBy GateStep)) → gates.AreLawful about es
      → gates.settings about es ≡ gates.own_settings about (steps_of (closer about) es)
  settings_own [] lawful = refl
  settings_own (e ∷ es) lawful = by_step e.by e.step lawful.1 (settings_own es lawful.2)
    where
      quiet_ : (p : ℕ) (d : GateStep) → ((s : ℕ → ℕ) → gates.settings_after d s ≡ s)
          → gates.own_settings about (steps_of (closer about) (step_by p d ∷ es)) ≡
          gates.own_settings about (steps_of (closer about) es)
      quiet_ p d same = pick p (closer about) (d ∷ steps_of (closer about) es)
          (steps_of (closer about) es) (λ l. gates.own_settings about l ≡ gates.own_settings about
          (steps_of (closer about) es))
          (λ _. same (gates.own_settings about (steps_of (closer about) es))) (λ _. refl)

      by_step : (p : ℕ) (d : GateStep) → gates.MayCome about p es d
          → gates.settings about es ≡ gates.own_settings about (steps_of (closer about) es)
          → gates.settings_after d (gates.settings about es) ≡ gates.own_settings about
          (steps_of (closer about) (step_by p d ∷ es))
      by_step p (Set i v) may is = ap (gates.settings_after (Set i v)) is
          ∙ sym (ap (gates.own_settings about) (steps_of_own (closer about) p (Set i v) es may.0))
      by_step p (Entered w) may is = is ∙ sym (quiet_ p (Entered w) (λ s. refl))
      by_step p (Turned w) may is = is ∙ sym (quiet_ p (Turned w) (λ s. refl))
      by_step p Left may is = is ∙ sym (quiet_ p Left (λ s. refl))
      by_step p (Shut w) may is = is ∙ sym (quiet_ p (Shut w) (λ s. refl))
      by_step p (NotShut w) may is = is ∙ sym (quiet_ p (NotShut w) (λ s. refl))
      by_step p Opened may is = is ∙ sym (quiet_ p Opened (λ s. refl))
      by_step p (Read i v) may is = is ∙ sym (quiet_ p (Read i v) (λ s. refl))
