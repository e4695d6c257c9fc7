-- Who has taken a slot by its own steps is its lane's holder, and the slot is as its steps say.
use Rattle.hop_rule.specs.Lanes as lanes
use Rattle.hop_rule.specs.Boards.{out_slot, SlotState, full, taken, empty, state_after, slot_state}
use Rattle.hop_rule.specs.Boards.{own_state}
use Rattle.hop_rule.proofs.Names.{◌≡◌, ◌≢◌, ℕ, suc, ◌+◌, ◌<◌, List, [], ◌∷◌, sym, refl, ap, ◌∙◌}
use Rattle.hop_rule.proofs.Names.{arith, dite, ℕ_discrete, StepBy, step_by, steps_of, steps_of_own}
use Rattle.hop_rule.proofs.Names.{steps_of_other, if_same, if_other, BoardSizes, BoardStep, Lane}
use Rattle.hop_rule.proofs.Names.{Gate, Weighed, Counted, LaneOut, LaneIn, OutCounted, LaneStep}
use Rattle.hop_rule.proofs.Names.{Held, Missed, Freed, OutHeld, OutMissed, OutFreed, Given, Retired}
use Rattle.hop_rule.proofs.Names.{lanes_of, MayCome, IsLawful}
use Rattle.hop_rule.proofs.Lanes.{holds, out_holds}
use Rattle.hop_rule.proofs.Cases.{lane_part}
use Rattle.hop_rule.proofs.Boards.{parts}

abbrev pub is_out : SlotState → ℕ
is_out full = 0
is_out taken = 1
is_out empty = 1

-- a slot, and who holds its lane
module _ (about : BoardSizes) (l : ℕ) (held : List (StepBy LaneStep) → ℕ) where
  abbrev Order : Type 0
  Order = List (StepBy BoardStep)

  pub record Agrees (es : Order) : Type 0 where
    pub own : (p : ℕ) → is_out (own_state about l (steps_of p es)) ≡ 1
        → (held (lanes_of es) ≡ suc p) × (slot_state about l es ≡ own_state about l (steps_of p es))
    pub home : held (lanes_of es) ≡ 0 → slot_state about l es ≡ full

  -- a step that says nothing of the slot
  pub same : (q : ℕ) (d : BoardStep) (es : Order) → ((s : SlotState) → state_after about l d s ≡ s)
      → held (lane_part q d (lanes_of es)) ≡ held (lanes_of es) → Agrees es
      → Agrees (step_by q d ∷ es)
  same q d es a b t = record {
    own = λ p on. (
        let was : own_state about l (steps_of p (step_by q d ∷ es)) ≡ own_state about l
        (steps_of p es) = dite (ℕ_discrete q p)
        (λ e. ap (own_state about l) (steps_of_own p q d es e)
        ∙ a (own_state about l (steps_of p es)))
        (λ ne. ap (own_state about l) (steps_of_other p q d es ne)) in
        let u = t.own p (sym (ap is_out was) ∙ on) in (
          b ∙ u.0,
          a (slot_state about l es)
              ∙ (u.1 ∙ sym was),
        ));
    home = λ free. a (slot_state about l es) ∙ t.home (sym b ∙ free);
  }

  -- the seat q takes the slot, or has it, and no other has
  pub has : (q : ℕ) (d : BoardStep) (v : SlotState) (es : Order)
      → ((s : SlotState) → state_after about l d s ≡ v) → held (lane_part q d (lanes_of es)) ≡ suc q
      → ((p : ℕ) → q ≢ p → is_out (own_state about l (steps_of p es)) ≡ 1 → ⊥)
      → Agrees (step_by q d ∷ es)
  has q d v es a b none = record {
    own = λ p on. dite (ℕ_discrete q p)
        (λ e. (
          b ∙ ap suc e,
          a (slot_state about l es)
              ∙ sym (ap (own_state about l) (steps_of_own p q d es e)
              ∙ a (own_state about l (steps_of p es))),
        ))
        (λ ne. absurd (none p ne
        (sym (ap (λ z. is_out (own_state about l z)) (steps_of_other p q d es ne)) ∙ on)));
    home = λ free. (let z : suc q ≡ 0 = sym b ∙ free in absurd (omega arith));
  }

  -- the seat q gives the slot back
  pub frees : (q : ℕ) (d : BoardStep) (es : Order)
      → ((s : SlotState) → state_after about l d s ≡ full)
      → ((p : ℕ) → q ≢ p → is_out (own_state about l (steps_of p es)) ≡ 1 → ⊥)
      → Agrees (step_by q d ∷ es)
  frees q d es a none = record {
    own = λ p on. dite (ℕ_discrete q p)
        (λ e. (let z : is_out full ≡ 1 =
        sym (ap is_out (ap (own_state about l) (steps_of_own p q d es e)
        ∙ a (own_state about l (steps_of p es)))) ∙ on in absurd (omega arith)))
        (λ ne. absurd (none p ne
        (sym (ap (λ z. is_out (own_state about l z)) (steps_of_other p q d es ne)) ∙ on)));
    home = λ free. a (slot_state about l es);
  }

  pub only : (q : ℕ) (es : Order) → held (lanes_of es) ≡ suc q → Agrees es → (p : ℕ) → q ≢ p
      → is_out (own_state about l (steps_of p es)) ≡ 1 → ⊥
  only q es mine t p ne on = let u = (t.own p on).0 in let z : suc q ≡ suc p = sym mine
      ∙ u in ne (omega arith)

  -- an order whose steps at lanes leave the slot as its holder says leaves it so
  pub all_agree : ((q : ℕ) (d : LaneStep) (es : Order) → MayCome about q es (Lane d)
      → IsLawful about es → Agrees es → Agrees (step_by q (Lane d) ∷ es))
      → held [] ≡ 0 → (es : Order) → IsLawful about es → Agrees es
  all_agree lane_step free [] lawful =
      record {
        own = λ p on. (let z : is_out full ≡ 1 = on in absurd (omega arith));
        home = λ _.
            refl;
      }
  all_agree lane_step free (e ∷ es) lawful = by_step e.by e.step lawful.1
      (all_agree lane_step free es lawful.2)
    where
      by_step : (q : ℕ) (d : BoardStep) → MayCome about q es d → Agrees es
          → Agrees (step_by q d ∷ es)
      by_step q (Lane d) may t = lane_step q d es may lawful.2 t
      by_step q (Gate d) may t = same q (Gate d) es (λ s. refl) refl t
      by_step q (Weighed i w) may t = same q (Weighed i w) es (λ s. refl) refl t
      by_step q (Counted i w) may t = same q (Counted i w) es (λ s. refl) refl t
      by_step q (OutCounted i w) may t = same q (OutCounted i w) es (λ s. refl) refl t
      by_step q (LaneOut i) may t = dite (ℕ_discrete i l)
          (λ e. let mine = (t.own q
          (ap is_out (ap (λ z. own_state about z (steps_of q es)) (sym e) ∙ may.1))).0 in
          has q (LaneOut i) empty es (λ s. if_same i l empty s e) mine (only q es mine t))
          (λ ne. same q (LaneOut i) es (λ s. if_other i l empty s ne) refl t)
      by_step q (LaneIn i) may t = dite (ℕ_discrete i l)
          (λ e. let mine = (t.own q
          (ap is_out (ap (λ z. own_state about z (steps_of q es)) (sym e) ∙ may.1))).0 in
          has q (LaneIn i) taken es (λ s. if_same i l taken s e) mine (only q es mine t))
          (λ ne. same q (LaneIn i) es (λ s. if_other i l taken s ne) refl t)

-- ---- a middle lane

module _ (about : BoardSizes) (l : ℕ) (inside : l < about.lanes) where
  abbrev at_lane : List (StepBy LaneStep) → ℕ
  at_lane es = lanes.holder l es

  lane_step : (q : ℕ) (d : LaneStep) (es : List (StepBy BoardStep)) → MayCome about q es (Lane d)
      → IsLawful about es → Agrees about l at_lane es → Agrees about l at_lane
      (step_by q (Lane d) ∷ es)
  lane_step q (Held i w x) es may lawful t = dite (ℕ_discrete i l)
      (λ e. has about l at_lane q (Lane (Held i w x)) taken es (λ s. if_same i l taken s e)
      (if_same i l (suc q) (lanes.holder l (lanes_of es)) e)
      (λ p ne on. let u = (t.own p on).0 in let free : lanes.holder l (lanes_of es) ≡ 0 =
      ap (λ z. lanes.holder z (lanes_of es)) (sym e) ∙ may.0.2 in absurd (omega arith)))
      (λ ne. same about l at_lane q (Lane (Held i w x)) es (λ s. if_other i l taken s ne)
      (if_other i l (suc q) (lanes.holder l (lanes_of es)) ne) t)
  lane_step q (Freed i c) es may lawful t = dite (ℕ_discrete i l)
      (λ e. let held = (holds about (lanes_of es) (parts about es lawful).0 i q may.0.1.0
      may.0.1.1).0 in
      frees about l at_lane q (Lane (Freed i c)) es (λ s. if_same i l full s e)
      (only about l at_lane q es (ap (λ z. lanes.holder z (lanes_of es)) (sym e) ∙ held) t))
      (λ ne. same about l at_lane q (Lane (Freed i c)) es (λ s. if_other i l full s ne)
      (if_other i l 0 (lanes.holder l (lanes_of es)) ne) t)
  lane_step q (Missed i w) es may lawful t = same about l at_lane q (Lane (Missed i w)) es
      (λ s. refl) refl t
  lane_step q (OutHeld o w x) es may lawful t = same about l at_lane q (Lane (OutHeld o w x)) es
      (λ s. if_other (about.lanes + o) l taken s (λ e. absurd (omega arith))) refl t
  lane_step q (OutMissed o w) es may lawful t = same about l at_lane q (Lane (OutMissed o w)) es
      (λ s. refl) refl t
  lane_step q (OutFreed o) es may lawful t = same about l at_lane q (Lane (OutFreed o)) es
      (λ s. if_other (about.lanes + o) l full s (λ e. absurd (omega arith))) refl t
  lane_step q (Given o from id place) es may lawful t = same about l at_lane q
      (Lane (Given o from id place)) es
      (λ s. if_other (about.lanes + o) l full s (λ e. absurd (omega arith))) refl t
  lane_step q (Retired i w) es may lawful t = same about l at_lane q (Lane (Retired i w)) es
      (λ s. refl) refl t

  pub agrees : (es : List (StepBy BoardStep)) → IsLawful about es → Agrees about l at_lane es
  agrees es lawful = all_agree about l at_lane lane_step refl es lawful

-- ---- an out lane

module _ (about : BoardSizes) (o : ℕ) where
  abbrev at_out : List (StepBy LaneStep) → ℕ
  at_out es = lanes.out_holder o es

  abbrev l : ℕ
  l = out_slot about o

  out_step : (q : ℕ) (d : LaneStep) (es : List (StepBy BoardStep)) → MayCome about q es (Lane d)
      → IsLawful about es → Agrees about l at_out es → Agrees about l at_out
      (step_by q (Lane d) ∷ es)
  out_step q (OutHeld i w x) es may lawful t = dite (ℕ_discrete i o)
      (λ e. let k : out_slot about i ≡ l = ap (out_slot about) e in
      has about l at_out q (Lane (OutHeld i w x)) taken es
      (λ s. if_same (out_slot about i) l taken s k)
      (if_same i o (suc q) (lanes.out_holder o (lanes_of es)) e)
      (λ p ne on. let u = (t.own p on).0 in let free : lanes.out_holder o (lanes_of es) ≡ 0 =
      ap (λ z. lanes.out_holder z (lanes_of es)) (sym e) ∙ may.0.2 in absurd (omega arith)))
      (λ ne. same about l at_out q (Lane (OutHeld i w x)) es
      (λ s. if_other (out_slot about i) l taken s (λ e. ne (omega arith)))
      (if_other i o (suc q) (lanes.out_holder o (lanes_of es)) ne) t)
  out_step q (OutFreed i) es may lawful t = dite (ℕ_discrete i o)
      (λ e. let k : out_slot about i ≡ l = ap (out_slot about) e in
      let mine = (out_holds about (lanes_of es) (parts about es lawful).0 i q may.0.1.0 may.0.1.1).0
      in
      frees about l at_out q (Lane (OutFreed i)) es (λ s. if_same (out_slot about i) l full s k)
      (only about l at_out q es (ap (λ z. lanes.out_holder z (lanes_of es)) (sym e) ∙ mine) t))
      (λ ne. same about l at_out q (Lane (OutFreed i)) es
      (λ s. if_other (out_slot about i) l full s (λ e. ne (omega arith)))
      (if_other i o 0 (lanes.out_holder o (lanes_of es)) ne) t)
  out_step q (Given i from id place) es may lawful t = dite (ℕ_discrete i o)
      (λ e. let k : out_slot about i ≡ l = ap (out_slot about) e in
      let mine = (out_holds about (lanes_of es) (parts about es lawful).0 i q may.0.2.0 may.0.2.1).0
      in
      frees about l at_out q (Lane (Given i from id place)) es
      (λ s. if_same (out_slot about i) l full s k)
      (only about l at_out q es (ap (λ z. lanes.out_holder z (lanes_of es)) (sym e) ∙ mine) t))
      (λ ne. same about l at_out q (Lane (Given i from id place)) es
      (λ s. if_other (out_slot about i) l full s (λ e. ne (omega arith)))
      (if_other i o 0 (lanes.out_holder o (lanes_of es)) ne) t)
  out_step q (Held i w x) es may lawful t = same about l at_out q (Lane (Held i w x)) es
      (λ s. if_other i l taken s (λ e. let z = may.0.0 in absurd (omega arith))) refl t
  out_step q (Freed i c) es may lawful t = same about l at_out q (Lane (Freed i c)) es
      (λ s. if_other i l full s (λ e. let z = may.0.0 in absurd (omega arith))) refl t
  out_step q (Missed i w) es may lawful t = same about l at_out q (Lane (Missed i w)) es
      (λ s. refl) refl t
  out_step q (OutMissed i w) es may lawful t = same about l at_out q (Lane (OutMissed i w)) es
      (λ s. refl) refl t
  out_step q (Retired i w) es may lawful t = same about l at_out q (Lane (Retired i w)) es
      (λ s. refl) refl t

  pub out_agrees : (es : List (StepBy BoardStep)) → IsLawful about es → Agrees about l at_out es
  out_agrees es lawful = all_agree about l at_out out_step refl es lawful
