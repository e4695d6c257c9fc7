-- Laws of every lawful order of steps at lanes.
use Rattle.backlog.specs.Puts.{put_count}
use Rattle.hop_rule.proofs.Names.{◌≡◌, ◌≢◌, ℕ, suc, ◌+◌, ◌<◌, ◌≤◌, ◌==◌, List, [], ◌∷◌, ◌++◌}
use Rattle.hop_rule.proofs.Names.{length, if◌then◌else◌, sym, refl, ap, ◌∙◌, subst, arith}
use Rattle.hop_rule.proofs.Names.{length-append, Option, Some, None, dite, ℕ_discrete, LaneLists}
use Rattle.hop_rule.proofs.Names.{bucket_of, lane_drop_cause, DropCause, put_by, after_put, StepBy}
use Rattle.hop_rule.proofs.Names.{step_by, steps_of, steps_of_own, steps_of_other, if_same}
use Rattle.hop_rule.proofs.Names.{if_other, OutList, BoardSizes, Nothing, Offered, Pulled, LaneStep}
use Rattle.hop_rule.proofs.Names.{Held, Missed, Freed, OutHeld, OutMissed, OutFreed, Given, Retired}
use Rattle.hop_rule.proofs.Names.{puller, lane_changed, lane_after_step, out_after, lane, AreLawful}
use Rattle.hop_rule.proofs.Cases.{pick}
use Rattle.hop_rule.proofs.Lists.{some-is, none-some, get-inside}
use Rattle.hop_rule.specs.OutLanes.{out_list}
use Rattle.hop_rule.specs.Lanes.{holder_after, out_holder_after, holder, out_holder, retired, out}
use Rattle.hop_rule.specs.Lanes.{holding_after, holding, out_holding_after, out_holding, Phase}
use Rattle.hop_rule.specs.Lanes.{idle, has_pulled, gave, phase_after, phase, out_content}
use Rattle.hop_rule.specs.Lanes.{FitsChange, MayCome}

module _ (about : BoardSizes) where
  abbrev Order : Type 0
  Order = List (StepBy LaneStep)

  -- ---- who holds a lane by its own steps is its holder, and the lane is as it was found

  abbrev Holds : Order → Type 0
  Holds es = (l p : ℕ) (x : LaneLists) → holding l (steps_of p es) ≡ Some x → (holder l es ≡ suc p)
      × (lane about l es ≡ x)

  passes : (q : ℕ) (d : LaneStep) (es : Order)
      → ((l : ℕ) (o : Option LaneLists) → holding_after l d o ≡ o)
      → ((l h : ℕ) → holder_after l q d h ≡ h) → ((l : ℕ) (x : LaneLists)
      → lane_after_step l d x ≡ x)
      → Holds es → Holds (step_by q d ∷ es)
  passes q d es a b c before l p x at =
      let was : holding l (steps_of p es) ≡ Some x = dite (ℕ_discrete q p)
      (λ same. sym (a l (holding l (steps_of p es)))
      ∙ (sym (ap (holding l) (steps_of_own p q d es same)) ∙ at))
      (λ other. sym (ap (holding l) (steps_of_other p q d es other)) ∙ at) in
      let t = before l p x was in (b l (holder l es) ∙ t.0, c l (lane about l es) ∙ t.1)

  holds_step : (q : ℕ) (d : LaneStep) (es : Order) → MayCome about q es d → Holds es
      → Holds (step_by q d ∷ es)
  holds_step q (Held i w y) es may before l p x at = dite (ℕ_discrete q p)
      (λ same. let here = sym (ap (holding l) (steps_of_own p q (Held i w y) es same))
      ∙ at in dite (ℕ_discrete i l)
      (λ is. let found : y ≡ x = some-is y x
      (sym (if_same i l (Some y) (holding l (steps_of p es)) is) ∙ here) in (
        if_same i l (suc q) (holder l es) is ∙ ap suc same,
        ap (λ (z : ℕ). lane about z es) (sym is)
            ∙ (sym may.3 ∙ found),
      ))
      (λ isnt. let t = before l p x (sym (if_other i l (Some y) (holding l (steps_of p es)) isnt)
      ∙ here) in (if_other i l (suc q) (holder l es) isnt ∙ t.0, t.1)))
      (λ other. let t = before l p x
      (sym (ap (holding l) (steps_of_other p q (Held i w y) es other)) ∙ at) in let held =
      t.0 in dite (ℕ_discrete i l)
      (λ is. let free : holder l es ≡ 0 = ap (λ (z : ℕ). holder z es) (sym is) ∙ may.2 in
      absurd (omega arith))
      (λ isnt. (if_other i l (suc q) (holder l es) isnt ∙ t.0, t.1)))
  holds_step q (Missed i w) es may before l p x at = passes q (Missed i w) es (λ _ _. refl)
      (λ _ _. refl) (λ _ _. refl) before l p x at
  holds_step q (Freed i c) es may before l p x at = dite (ℕ_discrete q p)
      (λ same. let here = sym (ap (holding l) (steps_of_own p q (Freed i c) es same))
      ∙ at in dite (ℕ_discrete i l)
      (λ is. none-some x (sym (if_same i l None (holding l (steps_of p es)) is) ∙ here))
      (λ isnt. let t = before l p x (sym (if_other i l None (holding l (steps_of p es)) isnt)
      ∙ here) in (
        if_other i l 0 (holder l es) isnt ∙ t.0,
        if_other i l (lane_changed c (lane about l es))
            (lane about l es) isnt ∙ t.1,
      )))
      (λ other. let t = before l p x (sym (ap (holding l) (steps_of_other p q (Freed i c) es other))
      ∙ at) in let held = t.0 in dite (ℕ_discrete i l)
      (λ is. let theirs = before i q may.1.0 may.1.1 in let h : holder i es ≡ suc q = theirs.0 in
      let h' : holder i es ≡ suc p = ap (λ (z : ℕ). holder z es) is ∙ t.0 in
      absurd (other (omega arith)))
      (λ isnt. (
        if_other i l 0 (holder l es) isnt ∙ t.0,
        if_other i l (lane_changed c (lane about l es))
            (lane about l es) isnt ∙ t.1,
      )))
  holds_step q (OutHeld i w y) es may before l p x at = passes q (OutHeld i w y) es (λ _ _. refl)
      (λ _ _. refl) (λ _ _. refl) before l p x at
  holds_step q (OutMissed i w) es may before l p x at = passes q (OutMissed i w) es (λ _ _. refl)
      (λ _ _. refl) (λ _ _. refl) before l p x at
  holds_step q (OutFreed i) es may before l p x at = passes q (OutFreed i) es (λ _ _. refl)
      (λ _ _. refl) (λ _ _. refl) before l p x at
  holds_step q (Given i from id place) es may before l p x at = passes q (Given i from id place) es
      (λ _ _. refl) (λ _ _. refl) (λ _ _. refl) before l p x at
  holds_step q (Retired i f) es may before l p x at = passes q (Retired i f) es (λ _ _. refl)
      (λ _ _. refl) (λ _ _. refl) before l p x at

  pub holds : (es : Order) → AreLawful about es → Holds es
  holds [] lawful l p x at = none-some x at
  holds (e ∷ es) lawful l p x at = holds_step e.by e.step es lawful.0 (holds es lawful.1) l p x at

  -- ---- the same of out lanes

  abbrev OutHolds : Order → Type 0
  OutHolds es = (o p : ℕ) (x : OutList) → out_holding o (steps_of p es) ≡ Some x
      → (out_holder o es ≡ suc p) × (out_content about o es ≡ x)

  out_passes : (q : ℕ) (d : LaneStep) (es : Order)
      → ((l : ℕ) (o : Option OutList) → out_holding_after l d o ≡ o)
      → ((l h : ℕ) → out_holder_after l q d h ≡ h) → ((l : ℕ) (xs : List ℕ) → out_after l d xs ≡ xs)
      → OutHolds es → OutHolds (step_by q d ∷ es)
  out_passes q d es a b c before l p x at =
      let was : out_holding l (steps_of p es) ≡ Some x = dite (ℕ_discrete q p)
      (λ same. sym (a l (out_holding l (steps_of p es)))
      ∙ (sym (ap (out_holding l) (steps_of_own p q d es same)) ∙ at))
      (λ other. sym (ap (out_holding l) (steps_of_other p q d es other)) ∙ at) in
      let t = before l p x was in (
        b l (out_holder l es) ∙ t.0,
        ap (λ (xs : List ℕ). out_list xs about.room)
            (c l (out l es)) ∙ t.1,
      )

  -- a release of an out lane, with or without a packet more
  out_free : (q i : ℕ) (d : LaneStep) (es : Order) (y : OutList)
      → ((l : ℕ) (o : Option OutList) → out_holding_after l d o ≡ (if i == l then None else o))
      → ((l h : ℕ) → out_holder_after l q d h ≡ (if i == l then 0 else h))
      → ((l : ℕ) (xs : List ℕ) → i ≢ l → out_after l d xs ≡ xs) → out_holding i (steps_of q es) ≡
      Some y → OutHolds es → OutHolds (step_by q d ∷ es)
  out_free q i d es y a b c mine before l p x at = dite (ℕ_discrete q p)
      (λ same. let here = sym (a l (out_holding l (steps_of p es)))
      ∙ (sym (ap (out_holding l) (steps_of_own p q d es same)) ∙ at) in dite (ℕ_discrete i l)
      (λ is. none-some x (sym (if_same i l None (out_holding l (steps_of p es)) is) ∙ here))
      (λ isnt. let t = before l p x (sym (if_other i l None (out_holding l (steps_of p es)) isnt)
      ∙ here) in (
        b l (out_holder l es) ∙ (if_other i l 0 (out_holder l es) isnt ∙ t.0),
        ap (λ (xs : List ℕ). out_list xs about.room) (c l (out l es) isnt) ∙ t.1,
      )))
      (λ other. let t = before l p x (sym (ap (out_holding l) (steps_of_other p q d es other))
      ∙ at) in let held = t.0 in dite (ℕ_discrete i l)
      (λ is. let theirs = before i q y mine in let h : out_holder i es ≡ suc q = theirs.0 in
      let h' : out_holder i es ≡ suc p = ap (λ (z : ℕ). out_holder z es) is ∙ t.0 in
      absurd (other (omega arith)))
      (λ isnt. (
        b l (out_holder l es) ∙ (if_other i l 0 (out_holder l es) isnt ∙ t.0),
        ap (λ (xs : List ℕ). out_list xs about.room) (c l (out l es) isnt) ∙ t.1,
      )))

  out_holds_step : (q : ℕ) (d : LaneStep) (es : Order) → MayCome about q es d → OutHolds es
      → OutHolds (step_by q d ∷ es)
  out_holds_step q (Held i w y) es may before l p x at = out_passes q (Held i w y) es (λ _ _. refl)
      (λ _ _. refl) (λ _ _. refl) before l p x at
  out_holds_step q (Missed i w) es may before l p x at = out_passes q (Missed i w) es (λ _ _. refl)
      (λ _ _. refl) (λ _ _. refl) before l p x at
  out_holds_step q (Freed i c) es may before l p x at = out_passes q (Freed i c) es (λ _ _. refl)
      (λ _ _. refl) (λ _ _. refl) before l p x at
  out_holds_step q (OutHeld i w y) es may before l p x at = dite (ℕ_discrete q p)
      (λ same. let here = sym (ap (out_holding l) (steps_of_own p q (OutHeld i w y) es same))
      ∙ at in dite (ℕ_discrete i l)
      (λ is. let found : y ≡ x = some-is y x
      (sym (if_same i l (Some y) (out_holding l (steps_of p es)) is) ∙ here) in (
        if_same i l (suc q) (out_holder l es) is ∙ ap suc same,
        ap (λ (z : ℕ). out_content about z es) (sym is) ∙ (sym may.3 ∙ found),
      ))
      (λ isnt. let t = before l p x
      (sym (if_other i l (Some y) (out_holding l (steps_of p es)) isnt) ∙ here) in
      (if_other i l (suc q) (out_holder l es) isnt ∙ t.0, t.1)))
      (λ other. let t = before l p x
      (sym (ap (out_holding l) (steps_of_other p q (OutHeld i w y) es other)) ∙ at) in
      let held = t.0 in dite (ℕ_discrete i l)
      (λ is. let free : out_holder l es ≡ 0 = ap (λ (z : ℕ). out_holder z es) (sym is) ∙ may.2 in
      absurd (omega arith))
      (λ isnt. (if_other i l (suc q) (out_holder l es) isnt ∙ t.0, t.1)))
  out_holds_step q (OutMissed i w) es may before l p x at = out_passes q (OutMissed i w) es
      (λ _ _. refl) (λ _ _. refl) (λ _ _. refl) before l p x at
  out_holds_step q (OutFreed i) es may before l p x at = out_free q i (OutFreed i) es may.1.0
      (λ _ _. refl) (λ _ _. refl) (λ _ _ _. refl) may.1.1 before l p x at
  out_holds_step q (Given i from id place) es may before l p x at = out_free q i
      (Given i from id place) es may.2.0 (λ _ _. refl) (λ _ _. refl)
      (λ l xs ne. if_other i l (xs ++ id ∷ []) xs ne) may.2.1 before l p x at
  out_holds_step q (Retired i f) es may before l p x at = out_passes q (Retired i f) es
      (λ _ _. refl) (λ _ _. refl) (λ _ _. refl) before l p x at

  pub out_holds : (es : Order) → AreLawful about es → OutHolds es
  out_holds [] lawful o p x at = none-some x at
  out_holds (e ∷ es) lawful o p x at = out_holds_step e.by e.step es lawful.0
      (out_holds es lawful.1) o p x at

  -- ---- counts

  abbrev pub out_of_hand : Phase → ℕ
  out_of_hand idle = 0
  out_of_hand (has_pulled id) = 1
  out_of_hand gave = 1

  abbrev CountsOf : ℕ → Phase → LaneLists → Type 0
  CountsOf n o x = (x.pulled ≡ n + out_of_hand o) × (x.pulled ≤ length x.accepted)
      × (put_count x ≤ about.room)

  abbrev pub Counted : ℕ → Order → Type 0
  Counted l es = CountsOf (retired l es) (phase l (steps_of (puller about l) es)) (lane about l es)

  pub phase_same : (l q : ℕ) (d : LaneStep) (es : Order) → ((o : Phase) → phase_after l d o ≡ o)
      → phase l (steps_of (puller about l) (step_by q d ∷ es)) ≡ phase l
      (steps_of (puller about l) es)
  phase_same l q d es same = dite (ℕ_discrete q (puller about l))
      (λ e. ap (phase l) (steps_of_own (puller about l) q d es e) ∙ same _)
      (λ ne. ap (phase l) (steps_of_other (puller about l) q d es ne))

  put_counts : (n : ℕ) (o : Phase) (x : LaneLists) (id : ℕ) (hash : Option ℕ)
      → put_count x < about.room → CountsOf n o x → CountsOf n o (after_put x id hash)
  put_counts n o x id hash few t = by_cause (lane_drop_cause x hash)
    where
      by_cause : (cause : Option DropCause) → CountsOf n o (put_by cause x id (bucket_of hash))
      by_cause None = let more = length-append x.accepted (id ∷ []) in let le =
          t.1 in (t.0, omega arith, omega arith)
      by_cause (Some cause) = let more = length-append x.drops
          (record { id = id; accepted = length x.accepted; pulled = x.pulled; cause = cause } ∷
          []) in (t.0, t.1, omega arith)

  -- a step that leaves the phase, the lane and the head
  quiet : (l q : ℕ) (d : LaneStep) (es : Order) → ((o : Phase) → phase_after l d o ≡ o)
      → lane_after_step l d (lane about l es) ≡ lane about l es
      → Rattle.hop_rule.specs.Lanes.retired_after l d (retired l es) ≡ retired l es → Counted l es
      → Counted l (step_by q d ∷ es)
  quiet l q d es a b c t = subst (λ (z : Phase × (LaneLists × ℕ)). CountsOf z.1.1 z.0 z.1.0)
      (λ k. (sym (phase_same l q d es a) k, (sym b k, sym c k))) t

  counted_step : (l q : ℕ) (d : LaneStep) (es : Order) → MayCome about q es d → AreLawful about es
      → Counted l es → Counted l (step_by q d ∷ es)
  counted_step l q (Held i w x) es may lawful t = quiet l q (Held i w x) es (λ _. refl) refl refl t
  counted_step l q (Missed i w) es may lawful t = quiet l q (Missed i w) es (λ _. refl) refl refl t
  counted_step l q (Freed i Nothing) es may lawful t = quiet l q (Freed i Nothing) es (λ _. refl)
      (pick i l (lane about l es) (lane about l es) (λ x. x ≡ lane about l es) (λ _. refl)
      (λ _. refl)) refl t
  counted_step l q (Freed i (Offered id hash answer)) es may lawful t =
      subst (λ (o : Phase). CountsOf (retired l es) o
      (if i == l then after_put (lane about l es) id hash else lane about l es))
      (sym (phase_same l q (Freed i (Offered id hash answer)) es (λ _. refl)))
      (pick i l (after_put (lane about l es) id hash) (lane about l es)
      (CountsOf (retired l es) (phase l (steps_of (puller about l) es)))
      (λ e. let found = (holds es lawful i q may.1.0 may.1.1).1 in
      let few : put_count (lane about l es) < about.room =
      subst (λ (z : LaneLists). put_count z < about.room)
      (sym found ∙ ap (λ (z : ℕ). lane about z es) e) may.1.2.1 in
      put_counts (retired l es) _ (lane about l es) id hash few t)
      (λ _. t))
  counted_step l q (Freed i (Pulled id)) es may lawful t = dite (ℕ_discrete i l)
      (λ e.
      let found = (holds es lawful i q may.1.0 may.1.1).1 in let x : LaneLists = lane about l es in
      let same : x ≡ may.1.0 = ap (λ (z : ℕ). lane about z es) (sym e) ∙ found in
      let by : q ≡ puller about l = sym may.1.2.0 ∙ ap (puller about) e in
      let was : phase l (steps_of (puller about l) es) ≡ idle =
      (λ k. phase (sym e k) (steps_of (sym by k) es)) ∙ may.1.2.2 in
      let now : phase l (steps_of (puller about l) (step_by q (Freed i (Pulled id)) ∷ es)) ≡
      has_pulled id = ap (phase l) (steps_of_own (puller about l) q (Freed i (Pulled id)) es by)
      ∙ if_same i l (has_pulled id) (phase l (steps_of (puller about l) es)) e in
      let less : x.pulled < length x.accepted =
      subst (λ (z : LaneLists). z.pulled < length z.accepted) (sym same)
      (get-inside may.1.0.accepted may.1.0.pulled id may.1.2.1).0 in
      let none_out : x.pulled ≡ retired l es + 0 = t.0 ∙ ap (λ o. retired l es + out_of_hand o)
      was in let few = t.2 in
      subst (λ (z : Phase × LaneLists). CountsOf (retired l es) z.0 z.1)
      (λ k. (sym now k, sym (if_same i l (lane_changed (Pulled id) x) x e) k))
      (omega arith, omega arith, few))
      (λ ne. quiet l q (Freed i (Pulled id)) es (λ o. if_other i l (has_pulled id) o ne)
      (if_other i l (lane_changed (Pulled id) (lane about l es)) (lane about l es) ne) refl t)
  counted_step l q (OutHeld i w x) es may lawful t = quiet l q (OutHeld i w x) es (λ _. refl) refl
      refl t
  counted_step l q (OutMissed i w) es may lawful t = quiet l q (OutMissed i w) es (λ _. refl) refl
      refl t
  counted_step l q (OutFreed i) es may lawful t = quiet l q (OutFreed i) es (λ _. refl) refl refl t
  counted_step l q (Given i from id place) es may lawful t = dite (ℕ_discrete from l)
      (λ e.
      let by : q ≡ puller about l = sym may.2.4 ∙ ap (puller about) e in
      let was : phase l (steps_of (puller about l) es) ≡ has_pulled id =
      (λ k. phase (sym e k) (steps_of (sym by k) es)) ∙ may.2.5 in
      let now : phase l (steps_of (puller about l) (step_by q (Given i from id place) ∷ es)) ≡
      gave = ap (phase l) (steps_of_own (puller about l) q (Given i from id place) es by)
      ∙ if_same from l gave (phase l (steps_of (puller about l) es)) e in
      subst (λ (o : Phase). CountsOf (retired l es) o (lane about l es)) (sym now)
      (t.0 ∙ ap (λ o. retired l es + out_of_hand o) was, t.1, t.2))
      (λ ne. quiet l q (Given i from id place) es (λ o. if_other from l gave o ne) refl refl t)
  counted_step l q (Retired i f) es may lawful t = dite (ℕ_discrete i l)
      (λ e.
      let x : LaneLists = lane about l es in
      let by : q ≡ puller about l = sym may.2 ∙ ap (puller about) e in
      let was : phase l (steps_of (puller about l) es) ≡ gave =
      (λ k. phase (sym e k) (steps_of (sym by k) es)) ∙ may.3 in
      let now : phase l (steps_of (puller about l) (step_by q (Retired i f) ∷ es)) ≡ idle =
      ap (phase l) (steps_of_own (puller about l) q (Retired i f) es by) ∙ if_same i l idle
      (phase l (steps_of (puller about l) es)) e in
      let one_out : x.pulled ≡ retired l es + 1 = t.0 ∙ ap (λ o. retired l es + out_of_hand o)
      was in let within = t.1 in let few = t.2 in
      subst (λ (z : Phase × ℕ). CountsOf z.1 z.0 x)
      (λ k. (sym now k, sym (if_same i l (retired l es + 1) (retired l es) e) k))
      (omega arith, within, few))
      (λ ne. quiet l q (Retired i f) es (λ o. if_other i l idle o ne) refl
      (if_other i l (retired l es + 1) (retired l es) ne) t)

  pub counted : (es : Order) → AreLawful about es → (l : ℕ) → Counted l es
  counted [] lawful l = (refl, omega arith, omega arith)
  counted (e ∷ es) lawful l = counted_step l e.by e.step es lawful.0 lawful.1
      (counted es lawful.1 l)

  -- ---- lanes grow

  abbrev pub count : ℕ → Order → ℕ
  count l es = length (lane about l es).accepted
