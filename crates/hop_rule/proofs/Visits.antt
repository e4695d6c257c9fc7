-- What lies between an entry and a leave, between a close and an opening, and between two moments
-- at which the settings
-- differ.
use Rattle.std.proofs.Common.{Bool, true}
use Rattle.std.proofs.lemmas.Bool.{cases_Bool, true≢false}
use Rattle.hop_rule.specs.Gates.{Visit, outside, inside, backing, visit, with_setting, closed}
use Rattle.hop_rule.specs.Gates.{all_closed}
use Rattle.hop_rule.specs.Boards.{settings, visit_of}
use Rattle.hop_rule.proofs.Names.{◌≡◌, ◌≢◌, inl, inr, ℕ, zero, suc, ◌<◌, ◌≤◌, false, List, ◌∷◌}
use Rattle.hop_rule.proofs.Names.{length, sym, refl, ap, ◌∙◌, subst, arith, cases_eq, cases_lt}
use Rattle.hop_rule.proofs.Names.{dite, ℕ_discrete, StepBy, step_by, steps_of, steps_of_own}
use Rattle.hop_rule.proofs.Names.{steps_of_other, BoardSizes, BoardStep, Lane, Gate, Weighed}
use Rattle.hop_rule.proofs.Names.{Counted, LaneOut, LaneIn, OutCounted, GateStep, Entered, Turned}
use Rattle.hop_rule.proofs.Names.{Left, Shut, NotShut, Opened, Set, Read, closer, gates_of, MayCome}
use Rattle.hop_rule.proofs.Names.{IsLawful, past, IsStep}
use Rattle.hop_rule.proofs.Gates.{closes, unshut}
use Rattle.hop_rule.proofs.Moments.{past-all, past-step, along}
use Rattle.hop_rule.proofs.Cases.{gate_part}
use Rattle.hop_rule.proofs.Boards.{parts, lawful_past, step_lawful}

module _ (about : BoardSizes) (order : List (StepBy BoardStep)) (lawful : IsLawful about order)
  where
    -- ---- settings

    -- between two moments a setting was made that ended what a test says
    pub set_between : (test : (ℕ → ℕ) → Bool) (m n : ℕ) → m ≤ n
        → test (settings about (past m order))
        ≡ true → test (settings about (past n order)) ≡ false
        → (k : ℕ) × (q : ℕ) × (w : ℕ) × (v : ℕ) × (m ≤ k) × (k < n) × IsStep order k q
        (Gate (Set w v)) × (test (settings about (past k order)) ≡ true)
        × (test (with_setting (settings about (past k order)) w v) ≡ false)
    set_between test m zero le yes_ no_ = let e : m ≡ 0 = omega arith in
        absurd (true≢false (sym yes_ ∙ (ap (λ z. test (settings about (past z order))) e ∙ no_)))
    set_between test m (suc n) le yes_ no_ =
        elim (cases_eq m (suc n)) [
          | inl e ↦ absurd (true≢false
              (sym yes_ ∙ (ap (λ z. test (settings about (past z order))) e ∙ no_)))
          | inr ne ↦ elim (cases_Bool (test (settings about (past n order)))) [
            | inr before ↦ (
                let t = set_between test m n (omega arith) yes_ before in let lt = t.5 in
                (t.0, t.1, t.2, t.3, t.4, omega arith, t.6, t.7, t.8))
            | inl here ↦ elim (cases_lt n (length order)) [
              | inr ge ↦ (
                  let same : past n order ≡ past (suc n) order = past-all order n ge
                  ∙ sym (past-all order (suc n) (omega arith)) in
                  absurd (true≢false (sym here ∙ (ap (λ z. test (settings about z)) same ∙ no_))))
              | inl l ↦ (
                  let s = past-step order n l in
                  by_step s.0.by s.0.step s.1 here (sym (ap (λ z. test (settings about z)) s.1)
                  ∙ no_))
            ]
          ]
        ]
      where
        by_gate : (p : ℕ) (d : GateStep) → IsStep order n p (Gate d)
            → test (settings about (past n order)) ≡ true
            → test (settings about (step_by p (Gate d) ∷ past n order)) ≡ false
            → (k : ℕ) × (q : ℕ) × (w : ℕ) × (v : ℕ) × (m ≤ k) × (k < suc n) × IsStep order k q
            (Gate (Set w v)) × (test (settings about (past k order)) ≡ true)
            × (test (with_setting (settings about (past k order)) w v) ≡ false)
        by_gate p (Set w v) is here there = elim (cases_eq m (suc n)) [
          | inl e ↦ absurd (true≢false
              (sym yes_ ∙ (ap (λ z. test (settings about (past z order))) e ∙ no_)))
          | inr ne ↦ (n, p, w, v, omega arith, omega arith, is, here, there)
        ]
        by_gate p (Entered w) is here there = absurd (true≢false (sym here ∙ there))
        by_gate p (Turned w) is here there = absurd (true≢false (sym here ∙ there))
        by_gate p Left is here there = absurd (true≢false (sym here ∙ there))
        by_gate p (Shut w) is here there = absurd (true≢false (sym here ∙ there))
        by_gate p (NotShut w) is here there = absurd (true≢false (sym here ∙ there))
        by_gate p Opened is here there = absurd (true≢false (sym here ∙ there))
        by_gate p (Read i v) is here there = absurd (true≢false (sym here ∙ there))

        by_step : (p : ℕ) (d : BoardStep) → IsStep order n p d
            → test (settings about (past n order))
            ≡ true → test (settings about (step_by p d ∷ past n order)) ≡ false
            → (k : ℕ) × (q : ℕ) × (w : ℕ) × (v : ℕ) × (m ≤ k) × (k < suc n) × IsStep order k q
            (Gate (Set w v)) × (test (settings about (past k order)) ≡ true)
            × (test (with_setting (settings about (past k order)) w v) ≡ false)
        by_step p (Lane d) is here there = absurd (true≢false (sym here ∙ there))
        by_step p (Gate d) is here there = by_gate p d is here there
        by_step p (Weighed i w) is here there = absurd (true≢false (sym here ∙ there))
        by_step p (Counted i w) is here there = absurd (true≢false (sym here ∙ there))
        by_step p (OutCounted i w) is here there = absurd (true≢false (sym here ∙ there))
        by_step p (LaneOut i) is here there = absurd (true≢false (sym here ∙ there))
        by_step p (LaneIn i) is here there = absurd (true≢false (sym here ∙ there))

    -- ---- visits

    abbrev kind : Visit → ℕ
    kind outside = 0
    kind inside = 1
    kind backing = 2

    stays_inside : (q : ℕ) (e : StepBy BoardStep) (es : List (StepBy BoardStep))
        → MayCome about e.by es e.step → (e.by ≡ q → e.step ≢ Gate Left)
        → visit_of about q es ≡ inside → visit_of about q (e ∷ es) ≡ inside
    stays_inside q e es may stays is = by_step e.by e.step may stays
      where
        own : (p : ℕ) (d : GateStep) → MayCome about p es (Gate d) → (p ≡ q → Gate d ≢ Gate Left)
            → p ≡ q → Rattle.hop_rule.specs.Gates.visit_after d (visit_of about q es) ≡ inside
        own p (Entered w) m s e = refl
        own p (Turned w) m s e = let z : outside ≡ inside = sym m.2
            ∙ (ap (λ z. visit_of about z es) e ∙ is) in let k : kind outside ≡ kind inside =
            ap kind z in absurd (omega arith)
        own p Left m s e = absurd (s e refl)
        own p (Shut w) m s e = is
        own p (NotShut w) m s e = is
        own p Opened m s e = is
        own p (Set i v) m s e = is
        own p (Read i v) m s e = is

        by_gate : (p : ℕ) (d : GateStep) → MayCome about p es (Gate d)
            → (p ≡ q → Gate d ≢ Gate Left)
            → visit_of about q (step_by p (Gate d) ∷ es) ≡ inside
        by_gate p d m s = dite (ℕ_discrete p q)
            (λ e. ap visit (steps_of_own q p d (gates_of es) e) ∙ own p d m s e)
            (λ ne. ap visit (steps_of_other q p d (gates_of es) ne) ∙ is)

        by_step : (p : ℕ) (d : BoardStep) → MayCome about p es d → (p ≡ q → d ≢ Gate Left)
            → visit_of about q (step_by p d ∷ es) ≡ inside
        by_step p (Lane d) m s = is
        by_step p (Gate d) m s = by_gate p d m s
        by_step p (Weighed i w) m s = is
        by_step p (Counted i w) m s = is
        by_step p (OutCounted i w) m s = is
        by_step p (LaneOut i) m s = is
        by_step p (LaneIn i) m s = is

    -- a seat is inside from its entry on, while it does not leave
    pub inside_at : (q e u word m : ℕ) → IsStep order e q (Gate (Entered word))
        → ((k : ℕ) → e < k → k < u → IsStep order k q (Gate Left) → ⊥) → e < m → m ≤ u
        → visit_of about q (past m order) ≡ inside
    inside_at q e u word m enters stays less le = along (λ es. visit_of about q es ≡ inside) order
        (suc e) m (omega arith)
        (λ k s from to is here. let may = (step_lawful about order k s.by s.step lawful is).1 in
        stays_inside q s (past k order) may
        (λ by left_. stays k (omega arith) (omega arith)
        (subst (λ (z : ℕ × BoardStep). IsStep order k z.0 z.1) (λ i. (by i, left_ i)) is)) here)
        (ap (visit_of about q) enters
        ∙ ap visit (steps_of_own q q (Entered word) (gates_of (past e order)) refl))

    closed_keeps : (e : StepBy BoardStep) (es : List (StepBy BoardStep)) → e.step ≢ Gate Opened
        → all_closed (gates_of es) ≡ 1 → all_closed (gates_of (e ∷ es)) ≡ 1
    closed_keeps e es ne is = by_step e.step ne
      where
        by_gate : (d : GateStep) → Gate d ≢ Gate Opened → Rattle.hop_rule.specs.Gates.closed_after d
            (all_closed (gates_of es)) ≡ 1
        by_gate (Entered w) n = is
        by_gate (Turned w) n = is
        by_gate Left n = is
        by_gate (Shut w) n = refl
        by_gate (NotShut w) n = is
        by_gate Opened n = absurd (n refl)
        by_gate (Set i v) n = is
        by_gate (Read i v) n = is

        by_step : (d : BoardStep) → d ≢ Gate Opened
            → all_closed (gate_part e.by d (gates_of es)) ≡ 1
        by_step (Lane d) n = is
        by_step (Gate d) n = by_gate d n
        by_step (Weighed i w) n = is
        by_step (Counted i w) n = is
        by_step (OutCounted i w) n = is
        by_step (LaneOut i) n = is
        by_step (LaneIn i) n = is

    -- the gate is closed from a close on, while the closer does not open it
    pub closed_at : (c n word m : ℕ) → IsStep order c (closer about) (Gate (Shut word))
        → ((k : ℕ) → c < k → k < n → IsStep order k (closer about) (Gate Opened) → ⊥) → c < m
        → m ≤ n
        → all_closed (gates_of (past m order)) ≡ 1
    closed_at c n word m shuts stays less le = along (λ es. all_closed (gates_of es) ≡ 1) order
        (suc c) m (omega arith)
        (λ k s from to is here. closed_keeps s (past k order)
        (λ opened. let t = step_lawful about order k s.by (Gate Opened) lawful
        (is ∙ ap (λ d. step_by s.by d ∷ past k order) opened) in
        stays k (omega arith) (omega arith) (subst (λ (z : ℕ × BoardStep). IsStep order k z.0 z.1)
        (λ i. (t.1.0 i, opened i)) is)) here)
        (ap (λ es. all_closed (gates_of es)) shuts)

    -- while a seat is inside no setting changes
    pub settings_stay : (q e u word m i : ℕ) → q < about.seats → IsStep order e q
        (Gate (Entered word)) → ((k : ℕ) → e < k → k < u → IsStep order k q (Gate Left) → ⊥) → e < m
        → m ≤ u
        → settings about (past m order) i ≡ settings about (past e order) i
    settings_stay q e u word m i seat enters stays less le =
        along (λ es. settings about es i ≡ settings about (past e order) i) order (suc e) m
        (omega arith)
        (λ k s from to is here. by_step k s.by s.step is from (omega arith) here)
        (ap (λ es. settings about es i) enters)
      where
        by_gate : (k p : ℕ) (d : GateStep) → IsStep order k p (Gate d) → suc e ≤ k → k ≤ u
            → settings about (past k order) i ≡ settings about (past e order) i → settings about
            (step_by p (Gate d) ∷ past k order) i ≡ settings about (past e order) i
        by_gate k p (Set w v) is from to here =
            let may = (step_lawful about order k p (Gate (Set w v)) lawful is).1 in
            let gs = (parts about (past k order) (lawful_past about order k lawful)).1 in
            let shut_ : closed (steps_of (closer about) (gates_of (past k order))) ≡ 1 =
            ap (λ z. closed (steps_of z (gates_of (past k order)))) (sym may.0) ∙ may.2 in
            let all = (closes about (gates_of (past k order)) gs).0 in
            let open_ = unshut about (gates_of (past k order)) gs q seat
            (inside_at q e u word k enters stays (omega arith) to) in
            absurd (omega arith)
        by_gate k p (Entered w) is from to here = here
        by_gate k p (Turned w) is from to here = here
        by_gate k p Left is from to here = here
        by_gate k p (Shut w) is from to here = here
        by_gate k p (NotShut w) is from to here = here
        by_gate k p Opened is from to here = here
        by_gate k p (Read j v) is from to here = here

        by_step : (k p : ℕ) (d : BoardStep) → IsStep order k p d → suc e ≤ k → k ≤ u
            → settings about
            (past k order) i ≡ settings about (past e order) i → settings about
            (step_by p d ∷ past k order) i ≡ settings about (past e order) i
        by_step k p (Lane d) is from to here = here
        by_step k p (Gate d) is from to here = by_gate k p d is from to here
        by_step k p (Weighed l w) is from to here = here
        by_step k p (Counted l w) is from to here = here
        by_step k p (OutCounted l w) is from to here = here
        by_step k p (LaneOut l) is from to here = here
        by_step k p (LaneIn l) is from to here = here

    -- a setting that is read in a visit is that of its entry
    pub read_is_setting : (q e u word m i v : ℕ) → IsStep order e q (Gate (Entered word))
        → ((k : ℕ) → e < k → k < u → IsStep order k q (Gate Left) → ⊥) → e < m → m ≤ u
        → IsStep order m q (Gate (Read i v))
        → v ≡ settings about (past e order) i
    read_is_setting q e u word m i v enters stays less le reads =
        let t = step_lawful about order m q (Gate (Read i v)) lawful reads in
        t.1.0 ∙ settings_stay q e u word m i t.0 enters stays less le
