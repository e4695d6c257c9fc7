-- The entries of a producer's turns stand in its seat's own list, in the order of the turns, and
-- the numbers of its visits count the controller's openings, and with them its tries.
use mathlib.Core.Logic.{dite}
use native.Mathlib.Decide.{ℕ_discrete}
use Rattle.linearization.specs.Orders.{StepBy, steps_of}
use Rattle.linearization.proofs.ListLemmas.{if_same, if_other}
use Rattle.hop_rule.specs.declared.step.GateStep.TheVariants.{Entered, Left}
use Rattle.hop_delivery.specs.Orders.Turns.{turn_put, visit_with}
use Rattle.run_goodness.proofs.Names.{◌≡◌, ◌⊎◌, inl, inr, ℕ, ◌<◌, List, [], ◌∷◌, ◌++◌, Some, length}
use Rattle.run_goodness.proofs.Names.{sym, ap, ◌∙◌, arith, append_assoc, nth_step, BoardStep, Gate}
use Rattle.run_goodness.proofs.Names.{none-some, some-is, nth-inside, nth-last, nth-old, Turn}
use Rattle.run_goodness.proofs.Names.{Explained, suc, ◌+◌, ◌/◌, ◌^◌, ◌≤◌, subst, length-append}
use Rattle.run_goodness.proofs.Names.{Chosen, Command, gate_steps, closer, BoardSizes, nth-some}
use Rattle.run_goodness.proofs.Names.{VisitNumbersRise, BoardLists, SettingChange, Execution}
use Rattle.run_goodness.proofs.Names.{turns_of, word_of, Try, steps_of_tries, tries_up_to}
use Rattle.hop_rule.specs.Gates.{openings}
use Rattle.steer_model.specs.Good.Inputs.{Prefixes}
use Rattle.run_coupling.specs.Coupling.Tries.{AllSetByAnswer, openings_by}
use Rattle.run_coupling.proofs.Tries.TryLemmas.{openings-makings, tries-grow}

abbrev pub entry : Turn → BoardStep
entry u = Gate (Entered u.word)

-- a visit in two parts, from its entry on and up to it
cut : (u : Turn) (newer late older : List BoardStep)
    → (front : List BoardStep) × (newer ++ visit_with u late older ≡ front ++ entry u ∷ older)
cut u newer late older =
    let rest : List BoardStep = entry u ∷ older in (
      newer ++ Gate Left ∷ (late ++ (turn_put u ∷ u.early)),
      sym (append_assoc newer (Gate Left ∷ (late ++ (turn_put u ∷ u.early))) rest
          ∙ ap (λ z. newer ++ Gate Left ∷ z) (append_assoc late (turn_put u ∷ u.early) rest)),
    )

-- the i-th of a producer's turns is the newest turn, or one of the others
newest : (t : StepBy Turn) (ts : List (StepBy Turn)) (p k : ℕ) (u : Turn)
    → nth_step (steps_of p (t ∷ ts)) k ≡ Some u → (nth_step (steps_of p ts) k ≡ Some u)
    ⊎ ((t.step ≡ u) × (k ≡ length (steps_of p ts)))
newest t ts p k u at =
    let others : List Turn = steps_of p ts in
    dite (ℕ_discrete t.by p)
    (λ mine.
    let here : nth_step (t.step ∷ others) k ≡ Some u =
    ap (λ z. nth_step z k) (sym (if_same t.by p (t.step ∷ others) others mine)) ∙ at in
    dite (ℕ_discrete (length others) k)
    (λ e.
    inr (
      some-is t.step u
          (sym (if_same (length others) k (Some t.step) (nth_step others k) e) ∙ here),
      sym e,
    ))
    (λ ne. inl (sym (if_other (length others) k (Some t.step) (nth_step others k) ne) ∙ here)))
    (λ other.
    inl (ap (λ z. nth_step z k) (sym (if_other t.by p (t.step ∷ others) others other)) ∙ at))

pub entry-at : (ds : List BoardStep) (ts : List (StepBy Turn)) → Explained ds ts → (p k : ℕ)
    (u : Turn) → nth_step (steps_of p ts) k ≡ Some u
    → (n : ℕ) × (nth_step ds n ≡ Some (entry u))
entry-at ds [] explained p k u at = none-some u at
entry-at ds (t ∷ ts) (newer, late, older, is, no_puts, quiet_late, quiet, rest) p k u at =
    let c = cut t.step newer late older in
    let whole = is ∙ c.1 in
    elim (newest t ts p k u at) [
      | inl old ↦
          let b = entry-at older ts rest p k u old in
          let less = nth-inside older b.0 (entry u) b.1 in (
            b.0,
            ap (λ z. nth_step z b.0) (whole ∙ sym (append_assoc c.0 (entry t.step ∷ []) older))
                ∙ (nth-old (c.0 ++ entry t.step ∷ []) older b.0 less ∙ b.1),
          )
      | inr new ↦ (
        length older,
        ap (λ z. nth_step z (length older)) whole
            ∙ (nth-old c.0 (entry t.step ∷ older) (length older) (omega arith)
            ∙ (nth-last (entry t.step) older ∙ ap (λ z. Some (entry z)) new.0)),
      )
    ]

-- the earlier turn's entry stands before the later one's
pub entries-rise : (ds : List BoardStep) (ts : List (StepBy Turn)) → Explained ds ts
    → (p j k : ℕ) (u v : Turn) → j < k → nth_step (steps_of p ts) j ≡ Some u
    → nth_step (steps_of p ts) k ≡ Some v
    → (m : ℕ) × (n : ℕ) × (m < n) × (nth_step ds m ≡ Some (entry u))
    × (nth_step ds n ≡ Some (entry v))
entries-rise ds [] explained p j k u v less at_u at_v = none-some u at_u
entries-rise ds (t ∷ ts) (newer, late, older, is, no_puts, quiet_late, quiet, rest) p j k u v less
    at_u at_v =
    let c = cut t.step newer late older in
    let whole = is ∙ c.1 in
    let parts = whole ∙ sym (append_assoc c.0 (entry t.step ∷ []) older) in
    let lift : (n : ℕ) (d : BoardStep) → nth_step older n ≡ Some d → nth_step ds n ≡ Some d =
    λ n d at. (
    ap (λ z. nth_step z n) parts
    ∙ (nth-old (c.0 ++ entry t.step ∷ []) older n (nth-inside older n d at) ∙ at)) in
    elim (newest t ts p k v at_v) [
      | inl old_v ↦ elim (newest t ts p j u at_u) [
        | inl old_u ↦
            let b = entries-rise older ts rest p j k u v less old_u old_v in
            (b.0, b.1, b.2, lift b.0 (entry u) b.3, lift b.1 (entry v) b.4)
        | inr new_u ↦
            let n = nth-inside (steps_of p ts) k v old_v in let e = new_u.1 in absurd (omega arith)
      ]
      | inr new_v ↦ elim (newest t ts p j u at_u) [
        | inl old_u ↦
            let b = entry-at older ts rest p j u old_u in (
              b.0,
              length older,
              nth-inside older b.0 (entry u) b.1,
              lift b.0 (entry u) b.1,
              ap (λ z. nth_step z (length older)) whole
                  ∙ (nth-old c.0 (entry t.step ∷ older) (length older) (omega arith)
                  ∙ (nth-last (entry t.step) older ∙ ap (λ z. Some (entry z)) new_v.0)),
            )
        | inr new_u ↦ let e = new_u.1 in let e2 = new_v.1 in absurd (omega arith)
      ]
    ]

module _ (about : BoardSizes) (own : ℕ → List BoardStep) (lists : BoardLists)
    (law : VisitNumbersRise about own lists) (sets : (ℕ → ℕ) → Command → List SettingChange)
    (at : Try → List BoardStep) (tries : List Try)
    (own_list : own (closer about) ≡ steps_of_tries at tries)
    (are : AllSetByAnswer about sets at tries) (t : Execution)
    (explained : (p : ℕ) → Explained (own (t.seat p)) (t.turns (t.seat p))) where
  abbrev number : ℕ → ℕ → ℕ
  number p k = word_of (nth_step (turns_of t p) k) / 2 ^ 32

  abbrev upto : ℕ → List Try
  upto n = tries_up_to at n tries

  below-all : (p k : ℕ) → k < length (turns_of t p) → number p k ≤ openings_by at tries
  below-all p k less =
      let u = nth-some (turns_of t p) k less in
      let e = entry-at (own (t.seat p)) (t.turns (t.seat p)) (explained p) p k u.0 u.1 in
      let made = law.made (t.seat p) e.0 u.0.word e.1 in
      let is : openings (gate_steps (own (closer about))) ≡ openings_by at tries =
      ap (λ ds. openings (gate_steps ds)) own_list
      ∙ openings-makings (gate_steps (steps_of_tries at tries)) in
      let n : number p k ≡ u.0.word / 2 ^ 32 = ap (λ o. word_of o / 2 ^ 32) u.1 in
      omega arith

  numbers-rise : (p k : ℕ) → k + 1 < length (turns_of t p) → number p k ≤ number p (suc k)
  numbers-rise p k less =
      let u = nth-some (turns_of t p) k (omega arith) in
      let v = nth-some (turns_of t p) (suc k) (omega arith) in
      let e = entries-rise (own (t.seat p)) (t.turns (t.seat p)) (explained p) p k (suc k)
      u.0 v.0 (omega arith) u.1 v.1 in
      let rises = law.rise (t.seat p) e.0 e.1 u.0.word v.0.word e.2 e.3 e.4 in
      let m : number p k ≡ u.0.word / 2 ^ 32 = ap (λ o. word_of o / 2 ^ 32) u.1 in
      let n : number p (suc k) ≡ v.0.word / 2 ^ 32 = ap (λ o. word_of o / 2 ^ 32) v.1 in
      omega arith

  pub grows : (p k : ℕ) → k + 1 < length (turns_of t p)
      → (more : List Try) × (upto (number p (suc k)) ≡ more ++ upto (number p k))
  grows p k less =
      tries-grow about sets at (number p k) (number p (suc k)) tries are
      (numbers-rise p k less) (below-all p (suc k) (omega arith))

  -- so the prefixes of a producer's choices never get shorter
  pub prefixes : (p commands : ℕ) (choices : List Chosen)
      → length choices ≡ length (turns_of t p) → ((n : ℕ) → length (upto n) ≤ commands)
      → Prefixes (length choices) commands (λ k. length (upto (number p k)))
  prefixes p commands choices many few = record {
    within = λ k less. few (number p k);
    grow = λ k less.
        (let g = grows p k (omega arith) in
        let a = ap length g.1 in
        let b = length-append g.0 (upto (number p k)) in
        let fewer : length (upto (number p k)) ≤ length (upto (number p (suc k))) = omega arith
        in
        let next : suc k ≡ k + 1 = omega arith in
        subst (λ n. length (upto (number p k)) ≤ length (upto (number p n))) next fewer);
  }
