-- The moments of a seat's own steps, which rise along its list: what an execution says of moments
-- can be said of own lists.
use Rattle.hop_rule.proofs.Names.{◌≡◌, ℕ, suc, ◌<◌, ◌==◌, List, [], ◌∷◌, length, if◌then◌else◌, sym}
use Rattle.hop_rule.proofs.Names.{refl, ap, ◌∙◌, subst, arith, Some, dite, ℕ_discrete, StepBy}
use Rattle.hop_rule.proofs.Names.{step_by, steps_of, steps_of_own, steps_of_other, if_same}
use Rattle.hop_rule.proofs.Names.{if_other, IsStep, nth_step, moment_of}
use Rattle.hop_rule.proofs.Lists.{some-is, none-some}
use Rattle.hop_rule.proofs.Moments.{nth-inside, past-old, step-inside, step-more, step-last}
use Rattle.hop_rule.proofs.Moments.{one-step}

module _ {D : Type 0} where
  step-less : (e : StepBy D) (es : List (StepBy D)) (n p : ℕ) (d : D) → n < length es
      → IsStep (e ∷ es) n p d → IsStep es n p d
  step-less e es n p d l is = sym (past-old e es (suc n) (omega arith))
      ∙ (is ∙ ap (λ x. step_by p d ∷ x) (past-old e es n (omega arith)))

  module _ (p : ℕ) where
    pub at_moment : (es : List (StepBy D)) (k : ℕ) (d : D) → nth_step (steps_of p es) k ≡ Some d
        → IsStep es (moment_of p es k) p d
    at_moment [] k d at = none-some d at
    at_moment (e ∷ es) k d at = dite (ℕ_discrete e.by p)
        (λ mine. let own : nth_step (e.step ∷ steps_of p es) k ≡ Some d =
        sym (ap (λ l. nth_step l k) (steps_of_own p e.by e.step es mine)) ∙ at in
        dite (ℕ_discrete (length (steps_of p es)) k)
        (λ is. let same : e.step ≡ d = some-is e.step d
        (sym (if_same (length (steps_of p es)) k (Some e.step) (nth_step (steps_of p es) k) is)
        ∙ own) in
        let when : moment_of p (e ∷ es) k ≡ length es = if_same e.by p
        (if length (steps_of p es) == k then length es else moment_of p es k) (moment_of p es k)
        mine ∙ if_same (length (steps_of p es)) k (length es) (moment_of p es k) is in
        subst (λ (z : ℕ × (ℕ × D)). IsStep (e ∷ es) z.0 z.1.0 z.1.1)
        (λ i. (sym when i, (mine i, same i))) (step-last e.by e.step es))
        (λ isnt. let when : moment_of p (e ∷ es) k ≡ moment_of p es k = if_same e.by p
        (if length (steps_of p es) == k then length es else moment_of p es k) (moment_of p es k)
        mine ∙ if_other (length (steps_of p es)) k (length es) (moment_of p es k) isnt in
        subst (λ (z : ℕ). IsStep (e ∷ es) z p d) (sym when)
        (step-more e es (moment_of p es k) p d
        (at_moment es k d (sym (if_other (length (steps_of p es)) k (Some e.step)
        (nth_step (steps_of p es) k) isnt) ∙ own)))))
        (λ other. let when : moment_of p (e ∷ es) k ≡ moment_of p es k = if_other e.by p
        (if length (steps_of p es) == k then length es else moment_of p es k) (moment_of p es k)
        other in
        subst (λ (z : ℕ). IsStep (e ∷ es) z p d) (sym when)
        (step-more e es (moment_of p es k) p d
        (at_moment es k d (sym (ap (λ l. nth_step l k) (steps_of_other p e.by e.step es other))
        ∙ at))))

    moment-inside : (es : List (StepBy D)) (k : ℕ) → k < length (steps_of p es)
        → moment_of p es k < length es
    moment-inside [] k l = absurd (omega arith)
    moment-inside (e ∷ es) k l = dite (ℕ_discrete e.by p)
        (λ mine. let n = ap length (steps_of_own p e.by e.step es mine) in
        dite (ℕ_discrete (length (steps_of p es)) k)
        (λ is. let when = if_same e.by p
        (if length (steps_of p es) == k then length es else moment_of p es k) (moment_of p es k)
        mine ∙ if_same (length (steps_of p es)) k (length es) (moment_of p es k) is in
        omega arith)
        (λ isnt. let when = if_same e.by p
        (if length (steps_of p es) == k then length es else moment_of p es k) (moment_of p es k)
        mine ∙ if_other (length (steps_of p es)) k (length es) (moment_of p es k) isnt in
        let r = moment-inside es k (omega arith) in omega arith))
        (λ other. let n = ap length (steps_of_other p e.by e.step es other) in let when =
        if_other e.by p (if length (steps_of p es) == k then length es else moment_of p es k)
        (moment_of p es k) other in
        let r = moment-inside es k (omega arith) in omega arith)

    pub moments_rise : (es : List (StepBy D)) (j k : ℕ) → j < k → k < length (steps_of p es)
        → moment_of p es j < moment_of p es k
    moments_rise [] j k l m = absurd (omega arith)
    moments_rise (e ∷ es) j k l m = dite (ℕ_discrete e.by p)
        (λ mine. let n = ap length (steps_of_own p e.by e.step es mine) in
        let when_j = if_same e.by p
        (if length (steps_of p es) == j then length es else moment_of p es j) (moment_of p es j)
        mine ∙ if_other (length (steps_of p es)) j (length es) (moment_of p es j)
        (λ h. absurd (omega arith)) in
        dite (ℕ_discrete (length (steps_of p es)) k)
        (λ is. let when = if_same e.by p
        (if length (steps_of p es) == k then length es else moment_of p es k) (moment_of p es k)
        mine ∙ if_same (length (steps_of p es)) k (length es) (moment_of p es k) is in
        let r = moment-inside es j (omega arith) in omega arith)
        (λ isnt. let when = if_same e.by p
        (if length (steps_of p es) == k then length es else moment_of p es k) (moment_of p es k)
        mine ∙ if_other (length (steps_of p es)) k (length es) (moment_of p es k) isnt in
        let r = moments_rise es j k l (omega arith) in omega arith))
        (λ other. let n = ap length (steps_of_other p e.by e.step es other) in let when =
        if_other e.by p (if length (steps_of p es) == k then length es else moment_of p es k)
        (moment_of p es k) other in
        let when_j = if_other e.by p
        (if length (steps_of p es) == j then length es else moment_of p es j) (moment_of p es j)
        other in
        let r = moments_rise es j k l (omega arith) in omega arith)

    -- each step of the seat in the order is one of its list
    pub from_moment : (es : List (StepBy D)) (n : ℕ) (d : D) → IsStep es n p d → (k : ℕ)
        × (nth_step (steps_of p es) k ≡ Some d) × (moment_of p es k ≡ n)
    from_moment [] n d is = let l = step-inside [] n p d is in absurd (omega arith)
    from_moment (e ∷ es) n d is = dite (ℕ_discrete n (length es))
        (λ last. let same = one-step (e ∷ es) n p e.by d e.step is
        (subst (λ (z : ℕ). IsStep (e ∷ es) z e.by e.step) (sym last) (step-last e.by e.step es))
        in
        let mine : e.by ≡ p = sym same.0 in (
          length (steps_of p es),
          ap (λ l. nth_step l (length (steps_of p es))) (steps_of_own p e.by e.step es mine)
              ∙ (if_same (length (steps_of p es)) (length (steps_of p es)) (Some e.step)
              (nth_step (steps_of p es) (length (steps_of p es))) refl ∙ ap Some (sym same.1)),
          if_same e.by p (if length (steps_of p es) == length (steps_of p es) then length es else
              moment_of p es (length (steps_of p es))) (moment_of p es (length (steps_of p es)))
              mine
              ∙ (if_same (length (steps_of p es)) (length (steps_of p es)) (length es)
              (moment_of p es (length (steps_of p es))) refl ∙ sym last),
        ))
        (λ ne. let l = step-inside (e ∷ es) n p d is in
        let t = from_moment es n d (step-less e es n p d (omega arith) is) in
        let k : ℕ = t.0 in let inside = nth-inside (steps_of p es) k d t.1 in
        dite (ℕ_discrete e.by p)
        (λ mine. (
          k,
          ap (λ l. nth_step l k) (steps_of_own p e.by e.step es mine)
              ∙ (if_other (length (steps_of p es)) k (Some e.step) (nth_step (steps_of p es) k)
              (λ h. absurd (omega arith)) ∙ t.1),
          if_same e.by p (if length (steps_of p es) == k then length es else moment_of p es k)
              (moment_of p es k) mine
              ∙ (if_other (length (steps_of p es)) k (length es) (moment_of p es k)
              (λ h. absurd (omega arith)) ∙ t.2),
        ))
        (λ other. (
          k,
          ap (λ l. nth_step l k) (steps_of_other p e.by e.step es other) ∙ t.1,
          if_other e.by p (if length (steps_of p es) == k then length es else moment_of p es k)
              (moment_of p es k) other ∙ t.2,
        )))
