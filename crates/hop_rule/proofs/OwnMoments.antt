-- A seat's own steps have moments in the order.
use Rattle.hop_rule.specs.Moments.{Did}
use Rattle.hop_rule.specs.OwnLaws.{OwnStepsHaveMoments}
use Rattle.hop_rule.proofs.Names.{◌≡◌, ℕ, ◌==◌, List, [], ◌∷◌, if◌then◌else◌, length, Some, sym, ap}
use Rattle.hop_rule.proofs.Names.{◌∙◌, arith, dite, ℕ_discrete, StepBy, steps_of, if_same, if_other}
use Rattle.hop_rule.proofs.Names.{steps_of_own, steps_of_other, past, nth_step, moment_of}
use Rattle.hop_rule.proofs.Lists.{none-some}
use Rattle.hop_rule.proofs.Moments.{nth-inside, past-all, past-old, step-inside}
use Rattle.hop_rule.proofs.Parts.{at_moment, moments_rise, from_moment}

module _ {D : Type 0} (p : ℕ) where
  abbrev when : List (StepBy D) → ℕ → ℕ
  when es k = moment_of p es k

  -- what a seat had done before a step is its part of the order up to that moment
  pub past_own : (es : List (StepBy D)) (k : ℕ) (d : D) → Did es p k d
      → past k (steps_of p es) ≡ steps_of p (past (when es k) es)
  past_own [] k d at = none-some d at
  past_own (e ∷ es) k d at = dite (ℕ_discrete e.by p)
      (λ mine. let list = steps_of_own p e.by e.step es mine in
      let own : nth_step (e.step ∷ steps_of p es) k ≡ Some d = sym (ap (λ l. nth_step l k) list)
      ∙ at in
      let first : when (e ∷ es) k ≡ (if length (steps_of p es) == k then length es else when es k) =
      if_same e.by p (if length (steps_of p es) == k then length es else when es k)
      (when es k) mine in
      dite (ℕ_discrete (length (steps_of p es)) k)
      (λ is. let at_end : when (e ∷ es) k ≡ length es = first ∙ if_same (length (steps_of p es)) k
      (length es) (when es k) is in
      ap (past k) list ∙ (past-old e.step (steps_of p es) k (omega arith)
      ∙ (past-all (steps_of p es) k (omega arith)
      ∙ sym (ap (λ m. steps_of p (past m (e ∷ es))) at_end ∙ ap (steps_of p)
      (past-old e es (length es) (omega arith) ∙ past-all es (length es) (omega arith))))))
      (λ isnt. let before : when (e ∷ es) k ≡ when es k = first ∙ if_other (length (steps_of p es))
      k (length es) (when es k) isnt in
      let at' : Did es p k d =
      sym (if_other (length (steps_of p es)) k (Some e.step) (nth_step (steps_of p es) k) isnt)
      ∙ own in
      let inside = nth-inside (steps_of p es) k d at' in
      let less = step-inside es (when es k) p d (at_moment p es k d at') in
      ap (past k) list ∙ (past-old e.step (steps_of p es) k (omega arith) ∙ (past_own es k d at'
      ∙ sym (ap (λ m. steps_of p (past m (e ∷ es))) before ∙ ap (steps_of p)
      (past-old e es (when es k) (omega arith)))))))
      (λ other. let list = steps_of_other p e.by e.step es other in
      let before : when (e ∷ es) k ≡ when es k = if_other e.by p
      (if length (steps_of p es) == k then length es else when es k) (when es k) other in
      let at' : Did es p k d = sym (ap (λ l. nth_step l k) list) ∙ at in
      let less = step-inside es (when es k) p d (at_moment p es k d at') in
      ap (past k) list ∙ (past_own es k d at'
      ∙ sym (ap (λ m. steps_of p (past m (e ∷ es))) before ∙ ap (steps_of p)
      (past-old e es (when es k) (omega arith)))))

pub own_steps_have_moments : OwnStepsHaveMoments
own_steps_have_moments order p = record {
  moment = λ k d did. at_moment p order k d did;
  rise = λ j k d less did. moments_rise p order j k less (nth-inside (steps_of p order) k d did);
  own = λ n d is. from_moment p order n d is;
  before = λ k d did. past_own p order k d did;
}
