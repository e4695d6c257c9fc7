-- Own steps at their moments of the order.
use Rattle.hop_rule.specs.Moments.{IsStep, moment_of}
use Rattle.hop_rule.specs.OwnLaws.{HasMoments}
use Rattle.hop_rule.proofs.Moments.{one-step, step-inside}
use Rattle.hop_rule.proofs.OwnMoments.{own_steps_have_moments}
use Rattle.board_api.proofs.Names.{◌≡◌, inl, inr, ℕ, ◌<◌, List, length, sym, ap, ◌∙◌, subst, arith}
use Rattle.board_api.proofs.Names.{cases_eq, cases_lt, StepBy, own_of, BoardStep, Has}

module _ (order : List (StepBy BoardStep)) where
  abbrev pub own : ℕ → List BoardStep
  own = own_of order

  abbrev pub when : ℕ → ℕ → ℕ
  when q k = moment_of q order k

  pub moments : (q : ℕ) → HasMoments order q
  moments q = own_steps_have_moments order q

  pub step_is : (q k : ℕ) (d : BoardStep) → Has (own q) k d → IsStep order (when q k) q d
  step_is q k d does = (moments q).moment k d does

  pub in_time : (q k : ℕ) (d : BoardStep) → Has (own q) k d → when q k < length order
  in_time q k d does = step-inside order (when q k) q d (step_is q k d does)

  pub rise : (q j k : ℕ) (d : BoardStep) → j < k → Has (own q) k d → when q j < when q k
  rise q j k d less does = (moments q).rise j k d less does

  -- two own steps of one seat and one moment are one
  once : (q j k : ℕ) (d c : BoardStep) → Has (own q) j d → Has (own q) k c
      → when q j ≡ when q k → j ≡ k
  once q j k d c at_j at_k e =
      elim (cases_eq j k) [
        | inl is ↦ is
        | inr isnt ↦ elim (cases_lt j k) [
          | inl before ↦ (let up = rise q j k c before at_k in absurd (omega arith))
          | inr after ↦ (let up = rise q k j d (omega arith) at_j in absurd (omega arith))
        ]
      ]

  -- two own steps of one moment are one
  pub same_step : (p q j k : ℕ) (d c : BoardStep) → Has (own p) j d → Has (own q) k c
      → when p j ≡ when q k → (p ≡ q) × (j ≡ k)
  same_step p q j k d c at_j at_k e =
      let here : IsStep order (when q k) p d =
      subst (λ (n : ℕ). IsStep order n p d) e (step_is p j d at_j) in
      let seat : p ≡ q = (one-step order (when q k) p q d c here (step_is q k c at_k)).0 in (
        seat,
        once p j k d c at_j
            (subst (λ (z : ℕ). Has (own z) k c) (sym seat) at_k)
            (e ∙ ap (λ z. when z k) (sym seat)),
      )
