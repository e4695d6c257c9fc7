-- The numbers of a seat's own steps rise as their moments do.
use Rattle.hop_rule.specs.Moments.{Did}
use Rattle.hop_rule.proofs.Names.{◌≡◌, ℕ, ◌<◌, List, ap, arith, inl, inr, cases_eq, cases_lt}
use Rattle.hop_rule.proofs.Names.{StepBy, steps_of, BoardSizes, BoardStep, IsStep, moment_of}
use Rattle.hop_rule.proofs.Moments.{nth-inside}
use Rattle.hop_rule.proofs.Parts.{moments_rise, from_moment}

module _ (about : BoardSizes) (order : List (StepBy BoardStep)) where
  when : ℕ → ℕ → ℕ
  when q k = moment_of q order k

  pub rise : (q j k : ℕ) (d : BoardStep) → j < k → Did order q k d → moment_of q order j < moment_of
      q order k
  rise q j k d l did = moments_rise q order j k l (nth-inside (steps_of q order) k d did)

  -- moments rise with the numbers, so numbers rise with the moments
  pub back : (q j k : ℕ) (d : BoardStep) → Did order q j d → moment_of q order j < moment_of q order
      k → j < k
  back q j k d did l = elim (cases_lt j k) [
    | inl a ↦ a
    | inr b ↦ elim (cases_eq j k) [
      | inl e ↦ (let z : moment_of q order j ≡ moment_of q order k = ap (moment_of q order) e in
          absurd (omega arith))
      | inr ne ↦ (let z = rise q k j d (omega arith) did in absurd (omega arith))
    ]
  ]

  -- no step of a kind lies between two moments, where none lies between the numbers
  pub none_between : (q a b m : ℕ) (da db d : BoardStep) → Did order q a da → Did order q b db
      → ((k : ℕ) → a < k → k < b → Did order q k d → ⊥)
      → moment_of q order a < m → m < moment_of q order b → IsStep order m q d → ⊥
  none_between q a b m da db d did_a did_b none from to is =
      let f = from_moment q order m d is in let k : ℕ = f.0 in
      none k (back q a k da did_a (let e = f.2 in omega arith))
      (back q k b d f.1 (let e = f.2 in omega arith)) f.1
