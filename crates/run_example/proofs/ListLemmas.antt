-- Lists that are written down: what holds of each member, and who made no step.
use Rattle.std.proofs.Common.{◌≡◌, ◌⊎◌, ℕ, ◌<◌, ◌≤◌, List, [], ◌∷◌, length, Some, refl, sym}
use Rattle.std.proofs.Common.{ap, ◌∙◌, subst, arith, inl, inr}
use Rattle.std.specs.Prelude.{All}
use Rattle.std.proofs.lemmas.Bool.{ne_eqb}
use Rattle.std.proofs.lemmas.List.Elements.{All-nil, All-cons}
use Rattle.linearization.specs.Orders.{StepBy}
use Rattle.linearization.proofs.ViewLemmas.{steps_of_other}
use Rattle.history.specs.Lists.{arrivals_at}
use Rattle.history.specs.declared.arrival.Arrival.{Arrival}
use Rattle.hop_rule.specs.Boards.{IsLawful}
use Rattle.hop_rule.specs.Gates.{inside}
use Rattle.hop_rule.specs.Moments.{nth_step}
use Rattle.hop_rule.specs.Owns.{own_of}
use Rattle.hop_rule.specs.declared.sizes.BoardSizes.{BoardSizes}
use Rattle.hop_rule.specs.declared.step.BoardStep.{BoardStep}
use Rattle.hop_rule.proofs.Lists.{none-some}
use Rattle.hop_rule.proofs.Moments.{nth-first}
use Rattle.run_coupling.proofs.Lists.PlaceLemmas.{if_there, split-arrivals}

-- a number of no seat has the empty list
pub own_empty : (about : BoardSizes) (order : List (StepBy BoardStep)) → IsLawful about order
    → (q : ℕ) → about.seats ≤ q → own_of order q ≡ []
own_empty about [] lawful q le = refl
own_empty about (e ∷ es) lawful q le = steps_of_other q e.by e.step es
    (λ is. let l = lawful.0 in absurd (omega arith)) ∙ own_empty about es lawful.2 q le

-- P holds of each with its number
module _ {A : Type 0} (P : ℕ → A → Type 0) where
  abbrev pub AllNth : List A → Type 0
  AllNth [] = Unit {0}
  AllNth (x ∷ xs) = P (length xs) x × AllNth xs

  pub nth_of_all : (xs : List A) (i : ℕ) (x : A) → AllNth xs → nth_step xs i ≡ Some x → P i x
  nth_of_all [] i x all at = none-some x at
  nth_of_all (y ∷ ys) i x all at = elim (nth-first y ys i x at) [
    | inl old ↦ nth_of_all ys i x all.1 old
    | inr new ↦ subst (λ (z : A × ℕ). P z.1 z.0) (λ k. (new.0 k, sym new.1 k)) all.0
  ]

-- the same of the members of a list alone
module _ {A : Type 0} (P : A → Type 0) where
  abbrev pub Each : List A → Type 0
  Each [] = Unit {0}
  Each (x ∷ xs) = P x × Each xs

  pub all_of_each : (xs : List A) → Each xs → All P xs
  all_of_each [] each = All-nil P
  all_of_each (x ∷ xs) each = All-cons P x xs each.0 (all_of_each xs each.1)

-- a seat that has to be inside its visit, or before it, is inside
pub by-visit : (n : ℕ) → (inside ≡ inside) ⊎ (◌≡◌ {A = ℕ} 0 1)
by-visit n = inl refl

-- no arrival is at a queue beyond the first n
pub none-arrived : (n p : ℕ) (xs : List Arrival) → n ≤ p → Each (λ (a : Arrival). a.queue < n) xs
    → arrivals_at xs p ≡ []
none-arrived n p [] past each = refl
none-arrived n p (a ∷ xs) past each =
    let few = each.0 in
    split-arrivals a xs p
    ∙ (ap (λ b. if_there b a.id (arrivals_at xs p))
    (ne_eqb a.queue p (λ e. absurd (omega arith)))
    ∙ none-arrived n p xs past each.1)
