-- Lemmas about rules and folds.
use Rattle.std.specs.Prelude.{◌≡◌, ◌<◌, ℕ, List, true, false, Some, None, slice_get}
use Rattle.std.specs.Prelude.{All}
use Rattle.steer_base.specs.declared.flow.Flow.{Flow}
use Rattle.ntuple_rules.specs.declared.rule.Rule.{Rule}
use Rattle.ntuple_rules.specs.Matches.{matches, first_match}
use Rattle.ntuple_rules.specs.Folds.{fold_of, swapped}

-- this rule of the list matches the flow, and no rule before it does
pub record IsFirst (rules : List Rule) (flow : Flow) (number : ℕ) : Type 0 where
  pub rule : Rule
  pub stands : slice_get rules number ≡ Some rule
  pub is : matches rule flow ≡ true
  pub before : (i : ℕ) (other : Rule) → i < number → slice_get rules i ≡ Some other
      → matches other flow ≡ false

-- the match that is found is the first
abbrev pub FindsTheFirst : Type 0
FindsTheFirst =
    (rules : List Rule) (flow : Flow) (number : ℕ) → first_match rules flow ≡ Some number
    → IsFirst rules flow number

-- no rule is found if and only if none of the list matches
abbrev pub FindsNoneOfNone : Type 0
FindsNoneOfNone =
    (rules : List Rule) (flow : Flow) → first_match rules flow ≡ None
    → All (λ rule. matches rule flow ≡ false) rules

-- a flow and its other direction have the same fold
abbrev pub FoldsAlike : Type 0
FoldsAlike = (flow : Flow) → fold_of (swapped flow) ≡ fold_of flow
