-- The count of a flow, at its index or by the flow.
use Rattle.std.proofs.Common.{◌≡◌, ℕ, zero, suc, ◌+◌, ◌^◌, Bool, cond, List, [], ◌∷◌, Some}
use Rattle.std.proofs.Common.{unwrap_or, nat_eq, slice_get, refl, sym, ap, ◌∙◌, inl, inr, arith}
use Rattle.std.specs.Cmp.{nat_eq_equiv}
use Rattle.std.specs.List.{IsDistinct}
use Rattle.std.specs.Map.{keys_of, lookup}
use Rattle.std.specs.Option.{option_map}
use Rattle.std.proofs.lemmas.Bool.Decides.{eqb_tells}
use Rattle.std.proofs.lemmas.Option.{slice_get-map}
use Rattle.indexmap.specs.IndexMap.{insert_entry, set_value_at}
use Rattle.indexmap.proofs.MapLemmas.{Found-position, index-first, insert_entry-first}
use Rattle.indexmap.proofs.RemoveLemmas.{own_first}
use Rattle.taps.specs.PerFlow.{counted}
use Rattle.taps.proofs.FlowsLemmas.{inserted_here, inserted_later}

-- one more packet of the flow at an index
pub counted_at : (es : List (ℕ × ℕ)) (i flow count : ℕ) → IsDistinct nat_eq (keys_of es)
    → slice_get es i ≡ Some (flow, count) → set_value_at es i (count + 1) ≡ counted es flow
counted_at es i flow count unique at =
    let first = own_first nat_eq nat_eq_equiv es i flow count unique at in
    let value : lookup (nat_eq flow) es ≡ Some count =
    (Found-position (nat_eq flow) es i (index-first (nat_eq flow) es i first)).value
    ∙ slice_get-map (λ e. e.1) es i
    ∙ ap (option_map (λ e. e.1)) at in
    sym (insert_entry-first nat_eq flow (unwrap_or (lookup (nat_eq flow) es) 0 + 1) es i first
    ∙ ap (λ v. set_value_at es i (unwrap_or v 0 + 1)) value)

-- the count at an index, put there once more
pub same_at : (es : List (ℕ × ℕ)) (i flow count : ℕ) → slice_get es i ≡ Some (flow, count)
    → set_value_at es i count ≡ es
same_at [] i flow count at = refl
same_at (e ∷ es) zero flow count at = ap (λ v. (e.0, (unwrap_or v e).1) ∷ es) (sym at)
same_at (e ∷ es) (suc i) flow count at = ap (λ r. e ∷ r) (same_at es i flow count at)

-- a count that is not 0, put at its flow once more
pub same_by_flow : (es : List (ℕ × ℕ)) (flow count : ℕ) → unwrap_or (lookup (nat_eq flow) es) 0
    ≡ count + 1
    → insert_entry nat_eq es flow (count + 1) ≡ es
same_by_flow [] flow count is = absurd (omega (arith, is))
same_by_flow (e ∷ es) flow count is =
    let first = λ (b : Bool). unwrap_or (cond b (Some e.1) (lookup (nat_eq flow) es)) 0 in
    elim (eqb_tells flow e.0) [
      | inl t ↦ inserted_here e es flow (count + 1) t.0
          ∙ ap (λ n. (e.0, n) ∷ es) (sym is ∙ ap first t.0)
      | inr t ↦ inserted_later e es flow (count + 1) t.0
          ∙ ap (λ r. e ∷ r) (same_by_flow es flow count (sym (ap first t.0) ∙ is))
    ]

-- a full count is not 0
pub full_by_flow : (es : List (ℕ × ℕ)) (flow old new : ℕ) → (old + 1 ≡ 2 ^ 64) × (new ≡ old)
    → old ≡ unwrap_or (lookup (nat_eq flow) es) 0 → insert_entry nat_eq es flow new ≡ es
full_by_flow es flow zero new full is = absurd (omega (arith, full.0))
full_by_flow es flow (suc n) new full is =
    let next : suc n ≡ n + 1 = omega arith in
    ap (λ k. insert_entry nat_eq es flow k) (full.1 ∙ next)
    ∙ same_by_flow es flow n (sym is ∙ next)
