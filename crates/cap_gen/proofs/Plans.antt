-- The value of a generated plan is read as the plan.
use Rattle.std.proofs.Common.{◌≡◌, ◌≤◌, ℕ, true, List, Result, Some, Ok, Err, IsUtf8, Vec, Global}
use Rattle.std.proofs.Common.{nat_le, refl, ap, subst, arith}
use Rattle.std.specs.Result.{IfOk}
use Rattle.std.proofs.lemmas.Str.{is_utf8-from_IsUtf8}
use Rattle.serde_json.specs.Data.{Data, depth}
use Rattle.serde_json.specs.Read.{read, max_depth}
use Rattle.plan_reader.specs.declared.plan.Steps.TheVariants.{Seed}
use Rattle.plan_reader.specs.declared.settings.sizes.Sizes.{Sizes}
use Rattle.plan_reader.specs.Causes.{in_range}
use Rattle.plan_reader.specs.PlanTexts.{receive_of, tables_of, sends_of, settings_in, named}
use Rattle.plan_reader.specs.PlanTexts.{plan_of}
use Rattle.plan_reader.specs.Readings.{queue_plan, tx_of, seed_of, read_steps}
use Rattle.cap_gen.specs.PlanValues.{steps_value, plan_value}
use Rattle.cap_gen.specs.Plans.{plan_for}

count_in_range : (count : ℕ) → count ≤ 999999 → in_range 0 999999 count ≡ Ok count
count_in_range count few =
    let low : nat_le 0 count ≡ true = search arith in
    let high : nat_le count 999999 ≡ true = search (arith, few) in
    rw (low, high) refl

seed_of-steps_value : (seed count : ℕ) → count ≤ 999999 → seed_of (steps_value seed count) ≡ Ok
    (Seed seed count)
unfolding seed_of
seed_of-steps_value seed count few = rw (count_in_range count few) refl

steps_of-steps_value : (sizes : Sizes) (seed count : ℕ) → count ≤ 999999 → read_steps sizes
    (steps_value seed count) ≡ Ok (Seed seed count)
unfolding read_steps
steps_of-steps_value sizes seed count few = seed_of-steps_value seed count few

settings_in-plan_value : (seed count : ℕ) → count ≤ 999999 → settings_in
    (plan_value seed count) ≡ Ok (plan_for seed count)
unfolding settings_in receive_of tables_of sends_of queue_plan tx_of
settings_in-plan_value seed count few = rw (steps_of-steps_value _ seed count few) refl

-- a text with that value
pub plan_of-plan_value : (text : List ℕ) (seed count : ℕ) → count ≤ 999999 → IsUtf8 text
    → read text ≡ Some (plan_value seed count)
    → plan_of text ≡ Ok (plan_for seed count)
unfolding plan_of
plan_of-plan_value text seed count few utf8 reads =
    rw (is_utf8-from_IsUtf8 text utf8, reads) (ap named (settings_in-plan_value seed count few))

-- what `to_vec` gives for that value
pub read_as_plan : {E : Type 0} (r : Result (Vec ℕ Global) E) (written : Data) (seed count : ℕ)
    → written ≡ plan_value seed count → count ≤ 999999
    → IfOk r (λ text. IsUtf8 text.items) → IfOk r (λ text. depth written ≤ max_depth
    → read text.items ≡ Some written)
    → IfOk r (λ text. plan_of text.items ≡ Ok (plan_for seed count))
read_as_plan (Ok text) written seed count same few utf8 back =
    let reads : depth (plan_value seed count) ≤ max_depth → read text.items ≡ Some
    (plan_value seed count) =
    subst (λ d. depth d ≤ max_depth → read text.items ≡ Some d) same back in
    plan_of-plan_value text.items seed count few utf8 (reads (omega arith))
read_as_plan (Err e) written seed count same few utf8 back = tt
