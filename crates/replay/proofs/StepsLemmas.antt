-- The steps of a plan, made one by one.
use Rattle.std.proofs.Common.{ℕ, ◌+◌, ◌≡◌, List, [], ◌∷◌, ◌++◌, Option, Some, refl, ap, ◌∙◌}
use Rattle.std.proofs.Common.{arith, sym}
use Rattle.std.specs.List.{cons_option, filter_map, range_with_len}
use Rattle.std.proofs.lemmas.List.Elements.{filter_map-append}
use Rattle.plan_reader.specs.Plans.{nth_step, step_count}
use Rattle.plan_reader.specs.declared.plan.Plan.{Plan}
use Rattle.steer_base.specs.declared.packet.Packet.{Packet}
use Rattle.steer_base.specs.declared.step.Step.{Step}
use Rattle.steer_core.specs.Runs.{Run, stepped}
use Rattle.steer_model.specs.State.Machine.{Machine}
use Rattle.steer_model.specs.State.Start.{new_machine}
use Rattle.steer_model.specs.Steps.CompoundSteps.{after, step}
use Rattle.steer_invariant.proofs.StepInvariant.ArrivalLemmas.{range-more}

-- the first n steps of a plan
abbrev pub first_steps : Plan → ℕ → List Step
first_steps plan n = filter_map (nth_step plan) (range_with_len 0 n)

after-append : (xs ys : List Step) (m : Machine) → after (xs ++ ys) m ≡ after ys (after xs m)
after-append [] ys m = refl
after-append (s ∷ xs) ys m = after-append xs ys (step m s).0

-- the next step after those before it
pub next_step : (plan : Plan) (i : ℕ) (s : Step) (m : Machine) → nth_step plan i ≡ Some s
    → after (first_steps plan (i + 1)) m ≡ (step (after (first_steps plan i) m) s).0
next_step plan i s m is =
    let some : List ℕ → List Step = filter_map (nth_step plan) in
    let more : first_steps plan (i + 1) ≡ some (range_with_len 0 i ++ i ∷ []) =
    ap some (range-more 0 i i (omega arith)) in
    let one : filter_map (nth_step plan) (i ∷ []) ≡ s ∷ [] = ap (λ o. cons_option o []) is in
    let all : first_steps plan (i + 1) ≡ first_steps plan i ++ s ∷ [] =
    more ∙ filter_map-append (nth_step plan) (range_with_len 0 i) (i ∷ [])
    ∙ ap (λ t. first_steps plan i ++ t) one in
    ap (λ ss. after ss m) all ∙ after-append (first_steps plan i) (s ∷ []) m

-- the run of a plan after its first n steps
abbrev pub run_at : Plan → List Packet → Option ℕ → ℕ → Run
run_at plan packets cut n =
    record {
      machine = after (first_steps plan n) (new_machine plan packets cut);
      made = n;
      steps = step_count plan;
    }

pub stepped_at : (plan : Plan) (packets : List Packet) (cut : Option ℕ) (i : ℕ) (s : Step) (r : Run)
    → nth_step plan i ≡ Some s → r ≡ run_at plan packets cut i
    → stepped r s ≡ run_at plan packets cut (i + 1)
stepped_at plan packets cut i s r is at =
    let m = new_machine plan packets cut in
    let last : Machine → Run =
    λ n. record { machine = n; made = i + 1; steps = step_count plan } in
    ap (λ (x : Run). stepped x s) at ∙ ap last (sym (next_step plan i s m is))
