-- The steps of a plan name only what the plan has.
use Rattle.std.proofs.Common.{ℕ, ◌/◌, ◌%◌, ◌<◌, ◌≡◌, Bool, true, false, List, [], ◌∷◌, Option, Some}
use Rattle.std.proofs.Common.{None}
use Rattle.std.proofs.Common.{length, refl, ◌∙◌, sym, subst, arith, suc, zero}
use Rattle.std.specs.Prelude.{◌==◌, if◌then◌else◌, nat_lt}
use Rattle.std.specs.List.{AllPass, cons_option, filter_map, range_with_len}
use Rattle.std.proofs.lemmas.Bool.{lt-ltb}
use Rattle.std.proofs.lemmas.Option.{none-some, same_Some, slice_get-get_or, slice_get_within}
use Rattle.plan_reader.specs.Plans.{nth_of, nth_step, sizes_of, step_count}
use Rattle.plan_reader.specs.Ranges.{StepsAreWithin, step_is_within}
use Rattle.plan_reader.specs.Seeds.{event_of, seeded_step, seeded_word}
use Rattle.plan_reader.specs.declared.plan.Plan.{Plan}
use Rattle.plan_reader.specs.declared.plan.Steps.{Steps}
use Rattle.plan_reader.specs.declared.plan.Steps.TheVariants as steps
use Rattle.plan_reader.specs.declared.settings.sizes.Sizes.{Sizes}
use Rattle.steer_base.specs.declared.step.Step.{Step}
use Rattle.steer_base.specs.declared.step.Step.TheVariants as act
use Rattle.steer_model.specs.State.Start.{steps_of}

-- What a plan says of its sizes and its steps: there is one of each at least, and the listed steps
-- are within.
pub record HasSteps (plan : Plan) : Type 0 where
  pub queues : 0 < (sizes_of plan).queues
  pub cpus : 0 < (sizes_of plan).cpus
  pub apps : 0 < (sizes_of plan).apps
  pub tx : 0 < (sizes_of plan).tx
  pub steps : StepsAreWithin (sizes_of plan) plan.steps

pass-cons : (pick : ℕ → Option Step) (test : Step → Bool)
    → ((i : ℕ) (s : Step) → pick i ≡ Some s → test s ≡ true) → (x : ℕ) (rest : List Step)
    (o : Option Step)
    → pick x ≡ o → AllPass test rest → AllPass test (cons_option o rest)
pass-cons pick test each x rest None is all k d lt = all k d lt
pass-cons pick test each x rest (Some s) is all zero d lt = each x s is
pass-cons pick test each x rest (Some s) is all (suc k) d lt = all k d (omega arith)

-- what is picked from a list passes where each that may be picked does
pass-picked : (pick : ℕ → Option Step) (test : Step → Bool)
    → ((i : ℕ) (s : Step) → pick i ≡ Some s → test s ≡ true) → (xs : List ℕ)
    → AllPass test (filter_map pick xs)
pass-picked pick test each [] = λ k d lt. absurd (omega arith)
pass-picked pick test each (x ∷ xs) =
    pass-cons pick test each x (filter_map pick xs) (pick x) refl (pass-picked pick test each xs)

pass-if : (test : Step → Bool) (b : Bool) (x y : Step) → test x ≡ true → test y ≡ true
    → test (if b then x else y) ≡ true
pass-if test true x y p q = p
pass-if test false x y p q = q

below-mod : (m n : ℕ) → 0 < n → nat_lt (m % n) n ≡ true
below-mod m n some = lt-ltb (m % n) n (omega arith)

event-within : (sizes : Sizes) → 0 < sizes.queues → 0 < sizes.cpus → (which j : ℕ)
    → step_is_within sizes (event_of sizes which j) ≡ true
event-within sizes queues cpus which j =
    let test : Step → Bool = step_is_within sizes in
    let q = below-mod j sizes.queues queues in
    pass-if test (which == 0) (act.Take (j % sizes.queues)) _ q
    (pass-if test (which == 1) (act.Enter (j % sizes.queues)) _ q
    (pass-if test (which == 2) (act.Look (j % sizes.queues)) (act.Pull (j % sizes.cpus)) q
    (below-mod j sizes.cpus cpus)))

seeded-within : (sizes : Sizes) → 0 < sizes.queues → 0 < sizes.cpus → 0 < sizes.apps → 0 < sizes.tx
    → (word : ℕ) → step_is_within sizes (seeded_step sizes word) ≡ true
unfolding seeded_step
seeded-within sizes queues cpus apps tx word =
    let test : Step → Bool = step_is_within sizes in
    let k : ℕ = word % 16 in
    let m : ℕ = word / 16 in
    pass-if test (nat_lt k 5) act.Arrive _ refl
    (pass-if test (nat_lt k 9) (act.Poll (m % sizes.queues)) _ (below-mod m sizes.queues queues)
    (pass-if test (nat_lt k 12) (act.Drain (m % sizes.cpus)) _ (below-mod m sizes.cpus cpus)
    (pass-if test (nat_lt k 14) (act.Serve (m % sizes.apps)) _ (below-mod m sizes.apps apps)
    (pass-if test (k == 14) (act.Ship (m % sizes.tx)) (event_of sizes (m % 4) (m / 4))
    (below-mod m sizes.tx tx)
    (event-within sizes queues cpus (m % 4) (m / 4))))))

-- a step that is chosen by a test, or another, or none
pass-some : (test : Step → Bool) (b c : Bool) (x y s : Step) → test x ≡ true → test y ≡ true
    → (if b then Some x else (if c then Some y else None)) ≡ Some s → test s ≡ true
pass-some test true c x y s p q is = subst (λ t. test t ≡ true) (same_Some x s is) p
pass-some test false true x y s p q is = subst (λ t. test t ≡ true) (same_Some y s is) q
pass-some test false false x y s p q is = absurd (none-some s is)

nth-within : (sizes : Sizes) → 0 < sizes.queues → 0 < sizes.cpus → 0 < sizes.apps → 0 < sizes.tx
    → (ss : Steps) → StepsAreWithin sizes ss → (i : ℕ) (s : Step) → nth_of sizes ss i ≡ Some s
    → step_is_within sizes s ≡ true
nth-within sizes queues cpus apps tx (steps.List list) within i s is =
    let lt : i < length list = slice_get_within list i s is in
    let at = same_Some _ _ (sym (slice_get-get_or list i s lt) ∙ is) in
    subst (λ t. step_is_within sizes t ≡ true) at (within.list_within i s lt)
nth-within sizes queues cpus apps tx (steps.Seed seed count) within i s is =
    pass-some (step_is_within sizes) (nat_lt i count) (i == count)
    (seeded_step sizes (seeded_word seed i)) act.Sweep s
    (seeded-within sizes queues cpus apps tx (seeded_word seed i)) refl is

pub plan_steps_are_within : (plan : Plan) → HasSteps plan
    → AllPass (step_is_within (sizes_of plan)) (steps_of plan)
plan_steps_are_within plan has =
    pass-picked (nth_step plan) (step_is_within (sizes_of plan))
    (nth-within (sizes_of plan) has.queues has.cpus has.apps has.tx plan.steps has.steps)
    (range_with_len 0 (step_count plan))
