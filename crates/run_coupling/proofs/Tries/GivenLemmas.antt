-- The commands of all tries are commands of the plan, and so within its ranges.
use Rattle.steer_base.specs.declared.step.Step.{Step}
use Rattle.steer_base.specs.declared.step.Step.TheVariants as step
use Rattle.plan_reader.specs.Plans.{sizes_of}
use Rattle.plan_reader.specs.Ranges.{command_in, commands_of, step_is_within, steps_in_list}
use Rattle.plan_reader.specs.declared.plan.Plan.{Plan}
use Rattle.steer_model.specs.Good.Commands.{AreGiven}
use Rattle.run_coupling.proofs.Names.{◌≡◌, ℕ, true, List, [], ◌∷◌, ◌++◌, map, All, sym, subst}
use Rattle.run_coupling.proofs.Names.{cons_option, filter_map, All-cons, All-head, All-nil}
use Rattle.run_coupling.proofs.Names.{All-tail, Command, Commanded, Try, oldest_first}
use Rattle.run_coupling.proofs.Tries.RangeLemmas.{IsWithinPlan}

-- ---- parts of lists

pub all-front : {A : Type 0} (P : A → Type 0) (xs ys : List A) → All P (xs ++ ys) → All P xs
all-front P [] ys all = All-nil P
all-front P (x ∷ xs) ys all =
    All-cons P x xs (All-head P x (xs ++ ys) all)
    (all-front P xs ys (All-tail P x (xs ++ ys) all))

pub all-back : {A : Type 0} (P : A → Type 0) (xs ys : List A) → All P (xs ++ ys) → All P ys
all-back P [] ys all = all
all-back P (x ∷ xs) ys all = all-back P xs ys (All-tail P x (xs ++ ys) all)

pub all-joined : {A : Type 0} (P : A → Type 0) (xs ys : List A) → All P xs → All P ys
    → All P (xs ++ ys)
all-joined P [] ys a b = b
all-joined P (x ∷ xs) ys a b =
    All-cons P x (xs ++ ys) (All-head P x xs a) (all-joined P xs ys (All-tail P x xs a) b)

pub all-follow : {A : Type 0} (P Q : A → Type 0) → ((x : A) → P x → Q x) → (xs : List A)
    → All P xs → All Q xs
all-follow P Q follow [] all = All-nil Q
all-follow P Q follow (x ∷ xs) all =
    All-cons Q x xs (follow x (All-head P x xs all))
    (all-follow P Q follow xs (All-tail P x xs all))

-- ---- the plan's commands

module _ (plan : Plan) where
  commands-within : (ss : List Step) → All (λ s. step_is_within (sizes_of plan) s ≡ true) ss
      → All (IsWithinPlan plan) (filter_map command_in ss)
  commands-within [] all = All-nil (IsWithinPlan plan)
  commands-within (s ∷ ss) all =
      by_step s (All-head (λ s. step_is_within (sizes_of plan) s ≡ true) s ss all)
      (commands-within ss (All-tail (λ s. step_is_within (sizes_of plan) s ≡ true) s ss all))
    where
      by_step : (s : Step) → step_is_within (sizes_of plan) s ≡ true
          → All (IsWithinPlan plan) (filter_map command_in ss)
          → All (IsWithinPlan plan) (cons_option (command_in s) (filter_map command_in ss))
      by_step (step.Give c) within rest =
          All-cons (IsWithinPlan plan) c (filter_map command_in ss) within rest
      by_step s within rest = rest

  given-within : (tries : ℕ) (cs : List Command) (given : List Commanded)
      → All (IsWithinPlan plan) cs → AreGiven tries cs given
      → All (λ (g : Commanded). IsWithinPlan plan g.command) given
  given-within tries [] given all is =
      subst (All (λ (g : Commanded). IsWithinPlan plan g.command)) (sym is)
      (All-nil (λ (g : Commanded). IsWithinPlan plan g.command))
  given-within tries (c ∷ cs) given all (block, rest, is, tried, older) =
      subst (All (λ (g : Commanded). IsWithinPlan plan g.command)) (sym is)
      (all-joined (λ (g : Commanded). IsWithinPlan plan g.command) block rest
      (all-follow (λ (g : Commanded). g.command ≡ c)
      (λ (g : Commanded). IsWithinPlan plan g.command)
      (λ g same. subst (IsWithinPlan plan) (sym same) (All-head (IsWithinPlan plan) c cs all)) block
      tried.same)
      (given-within tries cs rest (All-tail (IsWithinPlan plan) c cs all) older))

  tries-within : (ts : List Try) → All (λ (g : Commanded). IsWithinPlan plan g.command)
      (oldest_first (map (λ (t : Try). t.given) ts))
      → All (λ (t : Try). IsWithinPlan plan t.given.command) ts
  tries-within [] all = All-nil (λ (t : Try). IsWithinPlan plan t.given.command)
  tries-within (t ∷ ts) all =
      let older : List Commanded = oldest_first (map (λ (t : Try). t.given) ts) in
      All-cons (λ (t : Try). IsWithinPlan plan t.given.command) t ts
      (All-head (λ (g : Commanded). IsWithinPlan plan g.command) t.given []
      (all-back (λ (g : Commanded). IsWithinPlan plan g.command) older (t.given ∷ []) all))
      (tries-within ts
      (all-front (λ (g : Commanded). IsWithinPlan plan g.command) older (t.given ∷ []) all))

  -- each try is of a command of the plan
  pub all_within : (ts : List Try) (given : List Commanded)
      → given ≡ oldest_first (map (λ (t : Try). t.given) ts)
      → AreGiven plan.tries (commands_of plan.steps) given
      → All (λ (t : Try). IsWithinPlan plan t.given.command) ts
  all_within ts given is are =
      tries-within ts
      (subst (All (λ (g : Commanded). IsWithinPlan plan g.command)) is
      (given-within plan.tries (commands_of plan.steps) given
      (commands-within (steps_in_list plan.steps) plan.within.steps_within.list_within) are))
