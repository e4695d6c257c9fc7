-- The room that the commands of a plan need, and what a run over them keeps.
use Rattle.std.proofs.Common.{take, ◌&&◌}
use Rattle.std.specs.Prelude.{drop, nat_lt, slice_index_or}
use Rattle.std.proofs.Math.Nat.{mul-le-mul_right}
use Rattle.std.proofs.Math.Seq.{take-add}
use Rattle.std.proofs.lemmas.Bool.{ltb-true}
use Rattle.std.specs.List.{cons_option, filter_map}
use Rattle.std.proofs.lemmas.Nat.{mul-le}
use Rattle.steer_base.specs.declared.command.Command.TheVariants as give
use Rattle.steer_base.specs.declared.limits.TheConstants.{MAX_FLOW_COUNT}
use Rattle.steer_base.specs.declared.step.Step.{Step}
use Rattle.steer_base.specs.declared.step.Step.TheVariants as step
use Rattle.plan_reader.specs.Plans.{sizes_of}
use Rattle.plan_reader.specs.Ranges.{command_in, command_is_within, commands_of, step_is_within}
use Rattle.plan_reader.specs.Ranges.{steps_in_list}
use Rattle.steer_model.specs.Good.Commands.{AreGiven}
use Rattle.steer_model.specs.State.Start.{setup_of}
use Rattle.run_controller.specs.Journals.{Attempted, IsReady}
use Rattle.run_controller.specs.declared.controller.Controller.{Controller}
use Rattle.run_controller.specs.declared.controller.TheConstants.{MAX_TRIES}
use Rattle.run_controller.proofs.Names.{◌≡◌, ℕ, zero, suc, ◌+◌, ◌*◌, ◌<◌, ◌≤◌, List, [], ◌∷◌, ◌++◌}
use Rattle.run_controller.proofs.Names.{Option, Some, None, length, refl, sym, ap, subst, ◌∙◌}
use Rattle.run_controller.proofs.Names.{arith, All, map, Bool, true, false, length-append}
use Rattle.run_controller.proofs.Names.{length-map, All-cons, All-head, All-nil, All-tail, Command}
use Rattle.run_controller.proofs.Names.{MAX_SOCKET_SIZE, Commanded, none-some, some-is, Plan}
use Rattle.run_controller.proofs.Names.{QueuePlan, Setup, IsGivenOnce, IsKnown, first_known}
use Rattle.run_controller.proofs.Names.{AreSeated, IsNamed, Stage, Seats}
use Rattle.run_controller.proofs.GivingLemmas.{given-more}
use Rattle.run_controller.proofs.KnownLemmas.{first_is_known}
use Rattle.run_controller.proofs.WaitLemmas.{attempted_joined}

-- no more commands than steps
fewer : (ss : List Step) → length (filter_map command_in ss) ≤ length ss
fewer [] = omega arith
fewer (s ∷ ss) = by_step (command_in s) (fewer ss)
  where
    by_step : (o : Option Command) → length (filter_map command_in ss) ≤ length ss
        → length (cons_option o (filter_map command_in ss)) ≤ suc (length ss)
    by_step None few = omega arith
    by_step (Some c) few = omega arith

pub few_commands : (plan : Plan) → length (commands_of plan.steps) ≤ 1000000
few_commands plan =
    let few = fewer (steps_in_list plan.steps) in
    let steps = plan.within.steps_within.list_length in omega (arith, few, steps)

pub few_tries : (plan : Plan) → length (commands_of plan.steps) * plan.tries ≤ MAX_TRIES
few_tries plan =
    mul-le (length (commands_of plan.steps)) plan.tries 1000000 64 (few_commands plan)
    plan.within.tries_within

-- ---- the commands of a plan name what there is

step-within : (plan : Plan) (s : Step) (c : Command) → command_in s ≡ Some c
    → step_is_within (sizes_of plan) s ≡ true → command_is_within (sizes_of plan) c ≡ true
step-within plan (step.Give d) c is within =
    subst (λ (z : Command). command_is_within (sizes_of plan) z ≡ true) (some-is d c is) within
step-within plan step.Arrive c is within = none-some c is
step-within plan (step.Take queue) c is within = none-some c is
step-within plan (step.Enter queue) c is within = none-some c is
step-within plan (step.Look queue) c is within = none-some c is
step-within plan (step.Weigh queue) c is within = none-some c is
step-within plan (step.Put queue) c is within = none-some c is
step-within plan (step.Ask queue) c is within = none-some c is
step-within plan (step.Leave queue) c is within = none-some c is
step-within plan (step.Pull cpu) c is within = none-some c is
step-within plan (step.Deliver cpu) c is within = none-some c is
step-within plan (step.Retire cpu) c is within = none-some c is
step-within plan (step.Record flow) c is within = none-some c is
step-within plan (step.Send app) c is within = none-some c is
step-within plan (step.TEnter app) c is within = none-some c is
step-within plan (step.TLeave app) c is within = none-some c is
step-within plan (step.TWeigh app) c is within = none-some c is
step-within plan (step.TPut app) c is within = none-some c is
step-within plan (step.TPull tx) c is within = none-some c is
step-within plan (step.TDeliver tx) c is within = none-some c is
step-within plan (step.TRetire tx) c is within = none-some c is
step-within plan (step.Poll queue) c is within = none-some c is
step-within plan (step.Drain cpu) c is within = none-some c is
step-within plan (step.Reply app) c is within = none-some c is
step-within plan (step.Serve app) c is within = none-some c is
step-within plan (step.Ship tx) c is within = none-some c is
step-within plan step.Sweep c is within = none-some c is

commands-within : (plan : Plan) (ss : List Step)
    → All (λ s. step_is_within (sizes_of plan) s ≡ true) ss
    → All (λ c. command_is_within (sizes_of plan) c ≡ true) (filter_map command_in ss)
commands-within plan [] all = All-nil (λ c. command_is_within (sizes_of plan) c ≡ true)
commands-within plan (s ∷ ss) all =
    by_step (command_in s) refl
    (commands-within plan ss (All-tail (λ s. step_is_within (sizes_of plan) s ≡ true) s ss all))
  where
    by_step : (o : Option Command) → command_in s ≡ o
        → All (λ c. command_is_within (sizes_of plan) c ≡ true) (filter_map command_in ss)
        → All (λ c. command_is_within (sizes_of plan) c ≡ true)
        (cons_option o (filter_map command_in ss))
    by_step None is rest = rest
    by_step (Some c) is rest =
        All-cons (λ c. command_is_within (sizes_of plan) c ≡ true) c (filter_map command_in ss)
        (step-within plan s c is
        (All-head (λ s. step_is_within (sizes_of plan) s ≡ true) s ss all)) rest

and-both : (a b : Bool) → (a && b) ≡ true → (a ≡ true) × (b ≡ true)
and-both true b e = (refl, e)
and-both false b e = absurd (cc)

named-in : (plan : Plan) (given : Setup) → given ≡ setup_of plan given.packets given.cut
    → (c : Command) → command_is_within (sizes_of plan) c ≡ true → IsNamed given c
named-in plan given is c within =
    subst (λ (p : Setup). IsNamed p c) (sym is) (by_command c within)
  where
    homes : length (map (λ (q : QueuePlan). q.home) plan.queues) ≡ length plan.queues
    homes = length-map plan.queues (λ (q : QueuePlan). q.home)

    queue : (q : ℕ) → nat_lt q (length plan.queues) ≡ true
        → q < length (map (λ (q : QueuePlan). q.home) plan.queues)
    queue q is = subst (λ n. q < n) (sym homes) (ltb-true q (length plan.queues) is)

    by_command : (c : Command) → command_is_within (sizes_of plan) c ≡ true
        → IsNamed (setup_of plan given.packets given.cut) c
    by_command (give.Mask q mask) w = queue q (and-both (nat_lt q (length plan.queues)) _ w).0
    by_command (give.Flows q count) w =
        let b = and-both (nat_lt q (length plan.queues)) (nat_lt count (MAX_FLOW_COUNT + 1)) w in
        let few = ltb-true count (MAX_FLOW_COUNT + 1) b.1 in (queue q b.0, omega (arith, few))
    by_command (give.Sock size) w =
        let few = ltb-true size (MAX_SOCKET_SIZE + 1) w in omega (arith, few)
    by_command (give.Offline cpu) w = ltb-true cpu plan.cpus w
    by_command (give.Online cpu) w = ltb-true cpu plan.cpus w
    by_command (give.XCpus tx mask) w =
        ltb-true tx (length plan.tx) (and-both (nat_lt tx (length plan.tx)) _ w).0
    by_command (give.XQueues tx rxqs) w =
        ltb-true tx (length plan.tx) (and-both (nat_lt tx (length plan.tx)) _ w).0
    by_command (give.Reta entry q) w =
        let b = and-both (nat_lt entry 128) (nat_lt q (length plan.queues)) w in
        (ltb-true entry 128 b.0, queue q b.1)
    by_command (give.Stand app cpu) w =
        ltb-true app (length plan.apps) (and-both (nat_lt app (length plan.apps)) _ w).0
    by_command give.Expire w = tt

all-at : {A : Type 0} (P : A → Type 0) (xs : List A) (k : ℕ) (d : A) → All P xs → k < length xs
    → P (slice_index_or xs k d)
all-at P [] k d all less = absurd (omega arith)
all-at P (x ∷ xs) zero d all less = All-head P x xs all
all-at P (x ∷ xs) (suc k) d all less = all-at P xs k d (All-tail P x xs all) (omega arith)

pub named_at : (plan : Plan) (given : Setup) → given ≡ setup_of plan given.packets given.cut
    → (cs : List Command) → cs ≡ commands_of plan.steps → (k : ℕ) (d : Command) → k < length cs
    → IsNamed given (slice_index_or cs k d)
named_at plan given is cs are k d less =
    named-in plan given is (slice_index_or cs k d)
    (all-at (λ c. command_is_within (sizes_of plan) c ≡ true) cs k d
    (subst (All (λ c. command_is_within (sizes_of plan) c ≡ true)) (sym are)
    (commands-within plan (steps_in_list plan.steps) plan.within.steps_within.list_within)) less)

-- ---- a run over the commands

-- so many commands were given
pub record Ran (s : Stage) (plan : Plan) (cs : List Command) (count : ℕ) (now : Controller)
    (old new : Seats) : Type 0 where
  pub given : AreGiven plan.tries (take count cs) now.commands.items
  pub attempted : Attempted s [] now.commands.items (first_known plan) now.known old new
  pub ready : IsReady s now new
  pub room : now.commands.room ≡ length cs * plan.tries
  pub size : length now.commands.items ≤ count * plan.tries

pub ran_none : (s : Stage) (plan : Plan) (cs : List Command) (now : Controller) (old : Seats)
    → s.shared.given ≡ setup_of plan s.shared.given.packets s.shared.given.cut
    → cs ≡ commands_of plan.steps → now.known ≡ first_known plan → now.commands.items ≡ []
    → now.commands.room ≡ length (commands_of plan.steps) * plan.tries → AreSeated s 0 old
    → Ran s plan cs 0 now old old
ran_none s plan cs now old setup are known none room seated =
    let size : length now.commands.items ≡ 0 = ap length none in
    let few = few_tries plan in
    record {
      given = none;
      attempted = record { late = []; journal = none; attempted = refl; known = known };
      ready = record {
        seated = subst (λ n. AreSeated s n old) (sym size) seated;
        known = subst (λ (z : ℕ × _). IsKnown s.shared.given z.0 z.1)
            (λ j. (sym size j, sym known j)) (first_is_known plan s.shared.given setup);
        few = subst (λ n. n ≤ MAX_TRIES) (sym room) few;
      };
      room = room ∙ ap (λ (zs : List Command). length zs * plan.tries) (sym are);
      size = omega (arith, size);
    }

next-times : (k t : ℕ) → (k + 1) * t ≡ k * t + t
next-times k t = omega arith

pub has_room : (s : Stage) (plan : Plan) (cs : List Command) (count : ℕ) (now : Controller)
    (old new : Seats) → Ran s plan cs count now old new → count < length cs
    → length now.commands.items + plan.tries ≤ now.commands.room
has_room s plan cs count now old new ran less =
    let most : (count + 1) * plan.tries ≤ length cs * plan.tries =
    mul-le-mul_right plan.tries (omega (arith, less)) in
    let next = next-times count plan.tries in
    let size = ran.size in
    let room = ran.room in
    omega (arith, most, next, size, room)

take-next : {A : Type 0} (cs : List A) (k : ℕ) (d : A) → k < length cs
    → take (k + 1) cs ≡ take k cs ++ slice_index_or cs k d ∷ []
take-next cs k d less = take-add k 1 cs ∙ ap (λ zs. take k cs ++ zs) (first-of cs k d less)
  where
    first-of : {A : Type 0} (cs : List A) (k : ℕ) (d : A) → k < length cs
        → take 1 (drop k cs) ≡ slice_index_or cs k d ∷ []
    first-of [] k d less = absurd (omega arith)
    first-of (c ∷ cs) zero d less = refl
    first-of (c ∷ cs) (suc k) d less = first-of cs k d (omega arith)

tries-few : (tries : ℕ) (c : Command) (before after : List Commanded)
    → IsGivenOnce tries c before after → length after ≤ length before + tries
tries-few tries c before after once =
    let many = length-append before once.block in
    let is : length after ≡ length (before ++ once.block) = ap length once.journal in
    let few = once.tried.few in
    omega (arith, many, is, few)

pub ran_more : (s : Stage) (plan : Plan) (cs : List Command) (count : ℕ) (d : Command)
    (now after : Controller) (old seats new : Seats) → Ran s plan cs count now old seats
    → count < length cs
    → IsGivenOnce plan.tries (slice_index_or cs count d) now.commands.items after.commands.items
    → Attempted s now.commands.items after.commands.items now.known after.known seats new
    → IsReady s after new → after.commands.room ≡ now.commands.room
    → Ran s plan cs (count + 1) after old new
ran_more s plan cs count d now after old seats new ran less once attempted ready room =
    let size = ran.size in
    let next = next-times count plan.tries in
    let few = tries-few plan.tries (slice_index_or cs count d) now.commands.items
    after.commands.items once in
    record {
      given = subst (λ (z : List Command × List Commanded). AreGiven plan.tries z.0 z.1)
          (λ j. (sym (take-next cs count d less) j, sym once.journal j))
          (given-more plan.tries (take count cs) (slice_index_or cs count d) now.commands.items
          once.block ran.given once.tried);
      attempted = attempted_joined s [] now.commands.items after.commands.items (first_known plan)
          now.known after.known old seats new ran.attempted attempted;
      ready = ready;
      room = room ∙ ran.room;
      size = omega (arith, size, next, few);
    }

pub ran_all : (s : Stage) (plan : Plan) (cs : List Command) (now : Controller) (old new : Seats)
    → cs ≡ commands_of plan.steps → Ran s plan cs (length cs) now old new
    → AreGiven plan.tries (commands_of plan.steps) now.commands.items
ran_all s plan cs now old new are ran =
    subst (λ (zs : List Command). AreGiven plan.tries zs now.commands.items)
    (take-all cs ∙ are) ran.given
  where
    take-all : (cs : List Command) → take (length cs) cs ≡ cs
    take-all [] = refl
    take-all (c ∷ cs) = ap (λ zs. c ∷ zs) (take-all cs)
