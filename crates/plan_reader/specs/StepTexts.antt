-- The step of a text: the whole text is checked against the grammar first, then its numbers against
-- the plan, from the left.
use Rattle.std.specs.Prelude.{ℕ, ◌+◌, Bool, ◌||◌, List, Option, Some, None, Result, Ok, Err}
use Rattle.std.specs.Prelude.{is_some}
use Rattle.std.specs.Prelude.{if◌then◌else◌, bytes_eq, codes}
use Rattle.steer_base.specs.declared.command.Command.TheVariants.{Mask, Flows, Sock, XCpus, XQueues}
use Rattle.steer_base.specs.declared.command.Command.TheVariants.{Reta, Stand}
use Rattle.steer_base.specs.declared.limits.TheConstants.{MAX_FLOW_COUNT, MAX_PACKETS}
use Rattle.steer_base.specs.declared.limits.TheConstants.{MAX_SOCKET_SIZE}
use Rattle.steer_base.specs.declared.step.Step.{Step}
use Rattle.steer_base.specs.declared.step.Step.TheVariants.{Record, Give}
use Rattle.plan_reader.specs.declared.faults.cause.Cause.{Cause}
use Rattle.plan_reader.specs.declared.faults.cause.Cause.TheVariants.{WrongKind}
use Rattle.plan_reader.specs.declared.settings.sizes.Sizes.{Sizes}
use Rattle.plan_reader.specs.Causes.{◌>>=◌, kind, below}
use Rattle.plan_reader.specs.Texts.{plain_number, set_of, merged, before, after_byte}
use Rattle.plan_reader.specs.Words.{bare_step, queue_step, cpu_step, app_step, tx_step}

-- a step about a number below a limit
abbrev pub one_of : ℕ → ℕ → (ℕ → Option Step) → Result Step Cause
one_of limit n step = do
  n ← below limit n
  kind (step n)

-- the step of a word and a number
unfoldable pub number_step : Sizes → List ℕ → ℕ → Result Step Cause
number_step sizes word n =
    if is_some (queue_step word 0) then one_of sizes.queues n (queue_step word)
    else (if is_some (cpu_step word 0) then one_of sizes.cpus n (cpu_step word)
    else (if is_some (app_step word 0) then one_of sizes.apps n (app_step word)
    else (if is_some (tx_step word 0) then one_of sizes.tx n (tx_step word)
    else (if bytes_eq word (codes "record") then one_of MAX_PACKETS n (λ flow. Some (Record flow))
    else (if bytes_eq word (codes "sock") then one_of (MAX_SOCKET_SIZE + 1) n
    (λ size. Some (Give (Sock size)))
    else Err WrongKind)))))

-- the step of a word and two numbers
unfoldable pub pair_step : Sizes → List ℕ → ℕ → ℕ → Result Step Cause
pair_step sizes word first second =
    if bytes_eq word (codes "flows") then (do
      queue ← below sizes.queues first
      count ← below (MAX_FLOW_COUNT + 1) second
      Ok (Give (Flows queue count)))
    else (if bytes_eq word (codes "reta") then (do
      place ← below 128 first
      queue ← below sizes.queues second
      Ok (Give (Reta place queue)))
    else (if bytes_eq word (codes "stand") then (do
      app ← below sizes.apps first
      cpu ← below sizes.cpus second
      Ok (Give (Stand app cpu)))
    else Err WrongKind))

-- the step of a word, a number and a set
unfoldable pub set_step : Sizes → List ℕ → ℕ → List ℕ → Result Step Cause
set_step sizes word first members =
    if bytes_eq word (codes "mask") then (do
      queue ← below sizes.queues first
      cpus ← merged sizes.cpus members
      Ok (Give (Mask queue (record { 0 = cpus }))))
    else (if bytes_eq word (codes "xcpus") then (do
      tx ← below sizes.tx first
      cpus ← merged sizes.cpus members
      Ok (Give (XCpus tx (record { 0 = cpus }))))
    else (if bytes_eq word (codes "xqueues") then (do
      tx ← below sizes.tx first
      queues ← merged sizes.queues members
      Ok (Give (XQueues tx queues)))
    else Err WrongKind))

-- whether the second argument of a word is a set
unfoldable pub takes_set : List ℕ → Bool
takes_set word =
    bytes_eq word (codes "mask") || bytes_eq word (codes "xcpus") || bytes_eq word (codes "xqueues")

-- the step of a word and two arguments
abbrev pub two_arguments : Sizes → List ℕ → List ℕ → List ℕ → Result Step Cause
two_arguments sizes word first second =
    if takes_set word then (do
      number ← kind (plain_number first)
      members ← kind (set_of second)
      set_step sizes word number members)
    else (do
      number ← kind (plain_number first)
      other ← kind (plain_number second)
      pair_step sizes word number other)

-- the step of a word and one argument, or two if something follows the space after the first
abbrev pub some_arguments : Sizes → List ℕ → List ℕ → Option (List ℕ) → Result Step Cause
some_arguments sizes word first None = do
  number ← kind (plain_number first)
  number_step sizes word number
some_arguments sizes word first (Some second) = two_arguments sizes word first second

-- the step of a word, with arguments if something follows the space after it
abbrev pub arguments : Sizes → List ℕ → Option (List ℕ) → Result Step Cause
arguments sizes word None = bare_step word
arguments sizes word (Some rest) = some_arguments sizes word (before 32 rest) (after_byte 32 rest)

-- the step of a text: words with one space between them
unfoldable pub step_of : Sizes → List ℕ → Result Step Cause
step_of sizes text = arguments sizes (before 32 text) (after_byte 32 text)
