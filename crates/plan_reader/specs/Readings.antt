-- Reads the parts of a plan from a JSON value, one after another, up to the first that is wrong.
use Rattle.std.specs.Prelude.{ℕ, ◌+◌, ◌^◌, List, [], ◌∷◌, Bool, Option, Some, None, Result, Ok, Err}
use Rattle.std.specs.Prelude.{nat_le, if◌then◌else◌, is_some, option_and_then, bytes_eq, codes}
use Rattle.std.specs.Prelude.{bit_or, ⊤}
use Rattle.std.specs.Fmt.{decimal}
use Rattle.std.specs.List.{list_any}
use Rattle.std.specs.Result.{result_ok}
use Rattle.hex.specs.Hex.{decode_sized}
use Rattle.serde_json.specs.Data.{Data, Items, no_items, item, Members, no_members, member}
use Rattle.serde_json.specs.Events.{items_len}
use Rattle.serde_json.specs.Find.{get, as_number, as_u64, as_str, as_array, as_object}
use Rattle.steer_base.specs.declared.limits.TheConstants.{MAX_FLOW_COUNT, MAX_PACKETS}
use Rattle.steer_base.specs.declared.step.Detach.{Detach}
use Rattle.steer_base.specs.declared.step.Step.{Step}
use Rattle.plan_reader.specs.declared.faults.cause.Cause.{Cause}
use Rattle.plan_reader.specs.declared.faults.cause.Cause.TheVariants.{Missing, WrongKind}
use Rattle.plan_reader.specs.declared.faults.cause.Cause.TheVariants.{UnknownKey, TooLong}
use Rattle.plan_reader.specs.declared.faults.fault.Fault.{Fault}
use Rattle.plan_reader.specs.declared.plan.QueuePlan.{QueuePlan}
use Rattle.plan_reader.specs.declared.plan.TxPlan.{TxPlan}
use Rattle.plan_reader.specs.declared.plan.Steps.{Steps}
use Rattle.plan_reader.specs.declared.plan.Steps.TheVariants as steps
use Rattle.plan_reader.specs.declared.settings.sizes.Sizes.{Sizes}
use Rattle.plan_reader.specs.Causes.{◌>>=◌, kind, in_range, below}
use Rattle.plan_reader.specs.Faults.{here, under}
use Rattle.plan_reader.specs.StepTexts.{step_of}

-- ---- kinds of values

-- a whole number from 0 to 2^64 - 1
abbrev pub whole : Data → Result ℕ Cause
whole d = kind (option_and_then as_u64 (as_number d))

-- a number from low to high
abbrev pub number_between : ℕ → ℕ → Data → Result ℕ Cause
number_between low high d = do
  n ← whole d
  in_range low high n

-- a number below a limit
abbrev pub number_below : ℕ → Data → Result ℕ Cause
number_below limit d = do
  n ← whole d
  below limit n

-- the members of a list, of which there are from low to high
abbrev pub items : ℕ → ℕ → Data → Result Items Cause
items low high d = do
  members ← kind (as_array d)
  n ← in_range low high (items_len members)
  Ok members

-- the members of a list, from this position on
abbrev pub each : {A : Type 0} → (Data → Result A Fault) → ℕ → Items → Result (List A) Fault
each read position no_items = Ok []
each read position (item d ds) = do
  first ← under (decimal position) (read d)
  others ← each read (position + 1) ds
  Ok (first ∷ others)

-- a list of `low` to `high` members
abbrev pub list_of : {A : Type 0} → (Data → Result A Fault) → ℕ → ℕ → Data → Result (List A) Fault
list_of read low high d = do
  members ← here (items low high d)
  each read 0 members

-- The set with the numbers from this position on added, all below the limit: bit n is number n.
abbrev pub set_from : (limit position bits : ℕ) → Items → Result ℕ Fault
set_from limit position bits no_items = Ok bits
set_from limit position bits (item d ds) = do
  n ← under (decimal position) (here (number_below limit d))
  set_from limit (position + 1) (bit_or bits (2 ^ n)) ds

-- a list of at most `most` numbers below a limit, as a set
abbrev pub set : ℕ → ℕ → Data → Result ℕ Fault
set most limit d = do
  members ← here (items 0 most d)
  set_from limit 0 0 members

-- ---- objects

-- reads a value that must be present
abbrev pub found : {A : Type 0} → (Data → Result A Fault) → Option Data → Result A Fault
found read None = here (Err Missing)
found read (Some d) = read d

-- the value at a required key
abbrev pub required : {A : Type 0} → List ℕ → (Data → Result A Fault) → Data → Result A Fault
required key read d = under key (found read (get key d))

-- reads a value if it is present, else takes the default
abbrev pub or_default : {A : Type 0} → (Data → Result A Fault) → A → Option Data → Result A Fault
or_default read default None = Ok default
or_default read default (Some d) = read d

-- the value at a key, or the default where it is not there
abbrev pub optional : {A : Type 0} → List ℕ → (Data → Result A Fault) → A → Data → Result A Fault
optional key read default d = under key (or_default read default (get key d))

-- an object
abbrev pub an_object : Data → Result ⊤ Fault
an_object d = here (if is_some (as_object d) then Ok tt else Err WrongKind)

-- the first key, in the order of their bytes, that is none of these
abbrev pub first_unknown : (List ℕ → Bool) → Members → Option (List ℕ)
first_unknown known no_members = None
first_unknown known (member key d ms) = if known key then first_unknown known ms else Some key

-- the fault of a key that is not known, if there is one
abbrev pub unknown : Option (List ℕ) → Result ⊤ Fault
unknown None = Ok tt
unknown (Some key) = under key (here (Err UnknownKey))

-- no key of an object but these
abbrev pub only : List (List ℕ) → Data → Result ⊤ Fault
only keys d =
    unknown (option_and_then (first_unknown (λ key. list_any (bytes_eq key) keys)) (as_object d))

-- ---- the parts of a plan

-- a receive queue
unfoldable pub queue_plan : ℕ → Data → Result QueuePlan Fault
queue_plan cpus d = do
  is ← an_object d
  home ← required (codes "home") (λ v. here (number_below cpus v)) d
  mask ← required (codes "mask") (set 32 cpus) d
  flows ← required (codes "flows") (λ v. here (number_between 0 MAX_FLOW_COUNT v)) d
  none ← only (codes "home" ∷ codes "mask" ∷ codes "flows" ∷ []) d
  Ok (record { home = home; mask = record { 0 = mask }; flows = flows })

-- a transmit queue
unfoldable pub tx_of : ℕ → ℕ → Data → Result TxPlan Fault
tx_of cpus queues d = do
  is ← an_object d
  cpu_set ← required (codes "cpus") (set 32 cpus) d
  served ← required (codes "queues") (set 16 queues) d
  none ← only (codes "cpus" ∷ codes "queues" ∷ []) d
  Ok (record { cpus = record { 0 = cpu_set }; queues = served })

-- a tap that is detached
unfoldable pub detach_of : Data → Result Detach Fault
detach_of d = do
  is ← an_object d
  tap ← required (codes "tap") (λ v. here (number_between 0 31 v)) d
  after ← required (codes "after") (λ v. here (number_between 0 MAX_PACKETS v)) d
  none ← only (codes "tap" ∷ codes "after" ∷ []) d
  Ok (record { tap = tap; after = after })

-- the 40 bytes of a key: a text of 80 hexadecimal digits of either case
unfoldable pub key_of : Data → Result (List ℕ) Cause
key_of d = do
  text ← kind (as_str d)
  kind (result_ok (decode_sized text 40))

-- a step
abbrev pub step_value : Sizes → Data → Result Step Cause
step_value sizes d = do
  text ← kind (as_str d)
  step_of sizes text

-- steps of a seed
unfoldable pub seed_of : Data → Result Steps Fault
seed_of d = do
  is ← an_object d
  seed ← required (codes "seed") (λ v. here (whole v)) d
  count ← required (codes "count") (λ v. here (number_between 0 999999 v)) d
  none ← only (codes "seed" ∷ codes "count" ∷ []) d
  Ok (steps.Seed seed count)

-- a list of steps, refused before its members are looked at where there are too many
abbrev pub listed_steps : Sizes → Items → Result Steps Fault
listed_steps sizes ds = if nat_le (items_len ds) 1000000 then (do
  list ← each (λ v. here (step_value sizes v)) 0 ds
  Ok (steps.List list))
    else here (Err (TooLong (items_len ds)))

-- reads the steps as a list, or as an object with a seed and a count
abbrev pub listed_or_seeded : Sizes → Option Items → Data → Result Steps Fault
listed_or_seeded sizes (Some ds) d = listed_steps sizes ds
listed_or_seeded sizes None d = seed_of d

-- the steps: a list of texts, or an object with a seed and a count
unfoldable pub read_steps : Sizes → Data → Result Steps Fault
read_steps sizes d = listed_or_seeded sizes (as_array d) d
