-- The plan of a JSON value, and of bytes.
use Rattle.std.specs.Prelude.{◌≡◌, ℕ, List, [], ◌∷◌, drop, length, Option, Some, None, Result, Ok}
use Rattle.std.specs.Prelude.{Err, if◌then◌else◌, codes}
use Rattle.std.specs.Str.{is_utf8}
use Rattle.serde_json.specs.Data.{Data}
use Rattle.serde_json.specs.Read.{read}
use Rattle.steer_base.specs.Arrivals.{even_entries}
use Rattle.steer_base.specs.declared.limits.TheConstants.{MAX_SOCKET_SIZE}
use Rattle.plan_reader.specs.declared.limits.TheConstants.{MAX_PLAN_BACKLOG, MAX_PLAN_FILTERS}
use Rattle.toeplitz.specs.declared.key.TheConstants.{VERIFICATION_KEY}
use Rattle.plan_reader.specs.declared.faults.cause.Cause.{Cause}
use Rattle.plan_reader.specs.declared.faults.cause.Cause.TheVariants as cause
use Rattle.plan_reader.specs.declared.faults.fault.Fault.{Fault}
use Rattle.plan_reader.specs.declared.faults.fault.Refusal.{Refusal}
use Rattle.plan_reader.specs.declared.faults.fault.Refusal.TheVariants as refusal
use Rattle.plan_reader.specs.declared.settings.parts.Parts.{Parts}
use Rattle.plan_reader.specs.declared.settings.parts.Receive.{Receive}
use Rattle.plan_reader.specs.declared.settings.parts.Tables.{Tables}
use Rattle.plan_reader.specs.declared.settings.parts.Sends.{Sends}
use Rattle.plan_reader.specs.declared.plan.Plan.{Plan}
use Rattle.plan_reader.specs.declared.plan_fault.PlanFault.{PlanFault}
use Rattle.plan_reader.specs.declared.plan_fault.PlanFault.TheVariants as fault
use Rattle.plan_reader.specs.declared.settings.sizes.Sizes.{Sizes}
use Rattle.plan_reader.specs.Settings.{PlanSettings}
use Rattle.plan_reader.specs.Causes.{◌>>=◌}
use Rattle.plan_reader.specs.Faults.{here}
use Rattle.plan_reader.specs.Readings.{number_between, number_below, set, list_of, required}
use Rattle.plan_reader.specs.Readings.{optional}
use Rattle.plan_reader.specs.Readings.{an_object, only, queue_plan, tx_of, detach_of, key_of}
use Rattle.plan_reader.specs.Readings.{read_steps}

-- ---- the fields, in their order

-- reads the processors, the receive queues, the key, the hash kinds and the redirection table of a
-- plan
unfoldable pub receive_of : Data → Result Receive Fault
receive_of d = do
  cpus ← required (codes "cpus") (λ v. here (number_between 1 32 v)) d
  queues ← required (codes "queues") (list_of (queue_plan cpus) 1 16) d
  key ← optional (codes "key") (λ v. here (key_of v)) VERIFICATION_KEY d
  kinds ← optional (codes "kinds") (λ v. here (number_between 0 63 v)) 63 d
  reta ← optional (codes "reta") (list_of (λ v. here (number_below (length queues) v)) 128 128)
      (even_entries (length queues)) d
  Ok (record { cpus = cpus; queues = queues; key = key; kinds = kinds; reta = reta })

-- reads the sizes of tables, the backlog limit, the counter start and the flow limit set of a plan
unfoldable pub tables_of : ℕ → Data → Result Tables Fault
tables_of cpus d = do
  sock ← required (codes "sock") (λ v. here (number_between 0 MAX_SOCKET_SIZE v)) d
  filters ← optional (codes "filters") (λ v. here (number_between 0 MAX_PLAN_FILTERS v)) 0 d
  backlog ← optional (codes "backlog") (λ v. here (number_between 1 MAX_PLAN_BACKLOG v)) 1000 d
  start ← optional (codes "start") (λ v. here (number_between 0 4294967295 v)) 0 d
  limited ← optional (codes "limited") (set 32 cpus) 0 d
  Ok (record {
    sock = sock;
    filters = filters;
    backlog = backlog;
    start = start;
    limited = record { 0 = limited };
  })

-- reads the applications, the transmit queues, the threads and the detached taps of a plan
unfoldable pub sends_of : ℕ → ℕ → Data → Result Sends Fault
sends_of cpus queues d = do
  apps ← required (codes "apps") (list_of (λ v. here (number_below cpus v)) 1 32) d
  tx ← required (codes "tx") (list_of (tx_of cpus queues) 1 32) d
  workers ← optional (codes "workers") (λ v. here (number_between 1 32 v)) 1 d
  tries ← optional (codes "tries") (λ v. here (number_between 1 64 v)) 1 d
  detach ← optional (codes "detach") (list_of detach_of 0 32) [] d
  Ok (record { apps = apps; tx = tx; workers = workers; tries = tries; detach = detach })

-- all keys that a plan may have, in the order in which they are read
abbrev pub plan_keys : List (List ℕ)
plan_keys =
    codes "cpus" ∷ codes "queues" ∷ codes "key" ∷ codes "kinds" ∷ codes "reta" ∷ codes "sock"
    ∷ codes "filters" ∷ codes "backlog" ∷ codes "start" ∷ codes "limited" ∷ codes "apps"
    ∷ codes "tx" ∷ codes "workers" ∷ codes "tries" ∷ codes "detach" ∷ codes "steps" ∷ []

-- the settings that these parts make up
abbrev pub joined : Parts → PlanSettings
joined parts = record {
  cpus = parts.receive.cpus;
  queues = parts.receive.queues;
  key = parts.receive.key;
  kinds = parts.receive.kinds;
  reta = parts.receive.reta;
  sock = parts.tables.sock;
  filters = parts.tables.filters;
  backlog = parts.tables.backlog;
  start = parts.tables.start;
  limited = parts.tables.limited;
  apps = parts.sends.apps;
  tx = parts.sends.tx;
  workers = parts.sends.workers;
  tries = parts.sends.tries;
  detach = parts.sends.detach;
  steps = parts.steps;
}

-- the numbers of processors, queues and applications in these parts
abbrev pub sizes_with : Receive → Sends → Sizes
sizes_with receive sends =
    record {
      cpus = receive.cpus;
      queues = length receive.queues;
      apps = length sends.apps;
      tx = length sends.tx;
    }

-- the plan of a JSON value, or the first thing that is wrong with it
unfoldable pub settings_in : Data → Result PlanSettings Fault
settings_in d = do
  is ← an_object d
  receive ← receive_of d
  tables ← tables_of receive.cpus d
  sends ← sends_of receive.cpus (length receive.queues) d
  steps ← required (codes "steps") (read_steps (sizes_with receive sends)) d
  none ← only plan_keys d
  Ok (joined (record { receive = receive; tables = tables; sends = sends; steps = steps }))

-- ---- bytes

-- the JSON value of bytes, if they are UTF-8 and JSON
abbrev pub value_of : List ℕ → Option Data
value_of bytes = if is_utf8 bytes then read bytes else None

-- a JSON value if there is one, else the fault that the text is not JSON
abbrev pub json_of : Option Data → Result Data Fault
json_of None = here (Err cause.NotJson)
json_of (Some d) = Ok d

-- the plan of bytes, or the first thing that is wrong with them
abbrev pub settings_of_bytes : List ℕ → Result PlanSettings Fault
settings_of_bytes bytes = do
  d ← json_of (value_of bytes)
  settings_in d

-- the public fault of a cause and the path to it
abbrev pub named_as : Cause → List ℕ → PlanFault
named_as cause.NotJson path = fault.NotJson
named_as cause.Missing path = fault.Missing path
named_as cause.WrongKind path = fault.WrongKind path
named_as (cause.Range n) path = fault.Range path n
named_as cause.UnknownKey path = fault.UnknownKey path
named_as (cause.TooLong n) path = fault.TooLong n

-- a reading with its public fault; the leading slash of the path is dropped
abbrev pub named : {A : Type 0} → Result A Fault → Result A PlanFault
named (Ok read) = Ok read
named (Err found) = Err (named_as found.cause (drop 1 found.path))

-- the plan of bytes, or their public fault
unfoldable pub plan_of : List ℕ → Result PlanSettings PlanFault
plan_of bytes = named (settings_of_bytes bytes)

-- this is the public fault of a refusal
abbrev pub IsNamedOutside : Refusal → PlanFault → Type 0
IsNamedOutside refusal.Memory named = named ≡ fault.OutOfMemory
IsNamedOutside (refusal.Fault found) named = named ≡ named_as found.cause (drop 1 found.path)

-- the settings of a plan
abbrev pub settings_of : Plan → PlanSettings
settings_of plan = record {
  cpus = plan.cpus;
  queues = plan.queues;
  key = plan.key;
  kinds = plan.kinds;
  reta = plan.reta;
  sock = plan.sock;
  filters = plan.filters;
  backlog = plan.backlog;
  start = plan.start;
  limited = plan.limited;
  apps = plan.apps;
  tx = plan.tx;
  workers = plan.workers;
  tries = plan.tries;
  detach = plan.detach;
  steps = plan.steps;
}
