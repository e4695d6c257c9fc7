-- What is wrong with a plan, and where.
use Rattle.std.specs.Prelude.{◌≡◌, ℕ, List, [], ◌∷◌, ◌++◌, Result, Ok, Err}
use Rattle.plan_reader.specs.declared.faults.cause.Cause.{Cause}
use Rattle.plan_reader.specs.declared.faults.fault.Fault.{Fault}
use Rattle.plan_reader.specs.declared.faults.fault.Refusal.{Refusal}
use Rattle.plan_reader.specs.declared.faults.fault.Refusal.TheVariants as refusal

-- a reading at the start of a path
abbrev pub here : {A : Type 0} → Result A Cause → Result A Fault
here (Ok x) = Ok x
here (Err cause) = Err (record { path = []; cause = cause })

-- a reading at a segment of a path; each segment follows a slash
abbrev pub under : {A : Type 0} → List ℕ → Result A Fault → Result A Fault
under segment (Ok x) = Ok x
under segment (Err fault) =
    Err (record { path = 47 ∷ (segment ++ fault.path); cause = fault.cause })

-- a refusal is the fault of a reading; `Memory` says nothing about the reading
abbrev pub Fails : {A : Type 0} → Refusal → Result A Fault → Type 0
Fails refusal.Memory reading = Unit {0}
Fails (refusal.Fault fault) reading = reading ≡ Err fault

-- a result is what a reading gives; `Memory` says nothing about the reading
abbrev pub Gives : {A : Type 0} → Result A Refusal → Result A Fault → Type 0
Gives (Ok x) reading = reading ≡ Ok x
Gives (Err refusal) reading = Fails refusal reading

-- a result stands for what a reading gives, by a function of its value
abbrev pub GivesAs : {A B : Type 0} → (A → B) → Result A Refusal → Result B Fault → Type 0
GivesAs show (Ok x) reading = reading ≡ Ok (show x)
GivesAs show (Err refusal) reading = Fails refusal reading

-- a refusal that is passed on at a segment, unless memory runs out
abbrev pub IsUnder : List ℕ → Refusal → Refusal → Type 0
IsUnder segment refusal.Memory passed = passed ≡ refusal.Memory
IsUnder segment (refusal.Fault fault) refusal.Memory = Unit {0}
IsUnder segment (refusal.Fault fault) (refusal.Fault passed) =
    passed ≡ record { path = 47 ∷ (segment ++ fault.path); cause = fault.cause }

-- a result that is passed on at a segment
abbrev pub IsPlaced : {A : Type 0} → List ℕ → Result A Refusal → Result A Refusal → Type 0
IsPlaced segment (Ok x) passed = passed ≡ Ok x
IsPlaced segment (Err refusal) (Ok x) = ⊥
IsPlaced segment (Err refusal) (Err passed) = IsUnder segment refusal passed

-- a result equals a reading by a function of its value
abbrev pub MapsTo : {A B E : Type 0} → (A → B) → Result A E → Result B E → Type 0
MapsTo show (Ok x) reading = reading ≡ Ok (show x)
MapsTo show (Err e) reading = reading ≡ Err e
