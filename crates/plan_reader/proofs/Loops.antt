-- The members of a list that were read, before those that are left.
use Rattle.std.proofs.Common.{◌≡◌, ℕ, ◌+◌, List, [], ◌∷◌, ◌++◌, Result, Ok, Err, refl, sym, ap, ◌∙◌}
use Rattle.std.proofs.Common.{append_assoc}
use Rattle.std.specs.Fmt.{decimal}
use Rattle.serde_json.specs.Data.{Data, Items, item}
use Rattle.plan_reader.specs.declared.faults.fault.Fault.{Fault}
use Rattle.plan_reader.specs.declared.faults.fault.Refusal.{Refusal}
use Rattle.plan_reader.specs.declared.faults.fault.Refusal.TheVariants as refusal
use Rattle.plan_reader.specs.Causes.{◌>>=◌}
use Rattle.plan_reader.specs.Faults.{under, Fails}
use Rattle.plan_reader.specs.Readings.{each}

abbrev pub with_front : {A : Type 0} → List A → Result (List A) Fault → Result (List A) Fault
with_front done (Ok rest) = Ok (done ++ rest)
with_front done (Err fault) = Err fault

with_front_more : {A : Type 0} (done : List A) (x : A) (rest : Result (List A) Fault) → with_front
    (done ++ x ∷ []) rest ≡ with_front done (rest >>= (λ others. Ok (x ∷ others)))
with_front_more done x (Ok rest) = ap Ok (append_assoc done (x ∷ []) rest)
with_front_more done x (Err fault) = refl

-- a member more was read
pub goes_on : {A : Type 0} (read : Data → Result A Fault) (done : List A) (x : A) (position : ℕ)
    (d : Data) (ds : Items) (all : Result (List A) Fault)
    → under (decimal position) (read d) ≡ Ok x → with_front done
    (each read position (item d ds)) ≡ all → with_front (done ++ x ∷ [])
    (each read (position + 1) ds) ≡ all
goes_on read done x position d ds all e h =
    with_front_more done x (each read (position + 1) ds)
    ∙ ap (λ (r : Result _ Fault). with_front done (r >>= (λ first. each read (position + 1) ds >>=
    (λ others. Ok (first ∷ others))))) (sym e) ∙ h

-- a member is refused
pub ends : {A : Type 0} (read : Data → Result A Fault) (done : List A) (position : ℕ) (d : Data)
    (ds : Items) (all : Result (List A) Fault) (e : Refusal)
    → Fails e (under (decimal position) (read d)) → with_front done
    (each read position (item d ds)) ≡ all → Fails e all
ends read done position d ds all refusal.Memory h k = tt
ends read done position d ds all (refusal.Fault f) h k =
    sym k ∙ ap (λ (r : Result _ Fault). with_front done
    (r >>= (λ first. each read (position + 1) ds >>= (λ others. Ok (first ∷ others))))) h
