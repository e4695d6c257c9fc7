-- What is passed on at a segment of a path.
use Rattle.std.proofs.Common.{◌≡◌, ℕ, List, Result, Ok, Err, IfOk, refl, sym, subst, ap}
use Rattle.plan_reader.specs.declared.faults.cause.Cause.{Cause}
use Rattle.plan_reader.specs.declared.faults.fault.Fault.{Fault}
use Rattle.plan_reader.specs.declared.faults.fault.Refusal.{Refusal}
use Rattle.plan_reader.specs.declared.faults.fault.Refusal.TheVariants as refusal
use Rattle.plan_reader.specs.Faults.{here, under, Fails, Gives, GivesAs, IsUnder, IsPlaced}

pub fails_under : {A : Type 0} (segment : List ℕ) (e passed : Refusal) (reading : Result A Fault)
    → Fails e reading → IsUnder segment e passed → Fails passed (under segment reading)
fails_under segment refusal.Memory passed reading h k = subst (λ p. Fails p (under segment reading))
    (sym k) tt
fails_under segment (refusal.Fault f) refusal.Memory reading h k = tt
fails_under segment (refusal.Fault f) (refusal.Fault g) reading h k = rw h (ap Err (sym k))

-- what was answered at a segment is what the reading gives there
pub gives_placed : {A : Type 0} (segment : List ℕ) (answer passed : Result A Refusal)
    (reading : Result A Fault) → Gives answer reading → IsPlaced segment answer passed
    → Gives passed (under segment reading)
gives_placed segment (Ok x) passed reading h k = subst (λ p. Gives p (under segment reading))
    (sym k) (rw h refl)
gives_placed segment (Err e) (Ok x) reading h k = absurd k
gives_placed segment (Err e) (Err p) reading h k = fails_under segment e p reading h k

-- and a fact of the value stays
pub if_placed : {A : Type 0} (segment : List ℕ) (P : A → Type 0) (answer passed : Result A Refusal)
    → IfOk answer P → IsPlaced segment answer passed → IfOk passed P
if_placed segment P (Ok x) passed h k = subst (λ p. IfOk p P) (sym k) h
if_placed segment P (Err e) (Ok x) h k = absurd k
if_placed segment P (Err e) (Err p) h k = tt

-- an answer at a segment is one where the value stands
pub under_here_ok : {A : Type 0} (segment : List ℕ) (r : Result A Cause) (x : A) → under segment
    (here r) ≡ Ok x → r ≡ Ok x
under_here_ok segment (Ok y) x e = cc
under_here_ok segment (Err cause) x e = cc

-- a cause where the value stands says nothing of what the value would stand for
pub gives_none : {A B : Type 0} (show : A → B) (cause : Cause) (r : Result A Refusal)
    (reading : Result B Fault) → reading ≡ here (Err cause) → Gives r (here (Err cause))
    → GivesAs show r reading
gives_none show cause (Ok x) reading e h = absurd cc
gives_none show cause (Err refusal.Memory) reading e h = tt
gives_none show cause (Err (refusal.Fault fault)) reading e h = cc
