-- What a chain of tests tells by its outcome.
use Rattle.std.proofs.Common.{◌≡◌, ◌⊎◌, inl, inr, Bool, true, false, cond, Result, Ok, Err, refl}
use Rattle.pcapng_reader.specs.declared.fault.NgFault.{NgFault}
use Rattle.pcapng_reader.specs.Contents.{and_then}

-- the side that was taken
pub taken : {X : Type 0} (t : Bool) (x y z : X) → cond t x y ≡ z → ((t ≡ true) × (x ≡ z))
    ⊎ ((t ≡ false) × (y ≡ z))
taken true x y z h = inl (refl, h)
taken false x y z h = inr (refl, h)

-- past a test that gives a fault
pub passed : {X : Type 0} (t : Bool) (e : NgFault) (next : Result X NgFault) (x : X)
    → cond t (Err e) next ≡ Ok x → (t ≡ false) × (next ≡ Ok x)
passed true e next x h = absurd (cc)
passed false e next x h = (refl, h)

pub and_then_ok : {T U : Type 0} (f : T → Result U NgFault) (r : Result T NgFault) (y : U)
    → and_then f r ≡ Ok y → (x : T) × (r ≡ Ok x) × (f x ≡ Ok y)
and_then_ok f (Ok x) y h = (x, refl, h)
and_then_ok f (Err e) y h = absurd (cc)

-- a fault of the first part, or of the second
pub and_then_err : {T U : Type 0} (f : T → Result U NgFault) (r : Result T NgFault) (e : NgFault)
    → and_then f r ≡ Err e
    → (r ≡ Err e) ⊎ ((x : T) × (r ≡ Ok x) × (f x ≡ Err e))
and_then_err f (Ok x) e h = inr (x, refl, h)
and_then_err f (Err d) e h = inl (cc)
