-- Tests of numbers that are below others.
use Rattle.std.proofs.Common.{ℕ, ◌<◌, ◌≡◌, Bool, true, false, refl}
use Rattle.std.specs.Prelude.{◌&&◌, nat_lt}
use Rattle.std.proofs.lemmas.Bool.{ltb-true}

both : (a b : Bool) → (a && b) ≡ true → (a ≡ true) × (b ≡ true)
both true true e = (refl, refl)
both true false e = absurd (cc)
both false b e = absurd (cc)

pub first-below : (i m : ℕ) (b : Bool) → (nat_lt i m && b) ≡ true → i < m
first-below i m b e = ltb-true i m (both (nat_lt i m) b e).0

pub both-below : (i m j n : ℕ) → (nat_lt i m && nat_lt j n) ≡ true → (i < m) × (j < n)
both-below i m j n e =
    let w = both (nat_lt i m) (nat_lt j n) e in (ltb-true i m w.0, ltb-true j n w.1)
