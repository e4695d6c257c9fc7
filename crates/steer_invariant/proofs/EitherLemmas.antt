-- What holds on both sides of a test holds of what the test gives.
use Rattle.std.proofs.Common.{◌≡◌, Bool, true, false, cond, refl}

pub either : {X : Type 0} (Q : X → Type 0) (b : Bool) (x y : X) → (b ≡ true → Q x)
    → (b ≡ false → Q y) → Q (cond b x y)
either Q true x y f g = f refl
either Q false x y f g = g refl
