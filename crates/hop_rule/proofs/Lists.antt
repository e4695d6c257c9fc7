-- Options, and members of lists.
use Rattle.std.specs.Option.{unwrap_or}
use Rattle.hop_rule.proofs.Names.{◌≡◌, ℕ, zero, suc, ◌<◌, List, [], ◌∷◌, length, ap, arith, Some}
use Rattle.hop_rule.proofs.Names.{None, get_or, slice_get}

pub some-is : {A : Type 0} (x y : A) → Some x ≡ Some y → x ≡ y
some-is x y e = ap (λ o. unwrap_or o x) e

pub none-some : {A B : Type 0} (x : A) → None ≡ Some x → B
none-some x e = cc

pub get-inside : (xs : List ℕ) (i x : ℕ) → slice_get xs i ≡ Some x → (i < length xs)
    × (get_or xs i 0 ≡ x)
get-inside [] i x e = none-some x e
get-inside (y ∷ ys) zero x e = (omega arith, some-is y x e)
get-inside (y ∷ ys) (suc i) x e = let t = get-inside ys i x e in let l = t.0 in (omega arith, t.1)
