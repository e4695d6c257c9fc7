use Rattle.std.proofs.Common.{ℕ, ◌<◌, ◌≡◌, List, [], ◌∷◌, ◌++◌, length, refl, get_or, set, map}
use Rattle.std.proofs.Math.Seq.{map-set}
use Rattle.std.proofs.lemmas.List.{get_or-map}

-- one list of many was lengthened
pub map-pushed : {V X : Type 0} (f : V → List X) (vs : List V) (i : ℕ) (v d : V) (x : X)
    → i < length vs → f v ≡ f (get_or vs i d) ++ x ∷ []
    → map f (set vs i v) ≡ set (map f vs) i (get_or (map f vs) i [] ++ x ∷ [])
map-pushed f vs i v d x in' e = rw (map-set f vs i v, e, get_or-map f vs i d [] in') refl
