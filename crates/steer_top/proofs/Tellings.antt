-- A line that is written in pieces, and then sent on.
use Rattle.std.proofs.Common.{◌≡◌, ◌<◌, ◌≤◌, ℕ, ◌+◌, List, [], ◌∷◌, ◌++◌, length, take, drop}
use Rattle.std.proofs.Common.{get_or, inl, inr, Option, Result, Ok, Err, length-append, append-nil}
use Rattle.std.proofs.Common.{arith, sym, ap, subst, ◌∙◌}
use Rattle.std.specs.List.{flat_map}
use Rattle.std.specs.Prelude.{OnErr}
use Rattle.std.specs.Io.KnownBytes.{Appends, Keeps}
use Rattle.std.proofs.KnownBytes.{Appends-kept, Appends-trans}
use Rattle.std.proofs.lemmas.List.{take-append-le, take_more, take-append-drop}
use Rattle.std.proofs.lemmas.Grind.{flat_map-append}
use Rattle.std.proofs.Math.Seq.{take-append-add}
use Rattle.outside_io.specs.Sink.{AppendsSome}
use Rattle.steer_top.specs.Endings.{Told}

-- a prefix of the first piece is a prefix of the line
pub AppendsSome-first : (w w' : Option (List ℕ)) (x y : List ℕ) → AppendsSome w w' x
    → AppendsSome w w' (x ++ y)
AppendsSome-first w w' x y (n, within, some) = (
  n,
  omega (arith, length-append x y),
  subst (Appends w w')
      (sym (take-append-le n x y within)) some,
)

-- the first piece and then a prefix of the rest are a prefix of the line
pub AppendsSome-next : (w w' w'' : Option (List ℕ)) (x y : List ℕ) → Appends w w' x
    → AppendsSome w' w'' y → AppendsSome w w'' (x ++ y)
AppendsSome-next w w' w'' x y first (n, within, some) = (
  length x + n,
  omega (arith, length-append x y),
  subst (Appends w w'') (sym (take-append-add x y n))
      (Appends-trans w w' w'' x (take n y) first some),
)

-- a prefix that was written stays so where the bytes are kept
pub AppendsSome-kept : (w w' w'' : Option (List ℕ)) (x : List ℕ) → AppendsSome w w' x → Keeps w' w''
    → AppendsSome w w'' x
AppendsSome-kept w w' w'' x (n, within, took) kept =
    (n, within, Appends-kept w w' w'' (take n x) took kept)

-- a line that was taken stays so behind a call that keeps the bytes
pub Told-kept : (f f' f'' : ℕ) (w w' w'' : Option (List ℕ)) (line : List ℕ) → Told f f' w w' line
    → f' ≤ f'' → Keeps w' w'' → Told f f'' w w'' line
Told-kept f f' f'' w w' w'' line told later kept = record {
  later = omega (arith, told.later, later);
  took = elim told.took [
    | inl all ↦ inl (Appends-kept w w' w'' line all kept)
    | inr (rose, some) ↦
        inr (omega (arith, rose, later), AppendsSome-kept w w' w'' line some kept)
  ];
}

-- what holds anyhow holds at an error
pub OnErr-of : {T E : Type 0} (r : Result T E) (P : Type 0) → P → OnErr r P
OnErr-of (Ok x) P p = tt
OnErr-of (Err e) P p = p

pub OnErr-map : {T E : Type 0} (r : Result T E) (P Q : Type 0) → (P → Q) → OnErr r P → OnErr r Q
OnErr-map (Ok x) P Q f p = tt
OnErr-map (Err e) P Q f p = f p

-- the pieces so far, the next one, and those behind it
pub flat_map_split : {X : Type 0} (f : X → List ℕ) (n : ℕ) (xs : List X) (d : X) → n < length xs
    → (flat_map f (take n xs) ++ f (get_or xs n d)) ++ flat_map f (drop (n + 1) xs) ≡ flat_map f xs
flat_map_split f n xs d inside =
    let next : flat_map f (take (n + 1) xs) ≡ flat_map f (take n xs) ++ f (get_or xs n d) =
    ap (flat_map f) (take_more xs n d inside) ∙ flat_map-append f (take n xs) (get_or xs n d ∷ [])
    ∙ ap (λ t. flat_map f (take n xs) ++ t) (append-nil (f (get_or xs n d))) in
    ap (λ t. t ++ flat_map f (drop (n + 1) xs)) (sym next)
    ∙ sym (flat_map-append f (take (n + 1) xs) (drop (n + 1) xs))
    ∙ ap (flat_map f) (take-append-drop (n + 1) xs)
