-- Texts that are written piece by piece.
use Rattle.std.proofs.Common.{◌≡◌, ℕ, suc, ◌+◌, List, [], ◌∷◌, ◌++◌, Option, length, take, sym, ap}
use Rattle.std.proofs.Common.{◌∙◌, subst, arith, append_assoc, length-append}
use Rattle.std.specs.Io.KnownBytes.{Appends}
use Rattle.std.proofs.KnownBytes.{Appends-trans}
use Rattle.std.proofs.lemmas.List.{take-append-le}
use Rattle.outside_io.specs.Sink.{AppendsSome}
use Rattle.report.specs.Written.{Stopped, Wrote}

-- the sink took all of a text but the rest
pub record Goes (old new : Option (List ℕ)) (before now : ℕ) (all rest : List ℕ) : Type 0 where
  pub done : List ℕ
  pub wrote : Wrote old new before now done
  pub left : done ++ rest ≡ all

-- one text and then another
pub Wrote-then : {a b c : Option (List ℕ)} {n m k : ℕ} {s t : List ℕ} → Wrote a b n m s
    → Wrote b c m k t → Wrote a c n k (s ++ t)
Wrote-then {a = a} {b = b} {c = c} {s = s} {t = t} p q = record {
  whole = Appends-trans a b c s t p.whole q.whole;
  later = omega (arith, p.later, q.later);
}

take_past : (xs ys : List ℕ) (n : ℕ) → take (length xs + n) (xs ++ ys) ≡ xs ++ take n ys
take_past [] ys n = let none : 0 + n ≡ n = omega arith in ap (λ m. take m ys) none
take_past (x ∷ xs) ys n =
    let next : suc (length xs) + n ≡ suc (length xs + n) = omega arith in
    ap (λ m. take m (x ∷ (xs ++ ys))) next ∙ ap (λ r. x ∷ r) (take_past xs ys n)

some_after : (a b c : Option (List ℕ)) (s t : List ℕ) → Appends a b s → AppendsSome b c t
    → AppendsSome a c (s ++ t)
some_after a b c s t p q = (
  length s + q.0,
  omega (arith, q.1, length-append s t),
  subst (λ r. Appends a c r)
      (sym (take_past s t q.0)) (Appends-trans a b c s (take q.0 t) p q.2),
)

some_of : (a b : Option (List ℕ)) (s more : List ℕ) → AppendsSome a b s → AppendsSome a b
    (s ++ more)
some_of a b s more q = (
  q.0,
  omega (arith, q.1, length-append s more),
  subst (λ r. Appends a b r)
      (sym (take-append-le q.0 s more q.1)) q.2,
)

-- one text and then a beginning of another
pub Stopped-then : {a b c : Option (List ℕ)} {n m k : ℕ} {s t : List ℕ} → Wrote a b n m s
    → Stopped b c m k t → Stopped a c n k (s ++ t)
Stopped-then {a = a} {b = b} {c = c} {s = s} {t = t} p q = record {
  part = some_after a b c s t p.whole q.part;
  fault = omega (arith, p.later, q.fault);
}

-- a beginning of a text is one of a longer text
pub Stopped-more : {a b : Option (List ℕ)} {n m : ℕ} {s : List ℕ} (more : List ℕ)
    → Stopped a b n m s → Stopped a b n m (s ++ more)
Stopped-more {a = a} {b = b} {s = s} more q = record {
  part = some_of a b s more q.part;
  fault = q.fault;
}

-- the first text of the rest was written
pub Goes-next : {a b c : Option (List ℕ)} {n m k : ℕ} {all rest more t : List ℕ}
    → Goes a b n m all rest → rest ≡ t ++ more → Wrote b c m k t
    → Goes a c n k all more
Goes-next {more = more} {t = t} g e w = record {
  done = g.done ++ t;
  wrote = Wrote-then g.wrote w;
  left = append_assoc g.done t more ∙ ap (λ r. g.done ++ r) (sym e) ∙ g.left;
}

-- a beginning of it was
pub Goes-stop : {a b c : Option (List ℕ)} {n m k : ℕ} {all rest t : List ℕ} (more : List ℕ)
    → Goes a b n m all rest → rest ≡ t ++ more → Stopped b c m k t
    → Stopped a c n k all
Goes-stop {a = a} {c = c} {n = n} {k = k} more g e s =
    subst (λ r. Stopped a c n k r) (ap (λ r. g.done ++ r) (sym e) ∙ g.left)
    (Stopped-then g.wrote (Stopped-more more s))

-- the same text
pub Wrote-is : {a b : Option (List ℕ)} {n m : ℕ} {s : List ℕ} (t : List ℕ) → s ≡ t → Wrote a b n m s
    → Wrote a b n m t
Wrote-is {a = a} {b = b} {n = n} {m = m} t e w = subst (λ r. Wrote a b n m r) e w

pub Stopped-is : {a b : Option (List ℕ)} {n m : ℕ} {s : List ℕ} (t : List ℕ) → s ≡ t
    → Stopped a b n m s → Stopped a b n m t
Stopped-is {a = a} {b = b} {n = n} {m = m} t e q = subst (λ r. Stopped a b n m r) e q
