-- A list of rows is found again in its text.
use Rattle.std.proofs.Common.{◌≡◌, ◌⊎◌, ℕ, List, [], ◌∷◌, ◌++◌, length, refl, sym, ap, ◌∙◌, arith}
use Rattle.std.proofs.Common.{append_assoc, inl, inr, get_or, Bool, true, false, not}
use Rattle.std.specs.Prelude.{◌==◌, ◌&&◌, codes}
use Rattle.std.proofs.lemmas.Bool.{eq-eqb}
use Rattle.std.proofs.lemmas.Fmt.{decimal_injective}
use Rattle.report.specs.Texts.{Row, word, fields, body, further, row_text, text_of, IsField}
use Rattle.report.specs.Texts.{AreFields, IsRow, AreRows}
use Rattle.report.specs.Texts.Row.{Line, Tap}
use Rattle.report.proofs.Digits.{decimal-IsField}

abbrev pub front : ℕ → List ℕ → ℕ
front d [] = d
front d (x ∷ xs) = x

abbrev pub rear : List ℕ → List ℕ
rear [] = []
rear (x ∷ xs) = xs

-- a space or a line feed comes first
abbrev IsCut : List ℕ → Type 0
IsCut [] = ⊥
IsCut (x ∷ xs) = (x ≡ 32) ⊎ (x ≡ 10)

-- what stands before the first cut, and from it on
cut : (f g r s : List ℕ) → IsField f → IsField g → IsCut r → IsCut s → f ++ r ≡ g ++ s → (f ≡ g)
    × (r ≡ s)
cut [] [] r s a b c d e = (refl, e)
cut [] (y ∷ g) [] s a b c d e = absurd c
cut [] (y ∷ g) (x ∷ r) s a b (inl c) d e = absurd (b.0 (sym (ap (front 0) e) ∙ c))
cut [] (y ∷ g) (x ∷ r) s a b (inr c) d e = absurd (b.1 (sym (ap (front 0) e) ∙ c))
cut (x ∷ f) [] r [] a b c d e = absurd d
cut (x ∷ f) [] r (y ∷ s) a b c (inl d) e = absurd (a.0 (ap (front 0) e ∙ d))
cut (x ∷ f) [] r (y ∷ s) a b c (inr d) e = absurd (a.1 (ap (front 0) e ∙ d))
cut (x ∷ f) (y ∷ g) r s a b c d e = let rest = cut f g r s a.2 b.2 c d (ap rear e) in
    ((λ i. ap (front 0) e i ∷ rest.0 i), rest.1)

cut-further : (fs : List (List ℕ)) (t : List ℕ) → IsCut (further fs ++ t)
cut-further [] t = inr refl
cut-further (f ∷ fs) t = inl refl

-- further fields, and what follows their line
same_further : (fs gs : List (List ℕ)) (t u : List ℕ) → AreFields fs → AreFields gs → further fs
    ++ t ≡ further gs ++ u → (fs ≡ gs) × (t ≡ u)
same_further [] [] t u a b e = (refl, ap rear e)
same_further [] (g ∷ gs) t u a b e = let f : 10 ≡ 32 = ap (front 0) e in absurd (omega (arith, f))
same_further (f ∷ fs) [] t u a b e = let g : 32 ≡ 10 = ap (front 0) e in absurd (omega (arith, g))
same_further (f ∷ fs) (g ∷ gs) t u a b e =
    let tails : f ++ further fs ++ t ≡ g ++ further gs ++ u = ap rear e in
    let grouped : f ++ (further fs ++ t) ≡ g ++ (further gs ++ u) =
    sym (append_assoc f (further fs) t) ∙ tails ∙ append_assoc g (further gs) u in
    let both = cut f g (further fs ++ t) (further gs ++ u) a.0 b.0 (cut-further fs t)
    (cut-further gs u) grouped in
    let rest = same_further fs gs t u a.1 b.1 both.1 in
    ((λ i. both.0 i ∷ rest.0 i), rest.1)

same_line : (f g : List ℕ) (fs gs : List (List ℕ)) (t u : List ℕ) → IsField f → IsField g
    → AreFields fs → AreFields gs
    → f ++ further fs ++ t ≡ g ++ further gs ++ u → (f ≡ g) × (fs ≡ gs) × (t ≡ u)
same_line f g fs gs t u p q a b e =
    let grouped : f ++ (further fs ++ t) ≡ g ++ (further gs ++ u) =
    sym (append_assoc f (further fs) t) ∙ e ∙ append_assoc g (further gs) u in
    let both = cut f g (further fs ++ t) (further gs ++ u) p q (cut-further fs t)
    (cut-further gs u) grouped in
    let rest = same_further fs gs t u a b both.1 in
    (both.0, rest.0, rest.1)

-- two lists of one length before two others
same_front : (xs ys t u : List ℕ) → length xs ≡ length ys → xs ++ t ≡ ys ++ u → (xs ≡ ys) × (t ≡ u)
same_front [] [] t u l e = (refl, e)
same_front [] (y ∷ ys) t u l e = absurd (omega (arith, l))
same_front (x ∷ xs) [] t u l e = absurd (omega (arith, l))
same_front (x ∷ xs) (y ∷ ys) t u l e =
    let rest = same_front xs ys t u (omega (arith, l)) (ap rear e) in
    ((λ i. ap (front 0) e i ∷ rest.0 i), rest.1)

abbrev pub is_field : List ℕ → Bool
is_field [] = true
is_field (x ∷ xs) = not (x == 32) && not (x == 10) && is_field xs

differs : (x y : ℕ) → x ≡ y → not (x == y) ≡ true → ⊥
differs x y e h = let f : (x == y) ≡ true = eq-eqb x y e in let g : not (x == y) ≡ false =
    rw f refl in cc

both_true : (a b : Bool) → (a && b) ≡ true → (a ≡ true) × (b ≡ true)
both_true true b e = (refl, e)
both_true false b e = absurd (cc)

-- texts that are written out are fields by a test
pub word-IsField : (xs : List ℕ) → is_field xs ≡ true → IsField xs
word-IsField [] e = tt
word-IsField (x ∷ xs) e =
    let a = both_true (not (x == 32) && not (x == 10)) (is_field xs) e in
    let b = both_true (not (x == 32)) (not (x == 10)) a.0 in
    ((λ f. differs x 32 f b.0), (λ f. differs x 10 f b.1), word-IsField xs a.1)

row-word : (r : Row) → IsRow r → IsField (word r)
row-word (Line f fs) h = h.0
row-word (Tap k bytes) h = word-IsField (codes "tap") refl

row-fields : (r : Row) → IsRow r → AreFields (fields r)
row-fields (Line f fs) h = h.1
row-fields (Tap k bytes) h =
    (decimal-IsField k, (word-IsField (codes "bytes") refl, (decimal-IsField (length bytes), tt)))

abbrev field : ℕ → List (List ℕ) → List ℕ
field i fs = get_or fs i []

-- the row from its line and what follows
same_body : (r s : Row) (t u : List ℕ) → IsRow r → IsRow s → word r ≡ word s → fields r ≡ fields s
    → body r ++ t ≡ body s ++ u → (r ≡ s) × (t ≡ u)
same_body (Line f fs) (Line g gs) t u a b w r e = ((λ k. Line (w k) (r k)), e)
same_body (Line f fs) (Tap k bytes) t u a b w r e = absurd (a.2 w)
same_body (Tap k bytes) (Line g gs) t u a b w r e = absurd (b.2 (sym w))
same_body (Tap k xs) (Tap l ys) t u a b w r e =
    let number : k ≡ l = decimal_injective k l a.0 b.0 (ap (field 0) r) in
    let long : length xs ≡ length ys = decimal_injective (length xs) (length ys) a.1 b.1
    (ap (field 2) r) in
    let both = same_front xs ys t u long e in
    ((λ i. Tap (number i) (both.0 i)), both.1)

same_row : (r s : Row) (t u : List ℕ) → IsRow r → IsRow s → row_text r ++ t ≡ row_text s ++ u
    → (r ≡ s) × (t ≡ u)
same_row r s t u a b e =
    let grouped : word r ++ further (fields r) ++ (body r ++ t) ≡ word s ++ further (fields s)
    ++ (body s ++ u) =
    sym (append_assoc (word r ++ further (fields r)) (body r) t) ∙ e ∙ append_assoc
    (word s ++ further (fields s)) (body s) u in
    let line = same_line (word r) (word s) (fields r) (fields s) (body r ++ t) (body s ++ u)
    (row-word r a) (row-word s b) (row-fields r a) (row-fields s b) grouped in
    same_body r s t u a b line.0 line.1 line.2

some_text : (f : List ℕ) (fs : List (List ℕ)) (b t : List ℕ) → [] ≡ f ++ further fs ++ b ++ t → ⊥
some_text [] [] b t e = cc
some_text [] (g ∷ gs) b t e = cc
some_text (x ∷ f) fs b t e = cc

-- Two lists of rows are equal where their texts are.
pub same_rows : (rows others : List Row) → AreRows rows → AreRows others
    → text_of rows ≡ text_of others → rows ≡ others
same_rows [] [] a b e = refl
same_rows [] (s ∷ ss) a b e = absurd (some_text (word s) (fields s) (body s) (text_of ss) e)
same_rows (r ∷ rs) [] a b e = absurd (some_text (word r) (fields r) (body r) (text_of rs) (sym e))
same_rows (r ∷ rs) (s ∷ ss) a b e =
    let both = same_row r s (text_of rs) (text_of ss) a.0 b.0 e in
    let rest = same_rows rs ss a.1 b.1 both.1 in
    λ i. both.0 i ∷ rest i
