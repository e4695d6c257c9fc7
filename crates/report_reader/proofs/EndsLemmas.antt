-- Where a field ends.
use Rattle.std.proofs.Common.{ℕ, zero, suc, ◌≡◌, ◌≢◌, ◌≤◌, ◌<◌, ◌+◌, ◌-◌, ◌++◌, ◌⊎◌, List, [], ◌∷◌}
use Rattle.std.proofs.Common.{length, take, drop, refl, ap, ◌∙◌, sym, arith, get_or, inl, inr}
use Rattle.std.proofs.Common.{subst, append_assoc, map}
use Rattle.std.proofs.Math.Seq.{get_or-append_seam, take-append_seam}
use Rattle.std.proofs.Math.ListN.{get_or-append}
use Rattle.std.proofs.lemmas.List.{get_or-drop, length-append, length-drop, length-map}
use Rattle.std.proofs.lemmas.Bool.{cases_lt}
use Rattle.report.specs.Texts.{AreFields, IsField, further}
use Rattle.report_reader.specs.Ends.{Going, IsEnd, piece}

field-at : (f : List ℕ) → IsField f → (j : ℕ) → j < length f → (get_or f j 0 ≢ 32)
    × (get_or f j 0 ≢ 10)
field-at [] h j l = absurd (omega (arith, l))
field-at (x ∷ f) h zero l = (h.0, h.1)
field-at (x ∷ f) h (suc j) l = field-at f h.2 j (omega (arith, l))

not_cut : (x : ℕ) → x ≢ 32 → x ≢ 10 → (x ≡ 32) ⊎ (x ≡ 10) → ⊥
not_cut x a b (inl e) = a e
not_cut x a b (inr e) = b e

module _ (bytes next tail : List ℕ) (start end s : ℕ) (is : IsEnd bytes start end)
    (text : drop start bytes ≡ next ++ (s ∷ tail))
    (field : IsField next) (cut : (s ≡ 32) ⊎ (s ≡ 10)) where
  at : (j : ℕ) → get_or bytes (start + j) 0 ≡ get_or (next ++ (s ∷ tail)) j 0
  at j = sym (get_or-drop start bytes j 0) ∙ ap (λ l. get_or l j 0) text

  long : start + (length next + suc (length tail)) ≤ length bytes
  long =
      let n : length (drop start bytes) ≡ length next + suc (length tail) = ap length text
      ∙ length-append next (s ∷ tail) in
      omega (arith, n, length-drop start bytes)

  early : end < start + length next → ⊥
  early l =
      let behind = is.behind in
      let j : end - start < length next = omega (arith, l, behind) in
      let e : start + (end - start) ≡ end = omega (arith, behind) in
      let f = field-at next field (end - start) j in
      let here : get_or bytes end 0 ≡ get_or next (end - start) 0 =
      ap (λ k. get_or bytes k 0) (sym e) ∙ at (end - start) ∙ get_or-append next (s ∷ tail) 0
      (end - start) j in
      not_cut (get_or next (end - start) 0) f.0 f.1
      (subst (λ x. (x ≡ 32) ⊎ (x ≡ 10)) here (is.stop (omega (arith, l, long))))

  late : start + length next < end → ⊥
  late l =
      let p = is.plain (start + length next) (omega arith) l in
      let here : get_or bytes (start + length next) 0 ≡ s = at (length next)
      ∙ get_or-append_seam next s tail 0 in
      not_cut s (λ e. p.0 (here ∙ e)) (λ e. p.1 (here ∙ e)) cut

  pub end-is : end ≡ start + length next
  end-is = elim (cases_lt end (start + length next)) [
    | inl l ↦ absurd (early l)
    | inr l ↦ elim (cases_lt (start + length next) end) [
      | inl k ↦ absurd (late k)
      | inr k ↦ omega (arith, l, k)
    ]
  ]

  -- the byte there, and what stands before and behind it
  pub cut-is : (end < length bytes) × (get_or bytes end 0 ≡ s)
  cut-is = (
    omega (arith, end-is, long),
    ap (λ k. get_or bytes k 0) end-is ∙ at (length next)
        ∙ get_or-append_seam next s tail 0,
  )

  pub piece-is : take (end - start) (drop start bytes) ≡ next
  piece-is =
      let n : end - start ≡ length next = omega (arith, end-is) in
      ap (λ k. take k (drop start bytes)) n ∙ ap (take (length next)) text
      ∙ take-append_seam next (s ∷ tail)

drop-none : (n : ℕ) (l : List ℕ) → l ≡ [] → drop n l ≡ []
drop-none zero l e = e
drop-none (suc n) [] e = refl
drop-none (suc n) (x ∷ l) e = absurd (cc)

pub drop-plus : (m n k : ℕ) (l : List ℕ) → k ≡ m + n → drop k l ≡ drop n (drop m l)
drop-plus zero n k l e = let f : k ≡ n = omega (arith, e) in ap (λ i. drop i l) f
drop-plus (suc m) n zero l e = absurd (omega (arith, e))
drop-plus (suc m) n (suc k) [] e = sym (drop-none n [] refl)
drop-plus (suc m) n (suc k) (x ∷ l) e = drop-plus m n k l (omega (arith, e))

behind : (xs ys : List ℕ) (s : ℕ) → drop (suc (length xs)) (xs ++ (s ∷ ys)) ≡ ys
behind [] ys s = refl
behind (x ∷ xs) ys s = behind xs ys s

-- what follows a field and its separator
pub follows : (bytes next tail : List ℕ) (start end s : ℕ) → end ≡ start + length next
    → drop start bytes ≡ next ++ (s ∷ tail) → drop (end + 1) bytes ≡ tail
follows bytes next tail start end s e t =
    drop-plus start (suc (length next)) (end + 1) bytes (omega (arith, e))
    ∙ ap (drop (suc (length next))) t ∙ behind next tail s

pub parts-on : (done : List (List ℕ)) (x : List ℕ) (more : List (List ℕ))
    → (done ++ (x ∷ [])) ++ more ≡ done ++ (x ∷ more)
parts-on [] x more = refl
parts-on (y ∷ done) x more = ap (λ l. y ∷ l) (parts-on done x more)

going-whole : (bytes next tail : List ℕ) (start end s : ℕ) → IsEnd bytes start end
    → drop start bytes ≡ next ++ (s ∷ tail) → IsField next
    → (s ≡ 32) ⊎ (s ≡ 10) → end < length bytes
going-whole bytes next tail start end s is t f c = (cut-is bytes next tail start end s is t f c).0

pub going-in : (bytes : List ℕ) (start end : ℕ) (done all : List (List ℕ)) (rest : List ℕ)
    → IsEnd bytes start end → Going bytes start done all rest → end < length bytes
going-in bytes start end done all rest is g = by g.more g.text
  where
    by : (more : List (List ℕ)) → drop start bytes ≡ g.next ++ (further more ++ rest)
        → end < length bytes
    by [] t = going-whole bytes g.next rest start end 10 is t g.is_field (inr refl)
    by (f ∷ fs) t = going-whole bytes g.next ((f ++ further fs) ++ rest) start end 32 is t
        g.is_field (inl refl)

-- the next field of a line
pub piece-by : (bytes : List ℕ) (start end : ℕ) (rest next : List ℕ) (more : List (List ℕ))
    → IsEnd bytes start end → drop start bytes ≡ next ++ (further more ++ rest) → IsField next
    → piece bytes start end ≡ next
piece-by bytes start end rest next [] is t f =
    piece-is bytes next rest start end 10 is t f (inr refl)
piece-by bytes start end rest next (g ∷ gs) is t f =
    piece-is bytes next ((g ++ further gs) ++ rest) start end 32 is t f (inl refl)

ten : (x : ℕ) → x ≡ 10 → x ≡ 32 → ⊥
ten x a b = omega (arith, a, b)

last-by : (bytes : List ℕ) (start end : ℕ) (done all : List (List ℕ)) (rest next : List ℕ)
    (more : List (List ℕ)) → IsEnd bytes start end
    → done ++ (next ∷ more) ≡ all → drop start bytes ≡ next ++ (further more ++ rest) → IsField next
    → get_or bytes end 0 ≡ 10
    → (done ++ (piece bytes start end ∷ []) ≡ all) × (drop (end + 1) bytes ≡ rest)
last-by bytes start end done all rest next [] is p t f e = (
  ap (λ x. done ++ (x ∷ [])) (piece-is bytes next rest start end 10 is t f (inr refl)) ∙ p,
  follows bytes next rest start end 10 (end-is bytes next rest start end 10 is t f (inr refl)) t,
)
last-by bytes start end done all rest next (g ∷ gs) is p t f e =
    absurd (ten (get_or bytes end 0) e (cut-is bytes next ((g ++ further gs) ++ rest) start end 32
    is t f (inl refl)).1)

pub going-last : (bytes : List ℕ) (start end : ℕ) (done all : List (List ℕ)) (rest : List ℕ)
    → IsEnd bytes start end → Going bytes start done all rest
    → get_or bytes end 0 ≡ 10 → (done ++ (piece bytes start end ∷ []) ≡ all)
    × (drop (end + 1) bytes ≡ rest)
going-last bytes start end done all rest is g e = last-by bytes start end done all rest g.next
    g.more is g.parts g.text g.is_field e

next-by : (bytes : List ℕ) (start end : ℕ) (done all : List (List ℕ)) (rest next : List ℕ)
    (more : List (List ℕ)) → IsEnd bytes start end
    → done ++ (next ∷ more) ≡ all → drop start bytes ≡ next ++ (further more ++ rest) → IsField next
    → AreFields more → (get_or bytes end 0 ≡ 10 → ⊥)
    → Going bytes (end + 1) (done ++ (piece bytes start end ∷ [])) all rest
next-by bytes start end done all rest next [] is p t f fs e =
    absurd (e (cut-is bytes next rest start end 10 is t f (inr refl)).1)
next-by bytes start end done all rest next (g ∷ gs) is p t f fs e =
    let tail = (g ++ further gs) ++ rest in
    let same = piece-is bytes next tail start end 32 is t f (inl refl) in
    record {
      next = g;
      more = gs;
      parts = parts-on done (piece bytes start end) (g ∷ gs) ∙ ap (λ x. done ++ (x ∷ g ∷ gs)) same
          ∙ p;
      text = follows bytes next tail start end 32 (end-is bytes next tail start end 32 is t f
          (inl refl)) t ∙ append_assoc g (further gs) rest;
      is_field = fs.0;
      are_fields = fs.1;
    }

pub going-next : (bytes : List ℕ) (start end : ℕ) (done all : List (List ℕ)) (rest : List ℕ)
    → IsEnd bytes start end → Going bytes start done all rest
    → (get_or bytes end 0 ≡ 10 → ⊥) → Going bytes (end + 1) (done ++ (piece bytes start end ∷ []))
    all rest
going-next bytes start end done all rest is g e = next-by bytes start end done all rest g.next
    g.more is g.parts g.text g.is_field g.are_fields e

some-text : (next tail : List ℕ) (s : ℕ) → [] ≡ next ++ (s ∷ tail) → ⊥
some-text [] tail s e = cc
some-text (x ∷ next) tail s e = cc

pub going-none : (bytes : List ℕ) (start : ℕ) (done all : List (List ℕ)) (rest : List ℕ)
    → drop start bytes ≡ [] → Going bytes start done all rest → ⊥
going-none bytes start done all rest n g = by g.more g.text
  where
    by : (more : List (List ℕ)) → drop start bytes ≡ g.next ++ (further more ++ rest) → ⊥
    by [] t = some-text g.next rest 10 (sym n ∙ t)
    by (f ∷ fs) t = some-text g.next ((f ++ further fs) ++ rest) 32 (sym n ∙ t)

mapped : {A : Type 0} (f : A → List ℕ) (x : A) (xs : List A) → map f (xs ++ (x ∷ [])) ≡ map f xs ++
    (f x ∷ [])
mapped f x [] = refl
mapped f x (y ∷ ys) = ap (λ l. f y ∷ l) (mapped f x ys)

pub pushed-view : {A : Type 0} (f : A → List ℕ) (old new : List A) (x : A) → new ≡ old ++ (x ∷ [])
    → map f new ≡ map f old ++ (f x ∷ [])
pushed-view f old new x e = ap (map f) e ∙ mapped f x old

-- a line that goes on has more fields than those that were read
pub full-line : {A : Type 0} (f : A → List ℕ) (bytes : List ℕ) (start : ℕ) (done : List A)
    (all : List (List ℕ)) (rest : List ℕ)
    → Going bytes start (map f done) all rest → length all ≤ 40 → length done ≡ 40 → ⊥
full-line f bytes start done all rest g few n =
    let m : length (map f done) ≡ length done = length-map done f in
    let l : length (map f done ++ (g.next ∷ g.more)) ≡ length (map f done) + suc (length g.more) =
    length-append (map f done) (g.next ∷ g.more) in
    let e = ap length g.parts in
    omega (arith, m, l, e, few, n)

-- one more byte that is no stop
pub plain-more : (bytes : List ℕ) (a b : ℕ)
    → ((j : ℕ) → a ≤ j → j < b → (get_or bytes j 0 ≢ 32) × (get_or bytes j 0 ≢ 10))
    → (get_or bytes b 0 ≢ 32) × (get_or bytes b 0 ≢ 10)
    → (j : ℕ) → a ≤ j → j < b + 1 → (get_or bytes j 0 ≢ 32) × (get_or bytes j 0 ≢ 10)
plain-more bytes a b before here j p q =
    elim (cases_lt j b) [
      | inl l ↦ before j p l
      | inr k ↦ subst (λ i. (get_or bytes i 0 ≢ 32) × (get_or bytes i 0 ≢ 10))
          (let e : b ≡ j = omega (arith, k, q) in e) here
    ]
