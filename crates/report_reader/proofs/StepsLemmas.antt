-- The values of a line are read one after the other, and the words before them are stepped over.
use Rattle.std.proofs.Common.{ℕ, zero, suc, min, ◌≡◌, ◌≤◌, ◌+◌, ◌-◌, ◌++◌, ◌⊎◌, List, []}
use Rattle.std.proofs.Common.{◌∷◌, length, drop, map, refl, ap, ◌∙◌, sym, subst, arith, get_or}
use Rattle.std.proofs.Common.{◌<◌, append_assoc, inl, inr, set, take}
use Rattle.std.specs.List.{All}
use Rattle.std.proofs.lemmas.List.{length-append, length-drop, length-map, length-take-le}
use Rattle.std.proofs.lemmas.List.{take_more_set}
use Rattle.std.proofs.lemmas.List.Elements.{All-push}
use Rattle.std.specs.Prelude.{slice_index_or}
use Rattle.report.specs.Texts.{AreFields, further}
use Rattle.report_reader.specs.Ends.{Going, IsEnd, piece}
use Rattle.report_reader.specs.Values.{HasSteps, values_of}
use Rattle.report_reader.proofs.EndsLemmas.{follows, going-last, going-next, parts-on}
use Rattle.report_reader.proofs.EndsLemmas.{piece-by, pushed-view}

-- A line that is being read: its fields that are left, and the values that were found.
pub record Stepping (bytes : List ℕ) (start : ℕ) (steps : List ℕ) (done wanted : List (List ℕ))
    (rest : List ℕ) : Type 0 where
  pub left : List (List ℕ)
  pub line : Going bytes start [] left rest
  pub has : HasSteps steps left
  pub joins : done ++ values_of steps left ≡ wanted

-- the same where the next value begins
pub record AtValue (bytes : List ℕ) (from : ℕ) (steps : List ℕ) (done wanted : List (List ℕ))
    (rest : List ℕ) : Type 0 where
  pub value : List ℕ
  pub more : List (List ℕ)
  pub line : Going bytes from [] (value ∷ more) rest
  pub has : HasSteps steps more
  pub joins : done ++ (value ∷ values_of steps more) ≡ wanted

-- the word before the next value, if there is one
abbrev Front : List ℕ → ℕ → List ℕ → Type 0
Front steps n more = ((steps ≡ []) × (more ≡ []) × (n ≡ 0)) ⊎ (steps ≡ n ∷ more)

front : (steps : List ℕ) (i : ℕ) → Front (drop i steps) (slice_index_or steps i 0)
    (drop (suc i) steps)
front [] zero = inl (refl, refl, refl)
front [] (suc i) = inl (refl, refl, refl)
front (n ∷ steps) zero = inr refl
front (n ∷ steps) (suc i) = front steps i

module _ (bytes : List ℕ) (start from : ℕ) (done wanted : List (List ℕ)) (rest : List ℕ) where
  step-none : (n : ℕ) → n ≡ 0 → Stepping bytes start [] done wanted rest
      → from ≡ start + min n (length bytes - start) → AtValue bytes from [] done wanted rest
  step-none n z s e =
      let g = s.line in
      let here : from ≡ start = omega (arith, e, z) in
      record {
        value = g.next;
        more = g.more;
        line = record {
          next = g.next;
          more = g.more;
          parts = refl;
          text = ap (λ k. drop k bytes) here ∙ g.text;
          is_field = g.is_field;
          are_fields = g.are_fields;
        };
        has = tt;
        joins = ap (λ l. done ++ l) g.parts ∙ s.joins;
      }

  over : (n : ℕ) (word : List ℕ) (fields : List (List ℕ)) (more : List ℕ)
      → drop start bytes ≡ word ++ (further fields ++ rest) → AreFields fields
      → HasSteps (suc n ∷ more) (word ∷ fields)
      → done ++ values_of (suc n ∷ more) (word ∷ fields) ≡ wanted
      → from ≡ start + min (suc n) (length bytes - start) → AtValue bytes from more done wanted rest
  over n word [] more t fs h j e = absurd h
  over n word (value ∷ fields) more t fs h j e =
      let tail = (value ++ further fields) ++ rest in
      let a : length (drop start bytes) ≡ length word + suc (length tail) =
      ap length t ∙ length-append word (32 ∷ tail) in
      let b = length-drop start bytes in
      let k = h.0 in
      let here : from ≡ (start + length word) + 1 = omega (arith, e, k, a, b) in
      record {
        value = value;
        more = fields;
        line = record {
          next = value;
          more = fields;
          parts = refl;
          text = ap (λ i. drop i bytes) here
              ∙ follows bytes word tail start (start + length word) 32 refl t
              ∙ append_assoc value (further fields) rest;
          is_field = fs.0;
          are_fields = fs.1;
        };
        has = h.1;
        joins = j;
      }

  fits : (n : ℕ) (word : List ℕ) (fields : List (List ℕ)) (more : List ℕ)
      → drop start bytes ≡ word ++ (further fields ++ rest)
      → HasSteps (n ∷ more) (word ∷ fields) → n ≤ length bytes - start
  fits zero word fields more t h = omega arith
  fits (suc n) word [] more t h = absurd h
  fits (suc n) word (value ∷ fields) more t h =
      let tail = (value ++ further fields) ++ rest in
      let a : length (drop start bytes) ≡ length word + suc (length tail) =
      ap length t ∙ length-append word (32 ∷ tail) in
      let b = length-drop start bytes in
      let k = h.0 in
      omega (arith, a, b, k)

  fits-by : (steps more : List ℕ) (n : ℕ) → Front steps n more
      → Stepping bytes start steps done wanted rest → n ≤ length bytes - start
  fits-by steps more n (inl f) s = let none = f.2 in omega (arith, none)
  fits-by steps more n (inr f) s =
      let g = s.line in
      fits n g.next g.more more g.text (subst (HasSteps (n ∷ more)) (sym g.parts)
      (subst (λ k. HasSteps k s.left) f s.has))

  step-zero : (more : List ℕ) → Stepping bytes start (zero ∷ more) done wanted rest
      → from ≡ start + min zero (length bytes - start) → AtValue bytes from more done wanted rest
  step-zero more s e =
      let g = s.line in
      let here : from ≡ start = omega (arith, e) in
      record {
        value = g.next;
        more = g.more;
        line = record {
          next = g.next;
          more = g.more;
          parts = refl;
          text = ap (λ k. drop k bytes) here ∙ g.text;
          is_field = g.is_field;
          are_fields = g.are_fields;
        };
        has = subst (HasSteps (zero ∷ more)) (sym g.parts) s.has;
        joins = ap (λ l. done ++ values_of (zero ∷ more) l) g.parts ∙ s.joins;
      }

  step-word : (n : ℕ) (more : List ℕ) → Stepping bytes start (n ∷ more) done wanted rest
      → from ≡ start + min n (length bytes - start) → AtValue bytes from more done wanted rest
  step-word zero more s e = step-zero more s e
  step-word (suc n) more s e =
      let g = s.line in
      over n g.next g.more more g.text g.are_fields
      (subst (HasSteps (suc n ∷ more)) (sym g.parts) s.has)
      (ap (λ l. done ++ values_of (suc n ∷ more) l) g.parts ∙ s.joins) e

  step-by : (steps more : List ℕ) (n : ℕ) → Front steps n more
      → Stepping bytes start steps done wanted rest
      → from ≡ start + min n (length bytes - start) → AtValue bytes from more done wanted rest
  step-by steps more n (inl f) s e =
      subst (λ m. AtValue bytes from m done wanted rest) (sym f.1)
      (step-none n f.2 (subst (λ k. Stepping bytes start k done wanted rest) f.0 s) e)
  step-by steps more n (inr f) s e =
      step-word n more (subst (λ k. Stepping bytes start k done wanted rest) f s) e

  -- the word before the next value is stepped over
  pub step-over : (steps : List ℕ) (i j n : ℕ) → j ≡ i → n ≡ slice_index_or steps j 0
      → Stepping bytes start (drop i steps) done wanted rest
      → from ≡ start + min n (length bytes - start)
      → AtValue bytes from (drop (suc i) steps) done wanted rest
  step-over steps i j n l w s e =
      let same : n ≡ slice_index_or steps i 0 = w ∙ ap (λ k. slice_index_or steps k 0) l in
      step-by (drop i steps) (drop (suc i) steps) (slice_index_or steps i 0) (front steps i) s
      (e ∙ ap (λ k. start + min k (length bytes - start)) same)

-- a word that is stepped over stands in the bytes
pub step-fits : (bytes : List ℕ) (start : ℕ) (steps : List ℕ) (i n : ℕ)
    (done wanted : List (List ℕ)) (rest : List ℕ) → n ≡ slice_index_or steps i 0
    → Stepping bytes start (drop i steps) done wanted rest → n ≤ length bytes - start
step-fits bytes start steps i n done wanted rest w s =
    let f = fits-by bytes start start done wanted rest (drop i steps) (drop (suc i) steps)
    (slice_index_or steps i 0) (front steps i) s in
    omega (arith, w, f)

-- the first of a list, and one more
pub first-view : {A : Type 0} (f : A → List ℕ) (xs : List A) (n : ℕ) (x : A) → n < length xs
    → map f (take (n + 1) (set xs n x)) ≡ map f (take n xs) ++ (f x ∷ [])
first-view f xs n x l = pushed-view f (take n xs) _ x (take_more_set xs n x l)

pub first-all : {A : Type 0} (P : A → Type 0) (xs : List A) (n : ℕ) (x : A) → n < length xs
    → All P (take n xs) → P x → All P (take (n + 1) (set xs n x))
first-all P xs n x l all p =
    subst (All P) (sym (take_more_set xs n x l)) (All-push P (take n xs) x all p)

-- no step is left behind the last value
last-value : (steps : List ℕ) (more : List (List ℕ)) → HasSteps steps more → more ≡ []
    → values_of steps more ≡ []
last-value [] more h e = e
last-value (n ∷ steps) [] h e = absurd h
last-value (n ∷ steps) (w ∷ more) h e = absurd (cc)

head-same : (x y : List ℕ) (xs ys : List (List ℕ)) → x ∷ xs ≡ y ∷ ys → x ≡ y
head-same x y xs ys e = ap (λ l. slice_index_or l 0 x) e

tail-same : (x y : List ℕ) (xs ys : List (List ℕ)) → x ∷ xs ≡ y ∷ ys → xs ≡ ys
tail-same x y xs ys e = ap (drop 1) e

module _ (bytes : List ℕ) (from end : ℕ) (steps : List ℕ) (done wanted : List (List ℕ))
    (rest : List ℕ) (is : IsEnd bytes from end) (v : AtValue bytes from steps done wanted rest)
  where
    pub value-last : get_or bytes end 0 ≡ 10
        → (done ++ (piece bytes from end ∷ []) ≡ wanted) × (drop (end + 1) bytes ≡ rest)
    value-last e =
        let l = going-last bytes from end [] (v.value ∷ v.more) rest is v.line e in
        let none : v.more ≡ [] = sym (tail-same _ _ _ _ l.0) in (
          ap (λ x. done ++ (x ∷ [])) (head-same _ _ _ _ l.0)
              ∙ ap (λ xs. done ++ (v.value ∷ xs)) (sym (last-value steps v.more v.has none))
              ∙ v.joins,
          l.1,
        )

    pub value-next : (get_or bytes end 0 ≡ 10 → ⊥)
        → Stepping bytes (end + 1) steps (done ++ (piece bytes from end ∷ [])) wanted rest
    value-next e =
        let g = going-next bytes from end [] (v.value ∷ v.more) rest is v.line e in
        let more : g.next ∷ g.more ≡ v.more = tail-same _ _ _ _ g.parts in
        record {
          left = v.more;
          line = record {
            next = g.next;
            more = g.more;
            parts = more;
            text = g.text;
            is_field = g.is_field;
            are_fields = g.are_fields;
          };
          has = v.has;
          joins = parts-on done (piece bytes from end) (values_of steps v.more)
              ∙ ap (λ x. done ++ (x ∷ values_of steps v.more)) (head-same _ _ _ _ g.parts)
              ∙ v.joins;
        }

-- one value more stands in the first of a list
pub value-set : {A : Type 0} (f : A → List ℕ) (bytes : List ℕ) (next : ℕ) (steps : List ℕ)
    (xs : List A) (n : ℕ) (x : A) (wanted : List (List ℕ)) (rest : List ℕ) → n < length xs
    → Stepping bytes next (drop (suc n) steps) (map f (take n xs) ++ (f x ∷ [])) wanted rest
    → Stepping bytes next (drop (n + 1) steps) (map f (take (n + 1) (set xs n x))) wanted rest
value-set f bytes next steps xs n x wanted rest l s =
    let longer : n + 1 ≡ suc n = omega arith in
    subst (λ done. Stepping bytes next (drop (n + 1) steps) done wanted rest)
    (sym (first-view f xs n x l))
    (subst (λ k. Stepping bytes next (drop k steps) (map f (take n xs) ++ (f x ∷ [])) wanted rest)
    (sym longer) s)

few-values : (steps : List ℕ) (fields : List (List ℕ)) → length (values_of steps fields)
    ≤ length fields
few-values [] fields = omega arith
few-values (n ∷ steps) [] = omega arith
few-values (zero ∷ steps) (v ∷ more) = let i = few-values steps more in omega (arith, i)
few-values (suc n ∷ steps) (w ∷ []) = omega arith
few-values (suc n ∷ steps) (w ∷ v ∷ more) = let i = few-values steps more in omega (arith, i)

-- a line that goes on has more values than those that were found
pub full-values : {A : Type 0} (f : A → List ℕ) (bytes : List ℕ) (from : ℕ)
    (steps all-steps : List ℕ) (xs : List A) (count : ℕ) (all : List (List ℕ)) (rest : List ℕ)
    → AtValue bytes from steps (map f (take count xs)) (values_of all-steps all) rest
    → length all ≤ 40 → 40 ≤ count → count ≤ length xs → ⊥
full-values f bytes from steps all-steps xs count all rest v few n k =
    let t : length (take count xs) ≡ count = length-take-le count xs k in
    let m : length (map f (take count xs)) ≡ length (take count xs) =
    length-map (take count xs) f in
    let l = length-append (map f (take count xs)) (v.value ∷ values_of steps v.more) in
    let e = ap length v.joins in
    let w = few-values all-steps all in
    omega (arith, t, m, l, e, w, few, n)

-- the first field of a line
pub first-field : (bytes : List ℕ) (start end : ℕ) (word : List ℕ) (fields : List (List ℕ))
    (rest : List ℕ) → IsEnd bytes start end → Going bytes start [] (word ∷ fields) rest
    → piece bytes start end ≡ word
first-field bytes start end word fields rest is g =
    piece-by bytes start end rest g.next g.more is g.text g.is_field ∙ head-same _ _ _ _ g.parts
