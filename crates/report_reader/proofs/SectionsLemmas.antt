-- The rows of a section are read one after the other.
use Rattle.std.proofs.Common.{ℕ, ◌≡◌, ◌≢◌, ◌≤◌, ◌+◌, ◌*◌, ◌++◌, List, [], ◌∷◌, length, drop}
use Rattle.std.proofs.Common.{refl, ap, ◌∙◌, sym, subst, append_assoc, append-nil, length-append}
use Rattle.std.proofs.Common.{arith}
use Rattle.report.specs.Texts.{AreFields, IsField, Row, body, fields, row_text, text_of}
use Rattle.report.specs.Texts.{word}
use Rattle.report.specs.Texts.Row.{Line}
use Rattle.report_reader.specs.Ends.{Going}
use Rattle.report_reader.specs.Sections.{AreShown, IsOther, IsShown}
use Rattle.report_reader.specs.Values.{HasSteps, values_of}
use Rattle.report_reader.proofs.EndsLemmas.{going-none}

-- what is left of a section behind the items that were read
pub record Left {T : Type 0} (first : List ℕ) (least : ℕ) (shows : T → List (List ℕ) → Type 0)
    (bytes : List ℕ)
    (next : ℕ)
    (done items : List T) (rest : List Row) : Type 0 where
  pub left : List T
  pub rows : List Row
  pub joins : done ++ left ≡ items
  pub shown : AreShown first least shows left rows
  pub text : drop next bytes ≡ text_of (rows ++ rest)

abbrev pub KeepsReading : {T : Type 0} → List ℕ → ℕ → (T → List (List ℕ) → Type 0) → List ℕ → ℕ
    → ℕ → List T → ℕ → Type 0
KeepsReading {T} first least shows bytes at most done next =
    (items : List T) (rows rest : List Row) → AreShown first least shows items rows
    → length items ≤ most → IsOther first rest → drop at bytes ≡ text_of (rows ++ rest)
    → Left first least shows bytes next done items rest

-- the line of a row
pub going-row : (bytes : List ℕ) (next : ℕ) (r : Row) (rows : List Row) → IsField (word r)
    → AreFields (fields r)
    → drop next bytes ≡ text_of (r ∷ rows) → Going bytes next [] (word r ∷ fields r)
    (body r ++ text_of rows)
going-row bytes next r rows f fs t = record {
  next = word r;
  more = fields r;
  parts = refl;
  text = t ∙ simp append_assoc;
  is_field = f;
  are_fields = fs;
}

append-one : {T : Type 0} (done : List T) (x : T) (left : List T) → (done ++ (x ∷ [])) ++ left ≡
    done ++ (x ∷ left)
append-one [] x left = refl
append-one (y ∷ done) x left = ap (λ l. y ∷ l) (append-one done x left)

module _ {T : Type 0} (first : List ℕ) (least : ℕ) (shows : T → List (List ℕ) → Type 0)
    (bytes : List ℕ)
    (next : ℕ) (done items : List T)
    (rest : List Row) (other : IsOther first rest) where
  line-other : drop next bytes ≡ text_of rest
      → Going bytes next [] (word other.next ∷ fields other.next)
      (body other.next ++ text_of other.more)
  line-other t = going-row bytes next other.next other.more other.is_field other.are_fields
      (t ∙ ap text_of other.is)

  line-shown : (x : T) (r : Row) (rows : List Row) (s : IsShown first least shows x r)
      → drop next bytes ≡ text_of ((r ∷ rows) ++ rest)
      → Going bytes next [] (first ∷ s.further) (text_of (rows ++ rest))
  line-shown x r rows s t = going-row bytes next (Line first s.further) (rows ++ rest) s.is_field
      s.are_fields
      (t ∙ ap (λ q. text_of (q ∷ (rows ++ rest))) s.is)

  -- whether a row begins with the word of the section is told by its first field
  module _ (own : List ℕ)
      (ho : (w : List ℕ) (fs : List (List ℕ)) (r : List ℕ) → Going bytes next [] (w ∷ fs) r
      → own ≡ w) where
    stops-by : (left : List T) (rows : List Row) → done ++ left ≡ items
        → AreShown first least shows left rows
        → drop next bytes ≡ text_of (rows ++ rest) → own ≢ first
        → (done ≡ items) × (drop next bytes ≡ text_of rest)
    stops-by [] [] j s t ne = (sym (append-nil done) ∙ j, t)
    stops-by [] (r ∷ rows) j s t ne = absurd s
    stops-by (x ∷ left) [] j s t ne = absurd s
    stops-by (x ∷ left) (r ∷ rows) j s t ne =
        absurd (ne (ho first s.0.further (text_of (rows ++ rest)) (line-shown x r rows s.0 t)))

    pub section-stops : Left first least shows bytes next done items rest
        → own ≢ first
        → (done ≡ items) × (drop next bytes ≡ text_of rest)
    section-stops l ne = stops-by l.left l.rows l.joins l.shown l.text ne

  module _ (own : List ℕ)
      (ho : (w : List ℕ) (fs : List (List ℕ)) (r : List ℕ) → Going bytes next [] (w ∷ fs) r
      → own ≡ w) (steps : List ℕ)
      (gives : T → List (List ℕ) → Type 0)
      (law : (x : T) (all : List (List ℕ)) → shows x all
      → HasSteps steps all × gives x (values_of steps all))
      (after : ℕ) (found : List (List ℕ))
      (hf : (all : List (List ℕ)) (r : List ℕ) → length all ≤ 40 → Going bytes next [] all r
      → HasSteps steps all → found ≡ values_of steps all)
      (hn : (all : List (List ℕ)) (r : List ℕ) → length all ≤ 40 → Going bytes next [] all r
      → HasSteps steps all → drop after bytes ≡ r) where
    other-first : drop next bytes ≡ text_of rest → own ≡ first → ⊥
    other-first t e =
        other.other (sym (ho (word other.next) (fields other.next)
        (body other.next ++ text_of other.more) (line-other t)) ∙ e)

    goes-by : (left : List T) (rows : List Row) → done ++ left ≡ items
        → AreShown first least shows left rows
        → drop next bytes ≡ text_of (rows ++ rest) → own ≡ first
        → (x : T) × gives x found × Left first least shows bytes after (done ++ (x ∷ []))
        items rest
    goes-by [] [] j s t e = absurd (other-first t e)
    goes-by [] (r ∷ rows) j s t e = absurd s
    goes-by (x ∷ left) [] j s t e = absurd s
    goes-by (x ∷ left) (r ∷ rows) j s t e =
        let g = line-shown x r rows s.0 t in
        let few : length (first ∷ s.0.further) ≤ 40 = omega (arith, s.0.few) in
        let v = law x (first ∷ s.0.further) s.0.shown in
        let f = hf (first ∷ s.0.further) (text_of (rows ++ rest)) few g v.0 in
        let l : Left first least shows bytes after (done ++ (x ∷ [])) items rest = record {
          left = left;
          rows = rows;
          joins = append-one done x left ∙ j;
          shown = s.1;
          text = hn (first ∷ s.0.further) (text_of (rows ++ rest)) few g v.0;
        } in
        (x, subst (gives x) (sym f) v.1, l)

    pub section-goes : Left first least shows bytes next done items rest
        → own ≡ first
        → (x : T) × gives x found × Left first least shows bytes after (done ++ (x ∷ []))
        items rest
    section-goes l e = goes-by l.left l.rows l.joins l.shown l.text e

    room-by : (left : List T) (rows : List Row) → AreShown first least shows left rows
        → drop next bytes ≡ text_of (rows ++ rest) → own ≡ first
        → least + length (drop after bytes) ≤ length (drop next bytes)
    room-by [] [] s t e = absurd (other-first t e)
    room-by [] (r ∷ rows) s t e = absurd s
    room-by (x ∷ left) [] s t e = absurd s
    room-by (x ∷ left) (r ∷ rows) s t e =
        let g = line-shown x r rows s.0 t in
        let few : length (first ∷ s.0.further) ≤ 40 = omega (arith, s.0.few) in
        let v = law x (first ∷ s.0.further) s.0.shown in
        let n = ap length (hn (first ∷ s.0.further) (text_of (rows ++ rest)) few g v.0) in
        let a = length-append (row_text r) (text_of (rows ++ rest)) in
        let m = ap length t in
        let l = s.0.long in omega (arith, n, a, m, l)

    -- the next row is not shorter than any of its kind
    pub section-room : Left first least shows bytes next done items rest
        → own ≡ first
        → least + length (drop after bytes) ≤ length (drop next bytes)
    section-room l e = room-by l.left l.rows l.shown l.text e

  ends-by : (left : List T) (rows : List Row) → AreShown first least shows left rows
      → drop next bytes ≡ text_of (rows ++ rest)
      → drop next bytes ≡ [] → ⊥
  ends-by [] [] s t e = going-none _ _ _ _ _ e (line-other t)
  ends-by [] (r ∷ rows) s t e = s
  ends-by (x ∷ left) [] s t e = s
  ends-by (x ∷ left) (r ∷ rows) s t e = going-none _ _ _ _ _ e (line-shown x r rows s.0 t)

  pub section-ends : Left first least shows bytes next done items rest → drop next bytes ≡ [] → ⊥
  section-ends l e = ends-by l.left l.rows l.shown l.text e

  full-by : (left : List T) (rows : List Row) (most : ℕ) → done ++ left ≡ items
      → AreShown first least shows left rows
      → drop next bytes ≡ text_of (rows ++ rest) → length items ≤ most → length done ≡ most
      → (done ≡ items) × (drop next bytes ≡ text_of rest)
  full-by [] [] most j s t m n = (sym (append-nil done) ∙ j, t)
  full-by [] (r ∷ rows) most j s t m n = absurd s
  full-by (x ∷ left) rows most j s t m n =
      let l = length-append done (x ∷ left) in
      let k = ap length j in
      absurd (omega (arith, l, k, m, n))

  pub section-full : (most : ℕ) → Left first least shows bytes next done items rest
      → length items ≤ most
      → length done ≡ most
      → (done ≡ items) × (drop next bytes ≡ text_of rest)
  section-full most l m n = full-by l.left l.rows most l.joins l.shown l.text m n

-- one more row of at least so many bytes fits
pub fits-more : {T : Type 0} (least at next after : ℕ) (done new : List T) (x : T)
    → new ≡ done ++ (x ∷ []) → length done * least + at ≤ next → next + least ≤ after
    → length new * least + at ≤ after
fits-more least at next after done new x e f l =
    let n = ap (λ xs. length xs * least) e in
    let a = ap (λ k. k * least) (length-append done (x ∷ [])) in
    omega (arith, n, a, f, l)
