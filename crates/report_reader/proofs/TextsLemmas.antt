-- The rows of taps are read one after the other.
use Rattle.std.proofs.Common.{ℕ, suc, ◌≡◌, ◌≢◌, ◌≤◌, ◌<◌, ◌+◌, ◌^◌, ◌++◌, List, [], ◌∷◌, length}
use Rattle.std.proofs.Common.{drop, take, decimal, refl, ap, ◌∙◌, sym, append-nil}
use Rattle.std.proofs.Common.{length-append, length-drop, ◌-◌, arith}
use Rattle.std.proofs.Math.Seq.{drop-append_seam, take-append_seam}
use Rattle.std.proofs.lemmas.List.{drop-drop}
use Rattle.std.specs.Prelude.{codes, slice_index_or}
use Rattle.report.specs.Report.{numbered}
use Rattle.report.specs.Texts.{AreFields, Row, body, fields, row_text, text_of, word}
use Rattle.report.specs.Texts.Row.{Tap}
use Rattle.report.proofs.Cuts.{word-IsField}
use Rattle.report.proofs.Digits.{decimal-IsField}
use Rattle.report_reader.specs.Ends.{Going}
use Rattle.report_reader.specs.Sections.{HaveLengths, IsOther}
use Rattle.report_reader.proofs.EndsLemmas.{going-none}
use Rattle.report_reader.proofs.SectionsLemmas.{going-row}
use Rattle.report_reader.proofs.ShortestLemmas.{tap-long}
use Rattle.report_reader.specs.declared.shortest.TheConstants.{SHORTEST_TAP}

-- what is left of the texts behind those that were read
pub record LeftTexts (bytes : List ℕ) (next : ℕ) (done texts : List (List ℕ)) (rest : List Row) :
    Type 0 where
  pub left : List (List ℕ)
  pub number : ℕ
  pub joins : done ++ left ≡ texts
  pub lengths : HaveLengths left
  pub text : drop next bytes ≡ text_of (numbered Tap number left ++ rest)

abbrev pub KeepsTexts : List ℕ → ℕ → List (List ℕ) → ℕ → Type 0
KeepsTexts bytes at done next =
    (texts : List (List ℕ)) (i : ℕ) (rest : List Row) → HaveLengths texts
    → IsOther (codes "tap") rest → drop at bytes ≡ text_of (numbered Tap i texts ++ rest)
    → LeftTexts bytes next done texts rest

-- the next text, and what is left behind it
pub record NextText (bytes : List ℕ) (after : ℕ) (found : List (List ℕ))
    (done texts : List (List ℕ)) (rest : List Row) : Type 0 where
  pub this : List ℕ
  pub left : List (List ℕ)
  pub number : ℕ
  pub joins : (done ++ (this ∷ [])) ++ left ≡ texts
  pub small : length this < 2 ^ 64
  pub lengths : HaveLengths left
  pub long : slice_index_or found 3 [] ≡ decimal (length this)
  pub text : drop after bytes ≡ this ++ text_of (numbered Tap number left ++ rest)

tap-fields : (i : ℕ) (t : List ℕ) → AreFields (fields (Tap i t))
tap-fields i t =
    (decimal-IsField i, (word-IsField (codes "bytes") refl, (decimal-IsField (length t), tt)))

append-one : (done : List (List ℕ)) (x : List ℕ) (left : List (List ℕ))
    → (done ++ (x ∷ [])) ++ left ≡ done ++ (x ∷ left)
append-one [] x left = refl
append-one (y ∷ done) x left = ap (λ l. y ∷ l) (append-one done x left)

module _ (bytes : List ℕ) (next : ℕ) (done texts : List (List ℕ)) (rest : List Row)
    (other : IsOther (codes "tap") rest) where
  line-other : drop next bytes ≡ text_of rest
      → Going bytes next [] (word other.next ∷ fields other.next)
      (body other.next ++ text_of other.more)
  line-other t = going-row bytes next other.next other.more other.is_field other.are_fields
      (t ∙ ap text_of other.is)

  line-tap : (i : ℕ) (x : List ℕ) (rows : List Row) → drop next bytes ≡ text_of (Tap i x ∷ rows)
      → Going bytes next [] (codes "tap" ∷ fields (Tap i x)) (x ++ text_of rows)
  line-tap i x rows t = going-row bytes next (Tap i x) rows (word-IsField (codes "tap") refl)
      (tap-fields i x) t

  module _ (after : ℕ) (found : List (List ℕ))
      (hf : (all : List (List ℕ)) (r : List ℕ) → length all ≤ 40 → Going bytes next [] all r
      → found ≡ all)
      (hn : (all : List (List ℕ)) (r : List ℕ) → length all ≤ 40 → Going bytes next [] all r
      → drop after bytes ≡ r) where
    goes-by : (left : List (List ℕ)) (i : ℕ) → done ++ left ≡ texts → HaveLengths left
        → drop next bytes ≡ text_of (numbered Tap i left ++ rest)
        → slice_index_or found 0 [] ≡ codes "tap"
        → NextText bytes after found done texts rest
    goes-by [] i j s t e =
        let few : length (word other.next ∷ fields other.next) ≤ 40 = omega (arith, other.few) in
        let f = hf (word other.next ∷ fields other.next) (body other.next ++ text_of other.more) few
        (line-other t) in
        absurd (other.other (sym (ap (λ l. slice_index_or l 0 []) f) ∙ e))
    goes-by (x ∷ left) i j s t e =
        let rows = numbered Tap (suc i) left ++ rest in
        let g = line-tap i x rows t in
        let f = hf (codes "tap" ∷ fields (Tap i x)) (x ++ text_of rows) (omega arith) g in
        record {
          this = x;
          left = left;
          number = suc i;
          joins = append-one done x left ∙ j;
          small = s.0;
          lengths = s.1;
          long = ap (λ l. slice_index_or l 3 []) f;
          text = hn (codes "tap" ∷ fields (Tap i x)) (x ++ text_of rows) (omega arith) g;
        }

    pub texts-go : LeftTexts bytes next done texts rest → slice_index_or found 0 [] ≡ codes "tap"
        → NextText bytes after found done texts rest
    texts-go l e = goes-by l.left l.number l.joins l.lengths l.text e

    room-by : (left : List (List ℕ)) (i : ℕ)
        → drop next bytes ≡ text_of (numbered Tap i left ++ rest)
        → slice_index_or found 0 [] ≡ codes "tap"
        → SHORTEST_TAP + length (drop after bytes) ≤ length (drop next bytes)
    room-by [] i t e =
        let few : length (word other.next ∷ fields other.next) ≤ 40 = omega (arith, other.few) in
        let f = hf (word other.next ∷ fields other.next) (body other.next ++ text_of other.more) few
        (line-other t) in
        absurd (other.other (sym (ap (λ l. slice_index_or l 0 []) f) ∙ e))
    room-by (x ∷ left) i t e =
        let rows = numbered Tap (suc i) left ++ rest in
        let g = line-tap i x rows t in
        let s = ap length (hn (codes "tap" ∷ fields (Tap i x)) (x ++ text_of rows) (omega arith) g)
        in
        let a = length-append x (text_of rows) in
        let b = length-append (row_text (Tap i x)) (text_of rows) in
        let l = tap-long i x in
        let n = ap length t in omega (arith, s, a, b, l, n)

    -- the row of the next text is not shorter than any
    pub texts-room : LeftTexts bytes next done texts rest → slice_index_or found 0 [] ≡ codes "tap"
        → SHORTEST_TAP + length (drop after bytes) ≤ length (drop next bytes)
    texts-room l e = room-by l.left l.number l.text e

    stops-by : (left : List (List ℕ)) (i : ℕ) → done ++ left ≡ texts
        → drop next bytes ≡ text_of (numbered Tap i left ++ rest)
        → slice_index_or found 0 [] ≢ codes "tap"
        → (done ≡ texts) × (drop next bytes ≡ text_of rest)
    stops-by [] i j t ne = (sym (append-nil done) ∙ j, t)
    stops-by (x ∷ left) i j t ne =
        let rows = numbered Tap (suc i) left ++ rest in
        let g = line-tap i x rows t in
        let f = hf (codes "tap" ∷ fields (Tap i x)) (x ++ text_of rows) (omega arith) g in
        absurd (ne (ap (λ l. slice_index_or l 0 []) f))

    pub texts-stop : LeftTexts bytes next done texts rest → slice_index_or found 0 [] ≢ codes "tap"
        → (done ≡ texts) × (drop next bytes ≡ text_of rest)
    texts-stop l ne = stops-by l.left l.number l.joins l.text ne

  ends-by : (left : List (List ℕ)) (i : ℕ) → drop next bytes ≡ text_of (numbered Tap i left ++ rest)
      → drop next bytes ≡ [] → ⊥
  ends-by [] i t e = going-none _ _ _ _ _ e (line-other t)
  ends-by (x ∷ left) i t e = going-none _ _ _ _ _ e
      (line-tap i x (numbered Tap (suc i) left ++ rest) t)

  pub texts-end : LeftTexts bytes next done texts rest → drop next bytes ≡ [] → ⊥
  texts-end l e = ends-by l.left l.number l.text e

-- the text fits what is left of the bytes
pub text-fits : (bytes this tail : List ℕ) (after : ℕ) → after ≤ length bytes
    → drop after bytes ≡ this ++ tail
    → length this ≤ length bytes - after
text-fits bytes this tail after l t =
    let a = length-drop after bytes in
    let b = length-append this tail in
    let e = ap length t in
    omega (arith, a, b, e, l)

-- where a text is copied, what is left stands behind it
pub text-goes : (bytes : List ℕ) (after : ℕ) (found done texts : List (List ℕ)) (rest : List Row)
    (n : NextText bytes after found done texts rest)
    → (long next : ℕ) (copy : List ℕ) (new : List (List ℕ)) → long ≡ length n.this
    → next ≡ after + long
    → copy ≡ take (next - after) (drop after bytes) → new ≡ done ++ (copy ∷ [])
    → LeftTexts bytes next new texts rest
text-goes bytes after found done texts rest n long next copy new l e k w =
    let tail = text_of (numbered Tap n.number n.left ++ rest) in
    let m : next - after ≡ length n.this = omega (arith, l, e) in
    let same : copy ≡ n.this = k ∙ ap (λ i. take i (drop after bytes)) m
    ∙ ap (take (length n.this)) n.text ∙ take-append_seam n.this tail in
    let at : next ≡ after + length n.this = omega (arith, l, e) in
    record {
      left = n.left;
      number = n.number;
      joins = ap (λ d. d ++ n.left) (w ∙ ap (λ x. done ++ (x ∷ [])) same) ∙ n.joins;
      lengths = n.lengths;
      text = ap (λ i. drop i bytes) at ∙ sym (drop-drop (length n.this) after bytes)
          ∙ ap (drop (length n.this)) n.text ∙ drop-append_seam n.this tail;
    }
