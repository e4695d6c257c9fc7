-- The last line of a report.
use Rattle.std.proofs.Common.{ℕ, ◌≡◌, ◌≤◌, List, [], ◌∷◌, Option, Some, None, length, decimal}
use Rattle.std.proofs.Common.{refl, ap, sym, subst, arith}
use Rattle.std.specs.Prelude.{codes}
use Rattle.history.specs.Ranges.{FitsIn}
use Rattle.report.specs.Lines.{end_row}
use Rattle.report.specs.Texts.{AreFields, fields}
use Rattle.report.proofs.Cuts.{word-IsField}
use Rattle.report.proofs.Digits.{decimal-IsField}
use Rattle.report_reader.specs.Ends.{Going}
use Rattle.report_reader.specs.Seen.{field_at}
use Rattle.report_reader.specs.Sections.{IsLast, ShowsCut}
use Rattle.report_reader.proofs.SectionsLemmas.{going-row}

pub last-AreFields : (arrived total : ℕ) (cut : Option ℕ)
    → AreFields (fields (end_row arrived total cut))
last-AreFields arrived total None =
    (decimal-IsField arrived, (word-IsField (codes "of") refl, (decimal-IsField total, tt)))
last-AreFields arrived total (Some n) = (
  decimal-IsField arrived,
  (
    word-IsField (codes "of") refl,
    (decimal-IsField total, (word-IsField (codes "cut") refl, (decimal-IsField n, tt))),
  ),
)

pub last-few : (arrived total : ℕ) (cut : Option ℕ)
    → length (codes "end" ∷ fields (end_row arrived total cut)) ≤ 40
last-few arrived total None = omega arith
last-few arrived total (Some n) = omega arith

last-cut : (arrived total : ℕ) (cut : Option ℕ) → FitsIn 32 cut
    → ShowsCut (codes "end" ∷ fields (end_row arrived total cut)) cut
last-cut arrived total None f = refl
last-cut arrived total (Some n) f = (refl, refl, f)

module _ (bytes : List ℕ) (at arrived total : ℕ) (cut : Option ℕ)
    (last : IsLast bytes at arrived total cut) (found : List (List ℕ))
    (hf : (all : List (List ℕ)) (r : List ℕ) → length all ≤ 40 → Going bytes at [] all r
    → found ≡ all) where
  found-is : found ≡ codes "end" ∷ fields (end_row arrived total cut)
  found-is = hf (codes "end" ∷ fields (end_row arrived total cut)) [] (last-few arrived total cut)
      (going-row bytes at (end_row arrived total cut) [] (word-IsField (codes "end") refl)
      (last-AreFields arrived total cut) last.text)

  pub total-at : field_at found 3 ≡ decimal total
  total-at = ap (λ fs. field_at fs 3) found-is

  pub cut-at : ShowsCut found cut
  cut-at = subst (λ fs. ShowsCut fs cut) (sym found-is) (last-cut arrived total cut last.cut_fits)
