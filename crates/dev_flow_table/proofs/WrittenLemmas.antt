-- Entries that were written, with unset ones behind them.
use Rattle.std.proofs.Common.{ℕ, suc, ◌+◌, ◌-◌, ◌<◌, ◌≤◌, ◌≡◌, List, [], ◌∷◌, ◌++◌, length}
use Rattle.std.proofs.Common.{get_or, set, ap, ◌∙◌, sym, refl, arith, inl, inr, append_assoc}
use Rattle.std.proofs.Common.{length-append, replicate}
use Rattle.std.proofs.Math.ListN.{get_or-eq_default}
use Rattle.std.proofs.lemmas.Bool.{cases_lt}
use Rattle.std.proofs.lemmas.List.{get_or_append_left, get_or-append_right, get_or-replicate}
use Rattle.std.proofs.lemmas.List.{length-replicate, length-set, set-append_left}
use Rattle.steer_base.specs.declared.choice.Entry.{Entry}
use Rattle.dev_flow_table.specs.Tables.{unset}
use Rattle.dev_flow_table.specs.Written.{filled}

module _ (rows : List Entry) (size start : ℕ) where
  abbrev behind : List Entry
  behind = replicate (size - length rows) (unset start)

  pub length-filled : length rows ≤ size → length (filled rows size start) ≡ size
  length-filled short =
      length-append rows behind
      ∙ ap (λ n. length rows + n) (length-replicate (size - length rows) (unset start))
      ∙ omega arith

  -- an entry that was not written is unset
  pub filled-at : (class : ℕ) → class < size
      → get_or (filled rows size start) class (unset start) ≡ get_or rows class (unset start)
  filled-at class within =
      elim (cases_lt class (length rows)) [
        | inl written ↦ get_or_append_left rows behind (unset start) class written
        | inr over ↦
            get_or-append_right rows behind (length rows) class (unset start) refl over
            ∙ get_or-replicate (size - length rows) (class - length rows) (unset start)
            (unset start) (omega arith)
            ∙ sym (get_or-eq_default rows (unset start) over)
      ]

  -- writing an entry
  pub filled-set : (class : ℕ) (e : Entry) → class < length rows
      → filled (set rows class e) size start ≡ set (filled rows size start) class e
  filled-set class e written =
      ap (λ n. set rows class e ++ replicate (size - n) (unset start)) (length-set rows class e)
      ∙ sym (set-append_left rows behind class e written)

  -- an unset entry more is the first of those behind
  pub filled-more : length rows < size
      → filled (rows ++ unset start ∷ []) size start ≡ filled rows size start
  filled-more short =
      let left : size - length rows ≡ suc (size - (length rows + 1)) = omega arith in
      ap (λ n. (rows ++ unset start ∷ []) ++ replicate (size - n) (unset start))
      (length-append rows (unset start ∷ []))
      ∙ append_assoc rows (unset start ∷ []) (replicate (size - (length rows + 1)) (unset start))
      ∙ ap (λ n. rows ++ replicate n (unset start)) (sym left)
