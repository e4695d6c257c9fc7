-- A text that is written in two pieces, and a report.
use Rattle.std.proofs.Common.{◌≡◌, ◌+◌, List, ℕ, ◌++◌, length, take, Option, Result, Ok, Err}
use Rattle.std.proofs.Common.{length-append, arith, sym, subst}
use Rattle.std.specs.Prelude.{OnErr}
use Rattle.std.specs.Io.KnownBytes.{Appends}
use Rattle.std.proofs.KnownBytes.{Appends-trans}
use Rattle.std.proofs.Math.Seq.{take-append-add}
use Rattle.outside_io.specs.Sink.{AppendsSome}
use Rattle.history.specs.Lines.{LineLists}
use Rattle.history.specs.declared.history.History.{History}
use Rattle.report.specs.Report.{rows_of}
use Rattle.report.specs.Texts.{text_of}
use Rattle.replay.specs.Replays.{ShownLists, shown_text, shown_lists}

some_next : (a b c : Option (List ℕ)) (s t : List ℕ) → Appends a b s → AppendsSome b c t
    → AppendsSome a c (s ++ t)
some_next a b c s t first (n, within, some) = (
  length s + n,
  omega (arith, length-append s t),
  subst (Appends a c) (sym (take-append-add s t n)) (Appends-trans a b c s (take n t) first some),
)

-- the first piece went out, and at an error a beginning of the second
pub part_next : {T E : Type 0} (r : Result T E) (a b c : Option (List ℕ)) (s t : List ℕ)
    → Appends a b s → OnErr r (AppendsSome b c t) → OnErr r (AppendsSome a c (s ++ t))
part_next (Ok x) a b c s t first part = tt
part_next (Err e) a b c s t first part = some_next a b c s t first part

-- at an error a beginning of the report went out, the report being that of its parts
pub part_of_shown : {T E : Type 0} (r : Result T E) (a b : Option (List ℕ)) (h : History)
    (lines : LineLists) (texts given : List (List ℕ)) (s : ShownLists)
    → given ≡ texts → shown_lists h lines texts ≡ s
    → OnErr r (AppendsSome a b (text_of (rows_of lines h given)))
    → OnErr r (AppendsSome a b (shown_text s))
unfolding shown_text
part_of_shown r a b h lines texts given s same is part =
    let first = subst (λ ts. OnErr r (AppendsSome a b (text_of (rows_of lines h ts)))) same part in
    subst (λ (x : ShownLists). OnErr r (AppendsSome a b (shown_text x))) is first
