-- The text of a set, member by member.
use Rattle.std.proofs.Common.{◌≡◌, ℕ, ◌+◌, ◌<◌, ◌≤◌, Bool, true, false, cond, List, [], ◌∷◌, ◌++◌}
use Rattle.std.proofs.Common.{length, refl, sym, ap, ◌∙◌, arith, append_assoc, append-nil}
use Rattle.std.specs.Prelude.{decimal}
use Rattle.std.proofs.lemmas.Fmt.{length-decimal-le}
use Rattle.steer_base.proofs.SetsLemmas.{those_below-more}
use Rattle.steer_base.specs.Sets.{is_empty, those_below}
use Rattle.report.specs.Commands.{with_commas}
use Rattle.report.specs.Pieces.{separator}

-- the text of the first members of a set, as a field
abbrev pub members_text : List ℕ → List ℕ
members_text [] = []
members_text (n ∷ ns) = 32 ∷ (decimal n ++ with_commas ns)

pub decimal-short : (n : ℕ) → n < 32 → length (decimal n) ≤ 2
decimal-short n small = length-decimal-le 2 n (omega arith) (omega arith) (omega arith)

with_commas-append : (ns : List ℕ) (n : ℕ) → with_commas (ns ++ n ∷ []) ≡ with_commas ns ++ 44
    ∷ decimal n
with_commas-append [] n = ap (λ r. 44 ∷ r) (append-nil (decimal n))
with_commas-append (m ∷ ms) n =
    ap (λ r. 44 ∷ (decimal m ++ r)) (with_commas-append ms n)
    ∙ ap (λ r. 44 ∷ r) (sym (append_assoc (decimal m) (with_commas ms) (44 ∷ decimal n)))

members_text-append : (ns : List ℕ) (n : ℕ) → members_text (ns ++ n ∷ []) ≡ members_text ns
    ++ separator (is_empty ns) ∷ decimal n
members_text-append [] n = ap (λ r. 32 ∷ r) (append-nil (decimal n))
members_text-append (m ∷ ms) n =
    ap (λ r. 32 ∷ (decimal m ++ r)) (with_commas-append ms n)
    ∙ ap (λ r. 32 ∷ r) (sym (append_assoc (decimal m) (with_commas ms) (44 ∷ decimal n)))

-- one member more
pub member_more : (n : ℕ) (test : ℕ → Bool) (old a b : List ℕ) (first : Bool) → test n ≡ true
    → first ≡ is_empty (those_below n test)
    → a ≡ old ++ members_text (those_below n test) → b ≡ a ++ separator first ∷ decimal n
    → b ≡ old ++ members_text (those_below (n + 1) test)
member_more n test old a b first is empty e f =
    let ns = those_below n test in
    f ∙ ap (λ r. r ++ separator first ∷ decimal n) e
    ∙ append_assoc old (members_text ns) (separator first ∷ decimal n)
    ∙ ap (λ t. old ++ (members_text ns ++ separator t ∷ decimal n)) empty
    ∙ ap (λ r. old ++ r) (sym (members_text-append ns n))
    ∙ ap (λ t. old ++ members_text (ns ++ cond t (n ∷ []) [])) (sym is)
    ∙ ap (λ r. old ++ members_text r) (sym (those_below-more n test))

is_empty-append : (ns : List ℕ) (n : ℕ) → false ≡ is_empty (ns ++ n ∷ [])
is_empty-append [] n = refl
is_empty-append (m ∷ ms) n = refl

pub some_member : (n : ℕ) (test : ℕ → Bool) → test n ≡ true → false ≡ is_empty
    (those_below (n + 1) test)
some_member n test is =
    is_empty-append (those_below n test) n
    ∙ ap (λ t. is_empty (those_below n test ++ cond t (n ∷ []) [])) (sym is)
    ∙ ap is_empty (sym (those_below-more n test))

-- no member more
pub no_member : (n : ℕ) (test : ℕ → Bool) → test n ≡ false → those_below n test ≡ those_below
    (n + 1) test
no_member n test is =
    sym (append-nil (those_below n test))
    ∙ ap (λ t. those_below n test ++ cond t (n ∷ []) []) (sym is)
    ∙ sym (those_below-more n test)
