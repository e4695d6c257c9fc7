-- The parts of a set, one after another.
use Rattle.std.proofs.Common.{◌≡◌, ℕ, ◌*◌, ◌%◌, ◌^◌, ◌<◌, ◌≤◌, Bool, true, false, cond, ltb, eqb}
use Rattle.std.proofs.Common.{List, [], ◌∷◌, length, Option, Some, None, Result, Err, option_map}
use Rattle.std.proofs.Common.{IsSome, bit_or, refl, sym, ap, subst, ◌∙◌, arith}
use Rattle.std.specs.Prelude.{is_some}
use Rattle.std.specs.List.{position_or_len, after_first}
use Rattle.std.proofs.Math.Nat.{mod-eq_of_lt}
use Rattle.std.proofs.Math.Pow.{pow-lt}
use Rattle.std.proofs.lemmas.List.{take_all}
use Rattle.std.proofs.lemmas.List.Splits.{slice_split_first, slice_split_none}
use Rattle.std.proofs.lemmas.List.Sums.{fails_before_first}
use Rattle.std.proofs.lemmas.Bool.{ltb-true, ltb-false, lt-ltb, le-ltb}
use Rattle.std.proofs.lemmas.Nat.{or_lt}
use Rattle.plan_reader.specs.declared.faults.cause.Cause.{Cause}
use Rattle.plan_reader.specs.declared.faults.cause.Cause.TheVariants.{Range}
use Rattle.plan_reader.specs.Texts.{plain_number, numbers_of, merged_from, parts, before}
use Rattle.plan_reader.specs.Texts.{after_byte}

-- the numbers that follow the first comma
abbrev pub numbers_after : Option (List ℕ) → Option (List ℕ)
numbers_after None = Some []
numbers_after (Some rest) = numbers_of (parts rest)

-- the parts, once the list is cut at its first comma
abbrev parts_of_cut : List ℕ → Option (List ℕ) → List (List ℕ)
parts_of_cut first None = first ∷ []
parts_of_cut first (Some rest) = first ∷ parts rest

parts_by : (token : List ℕ) (b : Bool) → ltb (position_or_len (λ x. eqb x 44) token)
    (length token) ≡ b
    → parts token ≡ parts_of_cut (before 44 token)
    (cond b (Some (after_first (λ x. eqb x 44) token)) None)
parts_by token true e = slice_split_first (λ x. eqb x 44) token 0 (ltb-true _ _ e)
parts_by token false e =
    let past : length token ≤ position_or_len (λ x. eqb x 44) token = ltb-false _ _ e in
    slice_split_none (λ x. eqb x 44) token (λ k d h. fails_before_first (λ x. eqb x 44) token k d
    (omega arith))
    ∙ ap (λ (x : List ℕ). x ∷ []) (sym (take_all _ token past))

parts-cut : (token : List ℕ) → parts token ≡ parts_of_cut (before 44 token) (after_byte 44 token)
parts-cut token = parts_by token (ltb (position_or_len (λ x. eqb x 44) token) (length token)) refl

of_cut-None : (first : List ℕ) (rest : Option (List ℕ)) → plain_number first ≡ None → numbers_of
    (parts_of_cut first rest) ≡ None
of_cut-None first None e = rw e refl
of_cut-None first (Some rest) e = rw e refl

of_cut-Some : (first : List ℕ) (rest : Option (List ℕ)) (n : ℕ) → plain_number first ≡ Some n
    → numbers_of (parts_of_cut first rest) ≡ option_map (λ ns. n ∷ ns) (numbers_after rest)
of_cut-Some first None n e = rw e refl
of_cut-Some first (Some rest) n e = rw e refl

-- no numbers where the first part is none
pub numbers-None : (token first : List ℕ) → first ≡ before 44 token → plain_number first ≡ None
    → numbers_of (parts token) ≡ None
numbers-None token first is none = ap numbers_of (parts-cut token) ∙ of_cut-None _ _
    (ap plain_number (sym is) ∙ none)

none_is : (o : Option ℕ) → is_some o ≡ false → o ≡ None
none_is None e = refl
none_is (Some n) e = cc

-- the same, by a test
pub none-first : (token first : List ℕ) → first ≡ before 44 token
    → is_some (plain_number first) ≡ false → numbers_of (parts token) ≡ None
none-first token first is e = numbers-None token first is (none_is _ e)

first_of : (token first : List ℕ) (n : ℕ) → first ≡ before 44 token → plain_number first ≡ Some n
    → numbers_of (parts token) ≡ option_map (λ ns. n ∷ ns) (numbers_after (after_byte 44 token))
first_of token first n is some = ap numbers_of (parts-cut token) ∙ of_cut-Some _ _ n
    (ap plain_number (sym is) ∙ some)

-- the first number, and those that follow
pub numbers-first : (token first : List ℕ) (rest : Option (List ℕ)) (n : ℕ)
    → first ≡ before 44 token → plain_number first ≡ Some n → rest ≡ after_byte 44 token
    → numbers_of (parts token) ≡ option_map (λ ns. n ∷ ns) (numbers_after rest)
numbers-first token first rest n is some e =
    first_of token first n is some ∙ ap (λ (o : Option (List ℕ)). option_map (λ (ns : List ℕ). n
    ∷ ns) (numbers_after o)) (sym e)

some-first : (token first : List ℕ) (o : Option ℕ) → first ≡ before 44 token
    → plain_number first ≡ o
    → is_some o ≡ true
    → is_some (numbers_of (parts token)) ≡ is_some (numbers_after (after_byte 44 token))
some-first token first None is e h = absurd cc
some-first token first (Some n) is e h = ap is_some (first_of token first n is e)
    ∙ still (numbers_after (after_byte 44 token))
  where
    still : (o : Option (List ℕ)) → is_some (option_map (λ (ns : List ℕ). n ∷ ns) o) ≡ is_some o
    still None = refl
    still (Some ns) = refl

-- a token is numbers where the part is a number and what follows is numbers
pub is_some-first : (token first : List ℕ) (rest : Option (List ℕ)) → first ≡ before 44 token
    → is_some (plain_number first) ≡ true → rest ≡ after_byte 44 token
    → is_some (numbers_after rest) ≡ is_some (numbers_of (parts token))
is_some-first token first rest is one e = ap (λ (o : Option (List ℕ)). is_some (numbers_after o)) e
    ∙ sym (some-first token first (plain_number first) is refl one)

-- ---- the set

pub bit_is : (n : ℕ) → n < 32 → 1 * 2 ^ n % 4294967296 ≡ 2 ^ n
bit_is n h = let small : 2 ^ n < 2 ^ 32 = pow-lt h in let one : 1 * 2 ^ n ≡ 2 ^ n =
    omega arith in rw one (mod-eq_of_lt small)

-- a set stays within its limit
pub bits_fit : (limit bits n : ℕ) → limit ≤ 32 → n < limit → bits < 2 ^ limit → bit_or bits
    (1 * 2 ^ n % 4294967296) < 2 ^ limit
bits_fit limit bits n w h k = rw (bit_is n (omega arith)) (or_lt limit bits (2 ^ n) k (pow-lt h))

-- what is left where a number is taken from numbers
pub tail_some : (n : ℕ) (now tail : Option (List ℕ)) → now ≡ option_map (λ ns. n ∷ ns) tail
    → IsSome now → IsSome tail
tail_some n now None e h = subst IsSome e h
tail_some n now (Some ns) e h = refl

-- a number that is not below the limit is refused
pub refused_at : (limit bits n : ℕ) (now tail : Option (List ℕ)) (all : Option (Result ℕ Cause))
    → now ≡ option_map (λ ns. n ∷ ns) tail → IsSome now → limit ≤ n
    → option_map (merged_from limit bits) now ≡ all → all ≡ Some (Err (Range n))
refused_at limit bits n now None all e h le is = let impossible : false ≡ true = subst IsSome e h in
    cc
refused_at limit bits n now (Some ns) all e h le is =
    sym is ∙ ap (option_map (merged_from limit bits)) e ∙ (rw (le-ltb n limit le) refl)

-- a number below the limit is put in
pub kept_at : (limit bits n : ℕ) (now tail : Option (List ℕ)) (all : Option (Result ℕ Cause))
    → now ≡ option_map (λ ns. n ∷ ns) tail → limit ≤ 32 → n < limit
    → option_map (merged_from limit bits) now ≡ all → option_map
    (merged_from limit (bit_or bits (1 * 2 ^ n % 4294967296))) tail ≡ all
kept_at limit bits n now None all e w h is = sym (ap (option_map (merged_from limit bits)) e) ∙ is
kept_at limit bits n now (Some ns) all e w h is =
    rw (bit_is n (omega arith)) (taken ∙ sym (ap (option_map (merged_from limit bits)) e) ∙ is)
  where
    taken : option_map (merged_from limit (bit_or bits (2 ^ n))) (Some ns) ≡ option_map
        (merged_from limit bits) (Some (n ∷ ns))
    taken = rw (lt-ltb n limit h) refl
