-- Guesses at the numbers of short keys, beside the map that has them.
use Rattle.std.proofs.Common.{ℕ, ◌≡◌, ◌∙◌, true, List, Option, Some, arith}
use Rattle.std.proofs.Common.{ap, inl, inr, subst, sym}
use Rattle.std.specs.BTreeMap.{BTreeMap, get, is_at}
use Rattle.std.proofs.lemmas.Bool.{cases_Bool}
use Rattle.std.proofs.lemmas.Bool.Decides.{nat_tests}
use Rattle.std.proofs.lemmas.Option.{none-some}
use Rattle.steer_model.specs.Capture.Guesses.{AddsKey}
use Rattle.steer_model.specs.Capture.NumberMaps.{GetsNumber, IsNumberAt}
use Rattle.steer_model.specs.Capture.ShortNumbers.{AreListed, short_order}
use Rattle.steer_model.specs.declared.flow_key.ShortKey.{ShortKey}

-- keys at one place of the order are one key
same-key : (a b : ShortKey) → is_at (short_order a) b ≡ true → a ≡ b
same-key a b e = grind (arith, nat_tests)

-- a key that has a number keeps it where another key gets one
kept : (old new : BTreeMap ShortKey ℕ) (key : ShortKey) (next number : ℕ)
    → GetsNumber short_order old new key next number
    → (k : ShortKey) (n : ℕ) → get short_order old k ≡ Some n → get short_order new k ≡ Some n
kept old new key next number gets k n e =
    elim (cases_Bool (is_at (short_order key) k)) [
      | inl t ↦
          let a = ap (get short_order old) (same-key key k t) in
          absurd (none-some n (sym gets.unknown ∙ a ∙ e))
      | inr f ↦ gets.updates.2 k f ∙ e
    ]

-- what is noted agrees with the map once both have the number of a key
pub listed_more : (old new : BTreeMap ShortKey ℕ) (keys more : List (Option ShortKey))
    (key : ShortKey) (next number : ℕ) → AreListed old keys
    → IsNumberAt short_order old new key next number → AddsKey keys more key number
    → AreListed new more
listed_more old new keys more key next number are (inl keeps) adds n k e =
    subst (λ m. get short_order m k ≡ Some n) (sym keeps.same)
    (elim (adds n k e) [
      | inl o ↦ are n k o
      | inr s ↦ ap (get short_order old) s.1 ∙ keeps.known ∙ ap Some (sym s.0)
    ])
listed_more old new keys more key next number are (inr gets) adds n k e =
    elim (adds n k e) [
      | inl o ↦ kept old new key next number gets k n (are n k o)
      | inr s ↦ ap (get short_order new) s.1 ∙ gets.updates.1 ∙ ap Some (sym s.0)
    ]
