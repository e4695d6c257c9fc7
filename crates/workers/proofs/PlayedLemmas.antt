-- The actors of a kind that are played, by their numbers.
use Rattle.std.proofs.Common.{Global, Vec, filter_map}
use Rattle.std.specs.List.{cons_option}
use Rattle.std.proofs.lemmas.Option.{slice_get_past}
use native.Mathlib.Nat as nat
use mathlib.Core.List.{map-map}
use Rattle.workers.specs.RoundRobin.{dealt_item}
use Rattle.run_crew.specs.CountLaws.{actor_of, played}
use Rattle.workers.specs.GatheredHands.{HaveAll}
use Rattle.workers.proofs.Names.{◌≡◌, ℕ, zero, suc, ◌+◌, ◌*◌, ◌/◌, ◌%◌, ◌<◌, ◌≤◌, List, [], ◌∷◌}
use Rattle.workers.proofs.Names.{Option, Some, None, length, map, slice_get, slice_index_or, refl}
use Rattle.workers.proofs.Names.{sym, ap, subst, ◌∙◌, arith, ◌⊎◌, inl, inr, range_with_len}
use Rattle.workers.proofs.Names.{length-map, cases_lt, AreDealt, IsPlayed, Seated, dealt_items}
use Rattle.workers.proofs.Names.{all_played}

-- ---- what a function gives of the numbers from a on, if it gives something of each

module _ {A : Type 0} (f : ℕ → Option A) where
  abbrev Gives : ℕ → Type 0
  Gives k = (x : A) × (f k ≡ Some x)

  abbrev given : ℕ → ℕ → List A
  given a n = filter_map f (range_with_len a n)

  later : (a n : ℕ) → ((k : ℕ) → k < suc n → Gives (a + k)) → (k : ℕ) → k < n
      → Gives (a + 1 + k)
  later a n are k less = subst Gives (omega arith) (are (suc k) (omega arith))

  first : (a n : ℕ) → ((k : ℕ) → k < suc n → Gives (a + k)) → Gives a
  first a n are = subst Gives (omega arith) (are 0 (omega arith))

  count-from : (a n : ℕ) → ((k : ℕ) → k < n → Gives (a + k)) → length (given a n) ≡ n
  count-from a zero are = refl
  count-from a (suc n) are =
      ap (λ o. length (cons_option o (given (a + 1) n))) (first a n are).1
      ∙ ap suc (count-from (a + 1) n (later a n are))

  at-from : (a n : ℕ) → ((k : ℕ) → k < n → Gives (a + k)) → (k : ℕ) → k < n
      → slice_get (given a n) k ≡ f (a + k)
  at-from a zero are k less = absurd (omega arith)
  at-from a (suc n) are zero less =
      ap (λ o. slice_get (cons_option o (given (a + 1) n)) zero) (first a n are).1
      ∙ (sym (first a n are).1 ∙ ap f (omega arith))
  at-from a (suc n) are (suc k) less =
      ap (λ o. slice_get (cons_option o (given (a + 1) n)) (suc k)) (first a n are).1
      ∙ (at-from (a + 1) n (later a n are) k (omega arith) ∙ ap f (omega arith))

none-there : {A : Type 0} (o : Option A) → ((x : A) → o ≡ Some x → ⊥) → o ≡ None
none-there None never = refl
none-there (Some x) never = absurd (never x refl)

-- ---- all actors of a kind

module _ {A : Type 0} (crew : List Seated) (kind : Seated → List A) where
  pub played-is : (n : ℕ) (p : IsPlayed crew kind n) → played crew kind n ≡ Some p.actor
  played-is n p = ap (λ x. actor_of kind x (n / length crew)) p.worker ∙ p.is

  -- the hand of a worker
  hand-item : (xs : List Seated) (w k : ℕ)
      → slice_get (slice_index_or (map kind xs) w []) k ≡ actor_of kind (slice_get xs w) k
  hand-item [] w k = refl
  hand-item (x ∷ xs) zero k = refl
  hand-item (x ∷ xs) (suc w) k = hand-item xs w k

  hands-played : (n : ℕ) → dealt_item (map kind crew) n ≡ played crew kind n
  hands-played n =
      ap (λ m. slice_get (slice_index_or (map kind crew) (n % m) []) (n / m))
      (length-map crew kind)
      ∙ hand-item crew (n % length crew) (n / length crew)

  no-actor : (o : Option Seated) (k : ℕ)
      → ((x : Seated) (a : A) → o ≡ Some x → slice_get (kind x) k ≡ Some a → ⊥)
      → actor_of kind o k ≡ None
  no-actor None k never = refl
  no-actor (Some x) k never = none-there (slice_get (kind x) k) (λ a is. never x a refl is)

  module _ (count : ℕ) (are : (n : ℕ) → n < count → IsPlayed crew kind n) where
    gives : (n : ℕ) → n < count → Gives (played crew kind) (0 + n)
    gives n less =
        subst (Gives (played crew kind)) (omega arith)
        ((are n less).actor, played-is n (are n less))

    -- there are as many as numbers
    pub all-count : length (all_played crew kind count) ≡ count
    all-count = count-from (played crew kind) 0 count gives

    at-played : (n : ℕ) → n < count
        → slice_get (all_played crew kind count) n ≡ played crew kind n
    at-played n less =
        at-from (played crew kind) 0 count gives n less ∙ ap (played crew kind) (omega arith)

    -- each is at its number
    pub all-at : (n : ℕ) → n < count → (p : IsPlayed crew kind n)
        → slice_get (all_played crew kind count) n ≡ Some p.actor
    all-at n less p = at-played n less ∙ played-is n p

    -- the workers have them dealt out in turn, if no worker has one beyond
    module _ (some : 0 < length crew)
        (within : (w k : ℕ) (x : Seated) (a : A) → slice_get crew w ≡ Some x
        → slice_get (kind x) k ≡ Some a → w + length crew * k < count) where
      at-any : (n : ℕ) → (n < count) ⊎ (count ≤ n)
          → slice_get (all_played crew kind count) n ≡ played crew kind n
      at-any n (inl less) = at-played n less
      at-any n (inr more) =
          let size = all-count in
          slice_get_past (all_played crew kind count) n (omega (arith, size, more))
          ∙ sym (no-actor (slice_get crew (n % length crew)) (n / length crew) (λ x a there is.
          let low = within (n % length crew) (n / length crew) x a there is in
          let whole = nat.mod-add-div n (length crew) in
          omega (arith, low, whole, more)))

      pub all-dealt : AreDealt (all_played crew kind count) (map kind crew)
      all-dealt n = at-any n (cases_lt n count) ∙ sym (hands-played n)

-- ---- what the workers have, taken back

module _ {A : Type 0} (crew : List Seated) (held : Seated → Vec A Global)
    (hands : List (Vec A Global)) (are : hands ≡ map held crew) (count : ℕ) where
  abbrev kind : Seated → List A
  kind x = (held x).items

  hands-are : map (λ (hand : Vec A Global). hand.items) hands ≡ map kind crew
  hands-are =
      ap (map (λ (hand : Vec A Global). hand.items)) are
      ∙ map-map (λ (hand : Vec A Global). hand.items) held crew

  items-are : dealt_item (map kind crew) ≡ played crew kind
  items-are i n = hands-played crew kind n i

  taken-back : dealt_items hands count ≡ all_played crew kind count
  taken-back =
      ap (λ hs. filter_map (dealt_item hs) (range_with_len 0 count)) hands-are
      ∙ ap (λ f. filter_map f (range_with_len 0 count)) items-are

  pub have-all : 0 < length crew → length (all_played crew kind count) ≡ count
      → AreDealt (all_played crew kind count) (map kind crew) → HaveAll hands count
  have-all some size dealt =
      let same = ap length are ∙ length-map crew held in
      record {
        some = omega (arith, some, same);
        count_is = ap length taken-back ∙ size;
        dealt =
            subst (AreDealt (dealt_items hands count)) (sym hands-are)
            (subst (λ items. AreDealt items (map kind crew)) (sym taken-back) dealt);
      }

  -- a list of them is that of all
  pub all-taken : (items : List A) (number : ℕ) → items ≡ dealt_items hands count
      → count ≡ number → items ≡ all_played crew kind number
  all-taken items number is same = is ∙ (taken-back ∙ ap (all_played crew kind) same)
