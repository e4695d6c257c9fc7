-- Actors that were dealt out to workers, by their numbers.
use native.Mathlib.Nat as nat
use Rattle.run_workers.proofs.EachLemmas.{item_at}
use Rattle.workers.proofs.Names.{◌≡◌, ℕ, zero, suc, ◌+◌, ◌*◌, ◌/◌, ◌%◌, ◌<◌, List, [], ◌∷◌, Some}
use Rattle.workers.proofs.Names.{length, map, sym, ap, ◌∙◌, arith, slice_get, length-map, none-some}
use Rattle.workers.proofs.Names.{some-is, AreDealt, hand_at, IsPlayed, Seated}

module _ {A : Type 0} (kind : Seated → List A) where
  hand-of : (crew : List Seated) (w : ℕ) (by : Seated) → slice_get crew w ≡ Some by
      → hand_at (map kind crew) w ≡ kind by
  hand-of [] w by got = none-some by got
  hand-of (x ∷ crew) zero by got = ap kind (some-is x by got)
  hand-of (x ∷ crew) (suc w) by got = hand-of crew w by got

  module _ (flat : List A) (crew : List Seated) (some : 0 < length crew)
      (dealt : AreDealt flat (map kind crew)) where
    abbrev count : ℕ
    count = length crew

    many : length (map kind crew) ≡ count
    many = length-map crew kind

    -- what the worker of a number has at a place
    there : (n : ℕ) (by : Seated) → slice_get crew (n % count) ≡ Some by
        → slice_get flat n ≡ slice_get (kind by) (n / count)
    there n by got =
        dealt n
        ∙ (ap (λ k. slice_get (hand_at (map kind crew) (n % k)) (n / k)) many
        ∙ ap (λ hand. slice_get hand (n / count)) (hand-of crew (n % count) by got))

    -- a worker's actors are those of its number and of each number so many further
    pub dealt_at : (w k : ℕ) (by : Seated) (x : A) → slice_get crew w ≡ Some by → w < count
        → slice_get (kind by) k ≡ Some x → slice_get flat (w + count * k) ≡ Some x
    dealt_at w k by x got less has =
        let rest : (w + count * k) % count ≡ w =
        nat.add-mul-mod_self_left w count k ∙ nat.mod-eq_of_lt less in
        let first = nat.add-mul-div_left w k some in
        let low = nat.div-eq_of_lt less in
        let place : (w + count * k) / count ≡ k = omega (arith, first, low) in
        there (w + count * k) by (ap (slice_get crew) rest ∙ got)
        ∙ (ap (slice_get (kind by)) place ∙ has)

    -- each actor is played
    pub are_played : (n : ℕ) → n < length flat → IsPlayed crew kind n
    are_played n less =
        let by = item_at crew (n % count) (nat.mod-lt n some) in
        let x = item_at flat n less in
        record {
          by = by.0;
          actor = x.0;
          worker = by.1;
          is = sym (there n by.0 by.1) ∙ x.1;
        }

    -- what is played is the actor of that number
    pub played_is : (n : ℕ) (p : IsPlayed crew kind n) → slice_get flat n ≡ Some p.actor
    played_is n p = there n p.by p.worker ∙ p.is
