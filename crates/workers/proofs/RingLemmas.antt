-- The rings of a run, one after the other.
use Rattle.std.proofs.lemmas.List.{get_or_default, get_or-set_other, length_push}
use Rattle.workers.specs.Lists.{ArePairs, AreReceived}
use Rattle.workers.proofs.Names.{◌≡◌, ◌⊎◌, inl, inr, ℕ, zero, suc, ◌<◌, ◌≤◌, None, Some, List, []}
use Rattle.workers.proofs.Names.{◌∷◌, ◌++◌, length, slice_get, slice_index_or, slice_set, refl, sym}
use Rattle.workers.proofs.Names.{ap, ◌∙◌, subst, arith, length-set, cases_lt, slice_get_within}
use Rattle.workers.proofs.Names.{IsPair, received, sent, Poller, Wire}
use Rattle.workers.proofs.TakenLemmas.{get-next}

-- What the rings of the pollers in front were given is known, and the other rings are as they were.
pub record AreSettled (before now : Wire) (front : List Poller) : Type 0 where
  pub count : length now.rings.items ≡ length before.rings.items
  pub rest : (q : ℕ) (d : _) → length front ≤ q
      → slice_index_or now.rings.items q d ≡ slice_index_or before.rings.items q d
  pub received : AreReceived before front

none-some : {X : Type 0} {x : X} → None ≡ Some x → ⊥
none-some e = cc

some-same : {X : Type 0} {x y : X} → Some x ≡ Some y → x ≡ y
some-same e = cc

get-front : {X : Type 0} (front : List X) (more : List X) (k : ℕ) → k < length front
    → slice_get (front ++ more) k ≡ slice_get front k
get-front [] more k less = absurd (omega arith)
get-front (x ∷ front) more zero less = refl
get-front (x ∷ front) more (suc k) less = get-front front more k (omega arith)

pub none-settled : (wire : Wire) → AreSettled wire wire []
none-settled wire =
    record {
      count = refl;
      rest = λ q d more. refl;
      received = λ q d p there. absurd (none-some there);
    }

module _ (before now : Wire) (front : List Poller) (all : List Poller) (x : Poller)
    (pairs : ArePairs before all) (are : AreSettled before now front)
    (at : slice_get all (length front) ≡ Some x) (queue : ℕ) (next : queue ≡ length front)
    (ring : _) (read : ring ≡ slice_index_or now.rings.items queue ring) where
  untouched : ring ≡ slice_index_or before.rings.items queue ring
  untouched = read ∙ are.rest queue ring (omega (arith, next))

  -- the ring is the other end of the next poller's
  pub ring-pair : IsPair ring x.ring
  ring-pair =
      subst (λ r. IsPair r x.ring) (sym untouched)
      (pairs.pair queue ring x (ap (slice_get all) next ∙ at))

  within : queue < length before.rings.items
  within =
      let size = pairs.count in
      let low = slice_get_within all (length front) x at in
      omega (arith, next, low, size)

  at-default : (d : _) → ring ≡ slice_index_or before.rings.items queue d
  at-default d = untouched ∙ get_or_default before.rings.items queue ring d within

  module _ (after : Wire) (new : _)
      (put : after.rings.items ≡ slice_set now.rings.items queue new)
      (left : List ℕ) (all_of : received x.ring ++ left ≡ sent ring) where
    at-next : (q : ℕ) (d : _) (p : Poller) → slice_get (front ++ x ∷ []) q ≡ Some p
        → (q < length front) ⊎ (length front ≤ q)
        → (rest : List ℕ)
        × (received p.ring ++ rest ≡ sent (slice_index_or before.rings.items q d))
    at-next q d p there (inl less) =
        are.received q d p (sym (get-front front (x ∷ []) q less) ∙ there)
    at-next q d p there (inr more) =
        let size = length_push front x in
        let below = slice_get_within (front ++ x ∷ []) q p there in
        let last : q ≡ length front = omega (arith, size, below, more) in
        let same : p ≡ x =
        some-same (sym there ∙ (ap (slice_get (front ++ x ∷ [])) last ∙ get-next front [] x)) in (
          left,
          ap (λ y. received y.ring ++ left) same
              ∙ (all_of
              ∙ ap sent
              (at-default d
              ∙ ap (λ k. slice_index_or before.rings.items k d) (next ∙ sym last))),
        )

    pub next-settled : AreSettled before after (front ++ x ∷ [])
    next-settled =
        record {
          count = ap length put ∙ (length-set now.rings.items queue new ∙ are.count);
          rest = λ q d more.
              let size = length_push front x in
              ap (λ rings. slice_index_or rings q d) put
              ∙ (get_or-set_other now.rings.items queue q new d
              (λ same. omega (arith, same, more, size, next))
              ∙ are.rest q d (omega (arith, more, size)));
          received = λ q d p there. at-next q d p there (cases_lt q (length front));
        }
