-- A view with as many hands as there are seats has them all.
use Rattle.std.proofs.Common.{◌≡◌, ℕ, zero, suc, ◌<◌, List, [], ◌∷◌, arith, map, length, get_or}
use Rattle.std.proofs.Common.{slice_index_or, sym, refl, ap, ◌∙◌, subst}
use Rattle.std.proofs.lemmas.List.{length-map, get_or_default}
use Rattle.std.proofs.lemmas.List.Elements.{All-weaker}
use mathlib.Core.Option.{Option, some}
use lib.ListN.{get_elem?}
use Rattle.atomic_table.specs.Table.{Final, Seen}
use Rattle.atomic_table.proofs.Lists.{at_index, at_map}
use Rattle.linearization.specs.declared.hands.Hand.{Hand}
use Rattle.linearization.specs.declared.hands.Hands.{Hands}
use Rattle.linearization.specs.Orders.{StepBy}
use Rattle.linearization.specs.Views.{hand}
use Rattle.linearization.specs.Rules.{Views, Ordered}
use Rattle.atomic_table.specs.Seated.{TableId}
use Rattle.linearization.specs.Seats.{SeatView, HasPart, IsByOne, ArePartsOf, HasOnce, AreNumbered}
use Rattle.linearization.specs.Closings.{seats_with, Ends}
use Rattle.linearization.proofs.PigeonholeLemmas.{AreApart, all_there}

-- the hands of a list of seats
abbrev pub hands_of : {D : Type 0} → List (SeatView D) → List (Hand D)
hands_of {D} seats = map (λ (s : SeatView D). hand s.number s.steps) seats

number_is : {D : Type 0} (seats : List (SeatView D)) (k q : ℕ) → k < length seats
    → get_or (map (λ (s : SeatView D). s.number) seats) k q ≡ (get_or (hands_of seats) k
    (hand 0 [])).number
number_is [] k q l = absurd (omega arith)
number_is (s ∷ seats) zero q l = refl
number_is (s ∷ seats) (suc k) q l = number_is seats k q (omega arith)

module _ {D : Type 0} (seats : List (SeatView D)) (order : List (StepBy D)) (views : List (Hands D))
    (r : Views (length seats) order views) (id : ℕ) (here : get_elem? views id ≡ some
    (record { hands = hands_of seats })) where
  -- the seat at a place has its part, and the place is its own
  part_at : (k : ℕ) (d : SeatView D) → k < length seats → let s = slice_index_or seats k d in
      (s.number < length seats) × (r.place s.number ≡ (id, k)) × HasPart order s
  part_at k d l = let s : SeatView D = slice_index_or seats k d in
      r.each_hand id (record { hands = hands_of seats }) here k (hand s.number s.steps)
      (at_map (λ (x : SeatView D). hand x.number x.steps) seats k s
      (at_index seats k s l (get_or_default seats k d s l)))

  hand_at : ℕ → Hand D
  hand_at k = get_or (hands_of seats) k (hand 0 [])

  apart : AreApart (length seats) (length seats) (λ k. (hand_at k).number) (λ q. (r.place q).1)
  unfolding hand_at
  apart k l =
      let inside : k < length (hands_of seats) =
      subst (λ (n : ℕ). k < n)
      (sym (length-map seats (λ (s : SeatView D). hand s.number s.steps))) l in
      let p = r.each_hand id (record { hands = hands_of seats }) here k (hand_at k)
      (at_index (hands_of seats) k (hand_at k) inside (get_or_default (hands_of seats) k
      (hand 0 []) (hand_at k) inside)) in
      (p.0, ap (λ (z : ℕ × ℕ). z.1) p.1)

  by_one : (e : StepBy D) → e.by < length seats → IsByOne seats e
  unfolding hand_at
  by_one e l = let m = all_there (length seats) e.by (λ k. (hand_at k).number)
      (λ q. (r.place q).1) apart l in (
        m.0,
        subst (λ (n : ℕ). m.0 < n) (sym (length-map seats (λ (s : SeatView D). s.number))) m.1,
        number_is seats m.0 e.by m.1 ∙ m.2,
      )

  pub parts_of : ArePartsOf order seats
  parts_of = record {
    each = λ k d l. (part_at k d l).2;
    whole = All-weaker
        (λ (e : StepBy D). e.by < length seats) (IsByOne seats) by_one order r.by_seats;
  }

  once : (q : ℕ) → q < length seats → HasOnce seats q
  unfolding hand_at
  once q l = let at = all_there (length seats) q (λ k. (hand_at k).number)
      (λ p. (r.place p).1) apart l in record {
        place = at.0;
        within = at.1;
        here = number_is seats at.0 0 at.1 ∙ at.2;
        only = λ k m is. sym (apart k m).1
            ∙ (ap (λ (p : ℕ). (r.place p).1) (sym (number_is seats k 0 m) ∙ (is ∙ sym at.2))
            ∙ (apart at.0 at.1).1);
      }

  pub numbered : AreNumbered (length seats) seats
  numbered = record { counted = refl; below = λ k d l. (part_at k d l).0; each = once }

-- the hands of the seats with these hands are these
with_hands : {D : Type 0} (z : TableId) (hs : List (Hand D)) → hands_of (seats_with z hs) ≡ hs
with_hands {D = D} z [] = refl
with_hands {D = D} z (h ∷ hs) = ap (λ (rest : List (Hand D)). h ∷ rest) (with_hands z hs)

module _ {S D : Type 0} where
  pub ends : (count : ℕ) (lawful : List (StepBy D) → List ℕ → List (Option S) → Type 0)
      (z : TableId) (v : Hands D) (id : ℕ) (words : List ℕ) (slots : List S)
      → length (seats_with z v.hands) ≡ count → Final (Seen (Ordered count lawful) id v) words slots
      → Ends count lawful (seats_with z v.hands) words slots
  ends count lawful z v id words slots all f = let s = f.0 in let r = f.1.0 in
      let seats = seats_with z v.hands in
      let here : get_elem? s.views id ≡ some (record { hands = hands_of seats }) =
      f.1.1 ∙ ap (λ (hs : List (Hand D)). some (record { hands = hs }))
      (sym (with_hands z v.hands)) in
      let views = subst (λ (n : ℕ). Views n r.order s.views) (sym all) r.views_are in record {
        order = r.order;
        homes = s.homes;
        lawfully = subst (λ (ws : List ℕ). lawful r.order ws s.homes) f.2 r.lawfully;
        numbered = subst (λ (n : ℕ). AreNumbered n seats) all
            (numbered seats r.order s.views views id here);
        by_seats = r.views_are.by_seats;
        parts = parts_of seats r.order s.views views id here;
        counted = f.3;
        at_home = f.4;
      }
