-- Lanes that are taken out of their slots one by one.
use Rattle.std.proofs.Common.{inl, inr}
use Rattle.std.proofs.lemmas.Bool.{cases_lt}
use Rattle.std.proofs.lemmas.List.{get_or_append_left}
use Rattle.std.proofs.Math.Seq.{get_or-append_seam}
use mathlib.Core.Option.{some-injective, some-ne-none}
use lib.ListN.{get_elem?}
use Rattle.steer_base.specs.Journals.{Journal}
use Rattle.hop_rule.specs.declared.step.Slot.TheVariants as slot
use Rattle.board_api.specs.declared.held_lane.LaneId.TheVariants as id
use Rattle.hop_board.specs.Left.{AllLie, IsMiddleOf, IsOutLane, LiesIn}
use Rattle.hop_board.proofs.Names.{◌≡◌, ◌≢◌, ℕ, zero, suc, ◌+◌, ◌<◌, Bool, false, List, [], ◌∷◌}
use Rattle.hop_board.proofs.Names.{◌++◌, Some, None, get_or, set, length, slice_index_or, sym, ap}
use Rattle.hop_board.proofs.Names.{◌∙◌, subst, arith, length-append, get_or-set_same}
use Rattle.hop_board.proofs.Names.{get_or-set_other, dite, some, ℕ_discrete, journal, BoardSizes}
use Rattle.hop_board.proofs.Names.{AreFullFrom, AreSpare, AreTakenFrom, AreTakenTo, InSlot, home_of}

pub at_or : {A : Type 0} (xs : List A) (i : ℕ) (a d : A) → get_elem? xs i ≡ some a
    → get_or xs i d ≡ a
at_or [] i a d e = absurd (some-ne-none a (sym e))
at_or (x ∷ xs) zero a d e = some-injective x a e
at_or (x ∷ xs) (suc i) a d e = at_or xs i a d e

-- ---- what is found

pub found_is : (old items : List InSlot) (i : ℕ) (found : InSlot) → items ≡ old
    → get_elem? items i ≡ some found → slice_index_or old i None ≡ found
found_is old items i found same at = at_or old i found None (ap (λ xs. get_elem? xs i) (sym same)
    ∙ at)

module _ (about : BoardSizes) where
  middle_lies : (l : ℕ) (found : InSlot) → LiesIn about (id.Middle l) found
      → IsMiddleOf about.room found
  middle_lies l (Some (slot.Middle y)) lies = lies
  middle_lies l (Some (slot.Out y)) lies = lies
  middle_lies l None lies = lies

  out_lies : (o : ℕ) (found : InSlot) → LiesIn about (id.Out o) found → IsOutLane found
  out_lies o (Some (slot.Middle y)) lies = lies
  out_lies o (Some (slot.Out y)) lies = lies
  out_lies o None lies = lies

  pub middle_found : (items : List InSlot) (l : ℕ) (found : InSlot) → AllLie about items
      → l < about.lanes
      → slice_index_or items (home_of about (id.Middle l)) None ≡ found
      → IsMiddleOf about.room found
  middle_found items l found all inside is =
      middle_lies l found (subst (LiesIn about (id.Middle l)) is (all (id.Middle l) inside))

  pub out_found : (items : List InSlot) (o : ℕ) (found : InSlot) → AllLie about items
      → o < about.outs
      → slice_index_or items (home_of about (id.Out o)) None ≡ found → IsOutLane found
  out_found items o found all inside is =
      out_lies o found (subst (LiesIn about (id.Out o)) is (all (id.Out o) inside))

-- ---- which slots have their values

module _ (old new : List Bool) (count i : ℕ) (long : length old ≡ count) (inside : i < count)
    (is : new ≡ set old i false) where
  now_false : slice_index_or new i false ≡ false
  now_false = ap (λ xs. get_or xs i false) is ∙ get_or-set_same old i false false (omega arith)

  else_same : (k : ℕ) → k ≢ i → slice_index_or new k false ≡ slice_index_or old k false
  else_same k ne = ap (λ xs. get_or xs k false) is ∙ get_or-set_other old i k false false ne

  pub full_from : (n : ℕ) → i ≡ n → AreFullFrom n count old → AreFullFrom (n + 1) count new
  full_from n i_is t = λ k from less. else_same k (λ e. absurd (omega arith))
      ∙ t k (omega arith) less

  pub taken_from : (first : List Bool) (n m : ℕ) → i ≡ n + m → AreTakenFrom n m first old
      → AreTakenFrom n (m + 1) first new
  taken_from first n m i_is t = record {
    taken = λ k from less. dite (ℕ_discrete k i)
        (λ e. subst (λ (z : ℕ). slice_index_or new z false ≡ false) (sym e) now_false)
        (λ ne. else_same k ne ∙ t.taken k from (omega arith));
    below = λ k less. else_same k (λ e. absurd (omega arith)) ∙ t.below k less;
  }

-- the values of m slots more were taken
pub more_taken : (first old new : List Bool) (n k m at : ℕ) → at ≡ n + k
    → AreTakenFrom n k first old → AreTakenFrom at m old new → AreTakenFrom n (k + m) first new
more_taken first old new n k m at at_is t s = record {
  taken = λ j from less. elim (cases_lt j at) [
    | inl low ↦ s.below j low ∙ t.taken j from (omega arith)
    | inr high ↦ s.taken j (omega arith) (omega arith)
  ];
  below = λ j less. s.below j (omega arith) ∙ t.below j less;
}

pub taken_to : (n m count : ℕ) (old new : List Bool) → AreTakenTo n count old
    → AreTakenFrom n m old new → AreFullFrom (n + m) count new → AreTakenTo (n + m) count new
taken_to n m count old new t s left = record {
  taken = λ j less. elim (cases_lt j n) [
    | inl low ↦ s.below j low ∙ t.taken j low
    | inr high ↦ s.taken j (omega arith) less
  ];
  left = left;
}

-- ---- spare lists

module _ {X : Type 0} (old new : List (Journal X)) (x : Journal X) (n room : ℕ) (is : old ≡ new ++ x
    ∷ []) (t : AreSpare (n + 1) room old) where
  shorter : length new + 1 ≡ n + 1
  shorter = let a = length-append new (x ∷ []) in
      omega arith ∙ (sym a ∙ (ap (λ l. length l) (sym is) ∙ t.count_is))

  pub popped_is : x ≡ journal [] room
  popped_is = let s = shorter in let c = t.count_is in
      subst (λ (j : Journal X). j ≡ journal [] room)
      (ap (λ l. get_or l (length new) x) is ∙ get_or-append_seam new x [] x)
      (t.each (length new) x (omega arith))

  pub popped_left : AreSpare n room new
  popped_left = let s = shorter in let c = t.count_is in record {
    count_is = omega arith;
    each = λ k d less. subst (λ (j : Journal X). j ≡ journal [] room)
        (ap (λ l. get_or l k d) is ∙ get_or_append_left new (x ∷ []) d k less)
        (t.each k d (omega arith));
  }
