-- What seats do keeps the rule.
use Rattle.std.proofs.Common.{◌≡◌, ℕ, ◌<◌, List, [], ◌∷◌, length, set, slice_index, sym, refl, ap}
use Rattle.std.proofs.Common.{◌∙◌}
use mathlib.Core.Option.{Option, some}
use lib.ListN.{get_elem?}
use Rattle.atomic_table.specs.Table.{Me, Step, Act, keeps, Valid, homes_after, carried_after}
use Rattle.atomic_table.specs.Table.{Allows, Enters, Splits, Joins}
use Rattle.atomic_table.proofs.Lists.{set_else}
use Rattle.linearization.specs.declared.hands.Hand.{Hand}
use Rattle.linearization.specs.declared.hands.Hands.{Hands}
use Rattle.linearization.specs.Orders.{StepBy, step_by, steps_of, AreBySeats}
use Rattle.linearization.specs.Views.{hand, one, number_in, steps_in, no_hands, kept_hands}
use Rattle.linearization.specs.Views.{given_hands, joined_hands}
use Rattle.linearization.specs.Rules.{Ordered, Made, Moved}
use Rattle.linearization.proofs.ViewLemmas.{views_step, views_sit, views_deal, views_gather}

module _ {S D : Type 0} (seats : ℕ) (lawful : List (StepBy D) → List ℕ → List (Option S)
    → Type 0) where
  pub sits : (slots i : ℕ) → Enters (Ordered seats lawful) slots i (λ n w. w ≡ no_hands)
  sits slots i s r _ _ = (
    no_hands,
    record {
      order = r.order;
      lawfully = r.lawfully;
      views_are = views_sit seats s.views r.order r.views_are;
    },
    refl,
  )

  pub splits : (id : ℕ) (v : Hands D) (h0 : Hand D) (hs : List (Hand D)) → v.hands ≡ h0 ∷ hs
      → Splits (Ordered seats lawful) id v (kept_hands v) (given_hands v)
  splits id v h0 hs is s r at = record {
    order = r.order;
    lawfully = r.lawfully;
    views_are = views_deal seats s.views r.order id v h0 hs is at r.views_are;
  }

  pub joins : (id other : ℕ) (v w : Hands D) → Joins (Ordered seats lawful) id v other w
      (joined_hands v w) no_hands
  joins id other v w s r at ne at' = record {
    order = r.order;
    lawfully = r.lawfully;
    views_are = views_gather seats s.views r.order id other v w at ne
        (sym (set_else s.views id other (joined_hands v w) ne) ∙ at') r.views_are;
  }

  -- Wherever the order, the words and the values at home are lawful, the seat, which is one of the
  -- table's, has a step and an act that keep them so, and that tell what they should.
  abbrev pub MovesOn : ℕ → Me S (Hands D) → ℕ → (ℕ → ℕ) → (ℕ → Me S (Hands D) → Type 0) → Type 0
  MovesOn slots me i f then = (order : List (StepBy D)) (words : List ℕ) (homes : List (Option S))
      → length homes ≡ slots → slice_index words i < 18446744073709551616
      → AreBySeats seats order → number_in me.0 < seats → steps_in me.0 ≡ steps_of
      (number_in me.0) order → lawful order words homes
      → (d : D) × (a : Act S) × Valid homes me.1 a × lawful (step_by (number_in me.0) d ∷ order)
      (set words i (f (slice_index words i))) (homes_after homes me.1 a)
      × then (slice_index words i) (one (number_in me.0) (d ∷ steps_in me.0), carried_after me.1 a)

  pub moves : (slots id : ℕ) (me : Me S (Hands D)) (i : ℕ) (f : ℕ → ℕ) (then : ℕ → Me S (Hands D)
      → Type 0) → me.0 ≡ one (number_in me.0) (steps_in me.0) → MovesOn slots me i f then
      → Allows (Ordered seats lawful) slots id me i f then
  moves slots id me i f then alone on s r all at wide =
      let p : ℕ = number_in me.0 in let ds : List D = steps_in me.0 in
      let here : get_elem? s.views id ≡ some (one p ds) = at ∙ ap some alone in
      let own = r.views_are.each_hand id (one p ds) here 0 (hand p ds) refl in
      let next =
      on r.order s.words s.homes all wide r.views_are.by_seats own.0 own.2 r.lawfully in (
        one p (next.0 ∷ ds),
        next.1,
        next.2,
        record {
          order = step_by p next.0 ∷ r.order;
          lawfully = next.3;
          views_are = views_step seats s.views r.order id p ds next.0 here r.views_are;
        },
        next.4,
      )

  -- the same for a step that may take and give slots: it goes with the word found and what the seat
  -- carries before and after
  abbrev pub MovesTaking : (ℕ → D → List (ℕ × S) → List (ℕ × S) → Type 0) → ℕ → Me S (Hands D) → ℕ
      → (ℕ → ℕ) → Type 0
  MovesTaking goes_with slots me i f = (order : List (StepBy D)) (words : List ℕ)
      (homes : List (Option S)) → length homes ≡ slots → slice_index words i < 18446744073709551616
      → AreBySeats seats order → number_in me.0 < seats → steps_in me.0 ≡ steps_of
      (number_in me.0) order → lawful order words homes
      → (d : D) × (a : Act S) × Valid homes me.1 a × lawful (step_by (number_in me.0) d ∷ order)
      (set words i (f (slice_index words i))) (homes_after homes me.1 a)
      × goes_with (slice_index words i) d me.1 (carried_after me.1 a)

  pub moves_taking : (moved : Step S → ℕ → D → List (ℕ × S) → List (ℕ × S) → Type 0) (st : Step S)
      (slots id : ℕ) (me : Me S (Hands D)) (i : ℕ) (f : ℕ → ℕ) → me.0 ≡ one (number_in me.0)
      (steps_in me.0)
      → MovesTaking (moved st) slots me i f → Allows (Ordered seats lawful) slots id me i f
      (Moved moved st me)
  moves_taking moved st slots id me i f alone on = moves slots id me i f (Moved moved st me) alone
      (λ order words homes all wide by few own good.
      let next = on order words homes all wide by few own good in
      (next.0, next.1, next.2, next.3, record { added = next.0; adds = refl; as_told = next.4 }))

  -- the same for a step that leaves all slots where they are
  abbrev pub GoesOn : ℕ → List D → ℕ → (ℕ → ℕ) → (ℕ → D) → (ℕ → List (StepBy D) → Type 0) → Type 0
  GoesOn p ds i f makes tells = (order : List (StepBy D)) (words : List ℕ) (homes : List (Option S))
      → AreBySeats seats order → p < seats → ds ≡ steps_of p order → lawful order words homes
      → lawful (step_by p (makes (slice_index words i)) ∷ order)
      (set words i (f (slice_index words i))) homes × tells (slice_index words i) order

  pub goes : (makes : Step S → ℕ → D) (tells : Step S → ℕ → List (StepBy D) → Type 0) (st : Step S)
      (slots id : ℕ) (me : Me S (Hands D)) (i : ℕ) (f : ℕ → ℕ)
      → me ≡ (one (number_in me.0) (steps_in me.0), [])
      → GoesOn (number_in me.0) (steps_in me.0) i f (makes st) (tells st)
      → Allows (Ordered seats lawful) slots id me i f (Made makes tells st me)
  goes makes tells st slots id me i f is on = moves slots id me i f (Made makes tells st me)
      (ap (λ m. m.0) is)
      (λ order words homes _ _ by few own good. let next = on order words homes by few own good in (
        makes st (slice_index words i),
        keeps,
        tt,
        next.0,
        record {
          adds = refl;
          order = order;
          part = own;
          told = next.1;
        },
      ))
