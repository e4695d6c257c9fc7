-- Lists of seats that are dealt out and taken in.
use Rattle.std.proofs.Common.{◌≡◌, ℕ, suc, ◌+◌, ◌-◌, ◌<◌, List, [], ◌∷◌, ◌++◌, append_assoc, sym}
use Rattle.std.proofs.Common.{ap, ◌∙◌, arith}
use Rattle.atomic_table.specs.Seated.{TableId}
use Rattle.linearization.specs.declared.hands.Hands.{Hands}
use Rattle.linearization.specs.Views.{hand, number_in, steps_in}
use Rattle.linearization.specs.Seats.{SeatView, seat_view, new_seats}

module _ {D : Type 0} where
  new_step : (z : TableId) (k n : ℕ) → k < n → new_seats {D = D} z k (n - k) ≡ seat_view z k []
      ∷ new_seats z (k + 1) (n - (k + 1))
  new_step z k n l = ap (new_seats z k) more
    where
      more : n - k ≡ suc (n - (k + 1))
      more = omega arith

  -- after one seat more
  pub dealt : (z : TableId) (k n : ℕ) (given all : List (SeatView D)) → k < n → given
      ++ new_seats z k (n - k) ≡ all
      → (given ++ seat_view z k [] ∷ []) ++ new_seats z (k + 1) (n - (k + 1)) ≡ all
  dealt z k n given all l before = append_assoc given (seat_view z k [] ∷ [])
      (new_seats z (k + 1) (n - (k + 1))) ∙ (ap (λ (r : List (SeatView D)). given ++ r)
      (sym (new_step z k n l)) ∙ before)

  -- a new seat as contracts see it
  pub seen_new : (w z : TableId) (v : Hands D) (k : ℕ) → w ≡ z → v.hands ≡ hand k [] ∷ []
      → seat_view w (number_in v) (steps_in v) ≡ seat_view z k []
  seen_new w z v k same is i = seat_view (same i) (number_in (record { hands = is i }))
      (steps_in (record { hands = is i }))
