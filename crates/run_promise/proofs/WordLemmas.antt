-- The moments of the steps at the words that threads share.
use Rattle.std.proofs.Common.{◌≡◌, ◌≢◌, ℕ, ◌<◌, List, [], ◌∷◌, Some, length, sym, refl, ap}
use Rattle.std.proofs.Common.{◌∙◌, arith, if◌then◌else◌, ◌==◌}
use Rattle.std.specs.List.{Contains}
use Rattle.linearization.specs.Seats.{SeatView}
use Rattle.hint_words.specs.Closings.{HaveEnded, HaveMoments, IsWrittenBy, step_at}
use Rattle.hint_words.specs.declared.step.HintStep.{HintStep}
use Rattle.hint_words.specs.declared.step.HintStep.TheVariants.{Load, Store}
use Rattle.hint_words.proofs.Changes.{changes_are_written}
use Rattle.hint_words.proofs.Moments.{words_have_moments}
use Rattle.hop_rule.specs.Moments.{nth_step}
use Rattle.hop_rule.proofs.Moments.{nth-inside}
use Rattle.run_coupling.specs.Coupling.Marks.{FoundSet}

-- steps of hint words and of boards are numbered in one way
step-nth : (ds : List HintStep) (k : ℕ) → step_at ds k ≡ nth_step ds k
step-nth [] k = refl
step-nth (d ∷ ds) k = ap (λ o. if length ds == k then Some d else o) (step-nth ds k)

-- Before a moment one of the seats had stored n at the word, by one of its own steps.
pub record WasStored (seats : List (SeatView HintStep)) (at : (seat step : ℕ) → ℕ)
    (word n moment : ℕ) : Type 0 where
  pub seat : SeatView HintStep
  pub among : Contains seats seat
  pub step : ℕ
  pub stores : nth_step seat.steps step ≡ Some (Store word n)
  pub before : at seat.number step < moment

module _ (seats : List (SeatView HintStep)) (ended : HaveEnded seats) where
  abbrev moments : HaveMoments seats
  moments = words_have_moments seats ended

  abbrev pub moment : (seat step : ℕ) → ℕ
  moment = moments.at

  pub in-turn : (seat : SeatView HintStep) (j k : ℕ) (d : HintStep) → Contains seats seat → j < k
      → nth_step seat.steps k ≡ Some d → moment seat.number j < moment seat.number k
  in-turn seat j k d among less at =
      moments.in_turn seat j k among less (nth-inside seat.steps k d at)

  -- a value other than 0 that a seat loaded was stored before
  pub was-stored : (seat : SeatView HintStep) (k word n : ℕ) → Contains seats seat
      → nth_step seat.steps k ≡ Some (Load word n) → n ≢ 0
      → WasStored seats moment word n (moment seat.number k)
  was-stored seat k word n among at set =
      let s = moments.found seat k word n among (step-nth seat.steps k ∙ at) set in
      record {
        seat = s.seat;
        among = s.among;
        step = s.step;
        stores = sym (step-nth s.seat.steps s.step) ∙ s.stores;
        before = s.before;
      }

  -- what a seat found set before a step of its own was stored before that step
  pub found-stored : (seat : SeatView HintStep) (word n : ℕ) (d : HintStep) → Contains seats seat
      → (f : FoundSet seat word n) → nth_step seat.steps n ≡ Some d
      → WasStored seats moment word f.value (moment seat.number n)
  found-stored seat word n d among f at =
      let s = was-stored seat f.step word f.value among f.loads f.set in
      let less = in-turn seat f.step n d among f.earlier at in
      let before = s.before in
      record {
        seat = s.seat;
        among = s.among;
        step = s.step;
        stores = s.stores;
        before = omega (arith, before, less);
      }

  -- what a seat found changed was written
  pub was-written : (seat : SeatView HintStep) (word first second m n : ℕ) → Contains seats seat
      → first < second → nth_step seat.steps first ≡ Some (Load word m)
      → nth_step seat.steps second ≡ Some (Load word n) → m ≢ n → IsWrittenBy seats word n
  was-written seat word first second m n among less one two other =
      changes_are_written seats seat word first second m n ended among less
      (step-nth seat.steps first ∙ one) (step-nth seat.steps second ∙ two) other
