-- A worker after a look at a hint word, and how often it has looked.
use Rattle.std.proofs.Common.{cond}
use Rattle.std.proofs.lemmas.List.Sums.{sum_by-append, sum_by-cons}
use Rattle.run_words.specs.declared.hint_word.TheConstants.{DONE_WORD}
use Rattle.run_workers.proofs.Names.{◌≡◌, ℕ, ◌+◌, ◌≤◌, List, [], ◌∷◌, ◌++◌, refl, ap, ◌∙◌, arith}
use Rattle.run_workers.proofs.Names.{SeatView, HintStep, Load, Grows, StageView, GoesOn, IsWorking}
use Rattle.run_workers.proofs.Names.{Seats, Worker}
use Rattle.run_workers.proofs.Records.HintLemmas.{steps_one}
use Rattle.run_workers.proofs.Records.StoringLemmas.{load_stores}
use Rattle.run_workers.specs.Looks.{Looks, is_look, look_count}
use Rattle.run_workers.proofs.KeepLemmas.{receive_stays, transmit_stays, works}
use Rattle.run_workers.proofs.SameLemmas.{same_worker}

abbrev Hint : Type 0
Hint = SeatView HintStep

-- the worker's seat at the hint words has made one step, a load
module _ (t : StageView) (w : Worker) (s : Seats) (word value : ℕ) (hint : Hint)
    (step : hint ≡ record s.hint { steps = Load word value ∷ s.hint.steps })
    (x : IsWorking t w s) where
  abbrev looked_seats : Seats
  looked_seats = record s { hint = hint }

  grow : Grows s.hint.steps hint.steps
  grow = steps_one (Load word value) s.hint hint step

  table : hint.table ≡ s.hint.table
  table = ap (λ (h : Hint). h.table) step

  pub look_goes_on : GoesOn t w w s looked_seats
  look_goes_on =
      record {
        is = works t w w s looked_seats x x.turns x.replies x.marks x.noted
            (receive_stays t w w s looked_seats x grow refl refl refl)
            (transmit_stays t w w s looked_seats x grow refl refl refl ([], refl))
            (record {
              table = table ∙ x.hint_table;
              marked_by = x.marked_by;
              noted_by = x.noted_by;
              stores = load_stores t.shared.given t.shared.filters x.turns x.marks x.noted word
                  value s.hint hint step x.stores;
            });
        same = same_worker w s looked_seats refl refl table grow;
      }

  pub look_is_one : word ≡ DONE_WORD → Looks s looked_seats
  look_is_one done =
      let at : ℕ → Seats =
      λ n. record s { hint = record s.hint { steps = Load n value ∷ s.hint.steps } } in
      (value, ap (λ (h : Hint). record s { hint = h }) step ∙ ap at done)

-- ---- how often it looked

-- the count of looks never falls
looks_stay : (before after : List HintStep) → Grows before after
    → look_count before ≤ look_count after
looks_stay before after (newer, is) =
    let sum = sum_by-append (λ (d : HintStep). cond (is_look d) 1 0) newer before in
    let same : look_count after ≡ look_count (newer ++ before) = ap look_count is in
    omega (arith, sum, same)

-- and a look adds one
looks_grow : (old new : Seats) → Looks old new
    → look_count new.hint.steps ≡ look_count old.hint.steps + 1
looks_grow old new (value, is) =
    let sum =
    sum_by-cons (λ (d : HintStep). cond (is_look d) 1 0) (Load DONE_WORD value) old.hint.steps in
    let same : look_count new.hint.steps ≡ look_count (Load DONE_WORD value ∷ old.hint.steps) =
    ap (λ (s : Seats). look_count s.hint.steps) is in
    omega (arith, sum, same)

-- by a look and what follows it the count has grown by one
pub looks_more : (first old mid new : Seats) (idle : ℕ) → Looks old mid
    → Grows mid.hint.steps new.hint.steps
    → look_count first.hint.steps + idle ≤ look_count old.hint.steps
    → look_count first.hint.steps + (idle + 1) ≤ look_count new.hint.steps
looks_more first old mid new idle looks grow so_far =
    let one = looks_grow old mid looks in
    let more = looks_stay mid.hint.steps new.hint.steps grow in
    omega (arith, so_far, one, more)
