-- What a worker has finished never falls, and what it has told is no more.
use Rattle.std.specs.Prelude.{slice_get}
use Rattle.std.specs.List.{sum, sum_by}
use Rattle.std.proofs.lemmas.Bool.{cases_eq}
use Rattle.std.proofs.lemmas.List.{length-append}
use Rattle.std.proofs.lemmas.List.Elements.{All-contains}
use Rattle.std.proofs.lemmas.List.Sums.{sum_by-cons, sum_by-take-le}
use Rattle.hint_words.specs.Loads.{ComesFrom, LoadsAreStored}
use Rattle.hint_words.specs.declared.step.HintStep.TheVariants.{ClearIf, Store}
use Rattle.board_api.specs.OwnSteps.{retired_by, retired_in as retired_step}
use Rattle.run_workers.specs.declared.tally.Counter.{Counter}
use Rattle.run_workers.specs.declared.tally.Tally.{Tally}
use Rattle.run_words.specs.declared.hint_word.TheConstants.{DONE_WORD}
use Rattle.run_words.specs.declared.values.TheConstants.{DONE as DONE_VALUE}
use Rattle.run_workers.specs.Tally.{HasFinished, IsCounter, Loaded, LoadedCountsHold}
use Rattle.run_workers.specs.Tally.{StoreAtMostTheirs, StoresAtMost}
use Rattle.run_workers.proofs.Names.{◌≡◌, ◌≢◌, ◌⊎◌, inl, inr, ℕ, zero, suc, ◌+◌, ◌<◌, ◌≤◌, List, []}
use Rattle.run_workers.proofs.Names.{◌∷◌, All, Some, refl, sym, ap, subst, ◌∙◌, length, arith, take}
use Rattle.run_workers.proofs.Names.{Contains, filter_map-append, SeatView, HintStep, Load}
use Rattle.run_workers.proofs.Names.{none-some, some-is, BoardStep, Drain, Worker, Seats, Each}
use Rattle.run_workers.proofs.Names.{KeepsDrain, actor_at, Port, Grows, StageView, CountsOn}
use Rattle.run_workers.proofs.Names.{dropped_by, finished_by, GoesOn, IsWorking}
use Rattle.run_workers.proofs.EachLemmas.{item_at}
use Rattle.run_workers.proofs.Records.ListLemmas.{contains_first, contains_later}

abbrev Hint : Type 0
Hint = SeatView HintStep

-- ---- what is finished never falls

-- sums of lists of one length, of which each item is no less
sums_rise : {A : Type 0} (f : A → ℕ) (xs ys : List A) → length ys ≡ length xs
    → Each (λ k y. (x : A) → slice_get xs k ≡ Some x → f x ≤ f y) ys → sum_by f xs ≤ sum_by f ys
sums_rise f [] [] same each = omega arith
sums_rise f [] (y ∷ ys) same each = absurd (omega (arith, same))
sums_rise f (x ∷ xs) [] same each = absurd (omega (arith, same))
sums_rise f (x ∷ xs) (y ∷ ys) same each =
    let one = each 0 y refl x refl in
    let rest = sums_rise f xs ys (omega (arith, same))
    (λ k z got w there. each (suc k) z got w there) in
    let first = sum_by-cons f x xs in
    let last = sum_by-cons f y ys in
    omega (arith, one, rest, first, last)

-- the packets that a lane has retired in a longer list of steps
retired_more : (l : ℕ) (before after : List BoardStep) → Grows before after
    → length (retired_by l before) ≤ length (retired_by l after)
retired_more l before after (newer, is) =
    let whole = ap (λ ds. length (retired_by l ds)) is in
    let parts = ap length (filter_map-append (retired_step l) newer before) in
    let sizes = length-append (retired_by l newer) (retired_by l before) in
    omega (arith, whole, parts, sizes)

module _ (t : StageView) (w v : Worker) (s r : Seats) (x : IsWorking t w s)
    (goes : GoesOn t w v s r) where
  ship_rises : (k : ℕ) (e d : Drain) → slice_get v.ships.items k ≡ Some e
      → slice_get w.ships.items k ≡ Some d → d.retired ≤ e.retired
  ship_rises k e d there was =
      let old : KeepsDrain t.tx.sizes t.shared.given Port s.tx k d = x.ships k d was in
      let new : KeepsDrain t.tx.sizes t.shared.given Port r.tx k e = goes.is.ships k e there in
      let lane : e.lane ≡ d.lane =
      new.own ∙ (ap (λ n. actor_at t.tx.sizes n k) goes.same.tx_number ∙ sym old.own) in
      let more = retired_more d.lane s.tx.steps r.tx.steps goes.same.tx_steps in
      let was_retired = old.is.retired in
      let is_retired = new.is.retired
      ∙ ap (λ l. length (retired_by l r.tx.steps)) lane in
      omega (arith, more, was_retired, is_retired)

  pub finished_rises : finished_by w ≤ finished_by v
  finished_rises =
      let drops = sums_rise dropped_by w.pollers.items v.pollers.items goes.same.pollers
      goes.same.drops in
      let retired = sums_rise (λ (d : Drain). d.retired) w.ships.items v.ships.items
      goes.same.ships (λ k e there d was. ship_rises k e d there was) in
      omega (arith, drops, retired)

-- ---- what was told

-- a counter that told no more than less
pub counts_rise : (t : Tally) (c : Counter) (low high : ℕ) → low ≤ high → IsCounter t c low
    → IsCounter t c high
counts_rise t c low high less x =
    record {
      is_tally = x.is_tally;
      table = x.table;
      number = x.number;
      stores = λ word value has.
          let told = x.stores word value has in
          let most = told.1 in
          (told.0, omega (arith, most, less));
    }

pub counts_first : (t : Tally) (c : Counter) (count : ℕ) → IsCounter t c count
    → CountsOn t c c count
counts_first t c count x = record { is = x; same = refl }

pub counts_both : (t : Tally) (a b c : Counter) (low high : ℕ) → CountsOn t a b low
    → CountsOn t b c high → CountsOn t a c high
counts_both t a b c low high first second =
    record { is = second.is; same = second.same ∙ first.same }

-- the counter stays while its worker goes on
pub counts_stay : (t : StageView) (tally : Tally) (a b : Counter) (w v : Worker) (s r : Seats)
    → IsWorking t w s → GoesOn t w v s r → CountsOn tally a b (finished_by w)
    → CountsOn tally a b (finished_by v)
counts_stay t tally a b w v s r x goes counts =
    record {
      is = counts_rise tally b (finished_by w) (finished_by v) (finished_rises t w v s r x goes)
          counts.is;
      same = counts.same;
    }

-- a step more at the seat of a counter
module _ (t : Tally) (c d : Counter) (count : ℕ) (step : HintStep)
    (seat : d.seat ≡ record c.seat { steps = step ∷ c.seat.steps }) (same : d.number ≡ c.number)
    (x : IsCounter t c count) where
  stored : (word value : ℕ) → Contains (step ∷ c.seat.steps) (Store word value)
      → (step ≡ Store word value) ⊎ Contains c.seat.steps (Store word value)
  stored word value (zero, less, is) = inl is
  stored word value (suc k, less, is) = inr (k, omega (arith, less), is)

  pub counts_more : ((word value : ℕ) → step ≡ Store word value
      → (word ≡ c.number) × (value ≤ count)) → CountsOn t c d count
  counts_more mine =
      record {
        is = record {
          is_tally = x.is_tally;
          table = ap (λ (h : Hint). h.table) seat ∙ x.table;
          number = subst (λ n. n < t.workers) (sym same) x.number;
          stores = subst (λ n. StoresAtMost n count d.seat.steps) (sym same)
              (subst (StoresAtMost c.number count) (sym (ap (λ (h : Hint). h.steps) seat))
              (λ word value has. elim (stored word value has) [
                | inl this ↦ mine word value this
                | inr older ↦ x.stores word value older
              ]));
        };
        same = same;
      }

-- the word and the value of a step
abbrev word_of : HintStep → ℕ
word_of (Load word value) = word
word_of (Store word value) = word
word_of (ClearIf word value done) = word

abbrev value_of : HintStep → ℕ
value_of (Load word value) = value
value_of (Store word value) = value
value_of (ClearIf word value done) = value

-- the counter told a count that is no more than this
pub counter_tells : (t : Tally) (c d : Counter) (count told : ℕ)
    → d.seat ≡ record c.seat { steps = Store c.number told ∷ c.seat.steps }
    → d.number ≡ c.number → told ≤ count → IsCounter t c count → CountsOn t c d count
counter_tells t c d count told seat same most x =
    counts_more t c d count (Store c.number told) seat same x
    (λ word value is.
    let here = ap word_of is in
    let what = ap value_of is in
    (sym here, omega (arith, most, what)))

-- the counter loaded a word
pub counter_loads : (t : Tally) (c d : Counter) (count word value : ℕ)
    → d.seat ≡ record c.seat { steps = Load word value ∷ c.seat.steps }
    → d.number ≡ c.number → IsCounter t c count → CountsOn t c d count
counter_loads t c d count word value seat same x =
    counts_more t c d count (Load word value) seat same x
    (λ other v is. no_store word value other v is)
  where
    no_store : {A : Type 0} (a b i n : ℕ) → Load a b ≡ Store i n → A
    no_store a b i n e = cc

-- ---- what was loaded

pub loaded_later : (before after : List HintStep) (w total : ℕ) → Grows before after
    → Loaded before w total → Loaded after w total
loaded_later before after zero total grows loaded = loaded
loaded_later before after (suc w) total grows (rest, value, lower, has, is) = (
  rest,
  value,
  loaded_later before after w rest grows lower,
  contains_later before after (Load w value) grows has,
  is,
)

-- with one word more
pub loaded_more : (before after : List HintStep) (w total value : ℕ)
    → after ≡ Load w value ∷ before → Loaded before w total → Loaded after (w + 1) (total + value)
loaded_more before after w total value is loaded =
    subst (λ n. Loaded after n (total + value)) one_more (
      total,
      value,
      loaded_later before after w total (Load w value ∷ [], is) loaded,
      subst (λ ds. Contains ds (Load w value)) (sym is) (contains_first (Load w value) before),
      refl,
    )
  where
    one_more : suc w ≡ w + 1
    one_more = omega arith

-- all packets were finished before these steps at the hint words
pub finished_later : (workers packets : ℕ) (old mid new : Seats) (c : Counter)
    → Grows old.hint.steps mid.hint.steps → Grows mid.hint.steps new.hint.steps
    → HasFinished workers packets old c → HasFinished workers packets new c
finished_later workers packets old mid new c first second x =
    record {
      arrived = contains_later mid.hint.steps new.hint.steps (Load DONE_WORD DONE_VALUE) second
          (contains_later old.hint.steps mid.hint.steps (Load DONE_WORD DONE_VALUE) first
          x.arrived);
      saw = x.saw;
    }

-- ---- the closing

module _ (counts : List ℕ) (seats : List Hint) (stored : LoadsAreStored seats)
    (own : StoreAtMostTheirs counts seats) where
  place_of : {A : Type 0} (xs : List A) (x : A) → Contains xs x
      → (k : ℕ) × (slice_get xs k ≡ Some x)
  place_of [] x (k, less, is) = absurd (omega (arith, less))
  place_of (y ∷ ys) x (zero, less, is) = (0, ap Some is)
  place_of (y ∷ ys) x (suc k, less, is) =
      let rest = place_of ys x (k, omega (arith, less), is) in (suc rest.0, rest.1)

  -- a value that was stored at a word is no more than its count
  stored_most : (word value count : ℕ) (s : Hint) → Contains seats s
      → Contains s.steps (Store word value) → slice_get counts word ≡ Some count → value ≤ count
  stored_most word value count s among has there =
      let place = place_of seats s among in
      let mine = own place.0 s place.1 in
      let told = mine.2 word value has in
      let most = told.1 in
      let same = some-is mine.0 count
      (sym mine.1 ∙ (ap (slice_get counts) (sym told.0) ∙ there)) in
      omega (arith, most, same)

  -- so is a value that was loaded
  loaded_most : (seat : Hint) → Contains seats seat → (word value count : ℕ)
      → Contains seat.steps (Load word value) → slice_get counts word ≡ Some count
      → value ≤ count
  loaded_most seat among word value count has there = by_value (cases_eq value 0)
    where
      by_value : (value ≡ 0) ⊎ (value ≢ 0) → value ≤ count
      by_value (inl none) = omega (arith, none)
      by_value (inr some) =
          let from = All-contains (ComesFrom seats) seat.steps (Load word value)
          (All-contains (λ (s : Hint). All (ComesFrom seats) s.steps) seats seat stored among)
          has some in
          stored_most word value count from.seat from.among from.stores there

  front_more : (xs : List ℕ) (i n : ℕ) → slice_get xs i ≡ Some n
      → sum (take (suc i) xs) ≡ sum (take i xs) + n
  front_more [] i n there = none-some n there
  front_more (x ∷ xs) zero n there = let same = some-is x n there in omega (arith, same)
  front_more (x ∷ xs) (suc i) n there =
      let rest = front_more xs i n there in
      let more = sum_by-cons (λ (y : ℕ). y) x (take (suc i) xs) in
      let less = sum_by-cons (λ (y : ℕ). y) x (take i xs) in
      omega (arith, rest, more, less)

  loaded_front : (seat : Hint) → Contains seats seat → (w total : ℕ) → w ≤ length counts
      → Loaded seat.steps w total → total ≤ sum (take w counts)
  loaded_front seat among zero total within none = omega (arith, none)
  loaded_front seat among (suc w) total within (rest, value, lower, has, is) =
      let own_count = item_at counts w (omega (arith, within)) in
      let most = loaded_most seat among w value own_count.0 has own_count.1 in
      let front = loaded_front seat among w rest (omega (arith, within)) lower in
      let more = front_more counts w own_count.0 own_count.1 in
      omega (arith, is, most, front, more)

pub loaded_counts_hold : LoadedCountsHold
loaded_counts_hold counts seats seat packets stored own among (total, loaded, enough) =
    let front = loaded_front counts seats stored own seat among (length counts) total
    (omega arith) loaded in
    let all = sum_by-take-le (λ (n : ℕ). n) counts (length counts) in
    omega (arith, enough, front, all)
