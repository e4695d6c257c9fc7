-- The moments of steps: how many steps an order has before them.
use Rattle.std.proofs.Common.{◌≡◌, ◌≢◌, ℕ, zero, suc, ◌<◌, ◌==◌, List, [], ◌∷◌, ◌++◌, Some}
use Rattle.std.proofs.Common.{length, if◌then◌else◌, sym, refl, ap, ◌∙◌, subst, arith}
use Rattle.std.proofs.Common.{append_assoc}
use Rattle.std.specs.List.{Contains}
use Rattle.std.proofs.lemmas.List.Elements.{All-contains}
use mathlib.Core.Logic.{dite}
use native.Mathlib.Decide.{ℕ_discrete}
use Rattle.linearization.specs.Orders.{StepBy, step_by, steps_of}
use Rattle.linearization.specs.Seats.{HasPart, IsByOne, SeatView}
use Rattle.linearization.proofs.ListLemmas.{if_same, if_other}
use Rattle.hint_words.specs.Closings.{HaveEnded, IsStoredBefore, WordsHaveMoments}
use Rattle.hint_words.specs.Closings.{step_at}
use Rattle.hint_words.specs.declared.step.HintStep.{HintStep}
use Rattle.hint_words.specs.declared.step.HintStep.TheVariants.{Load, Store}
use Rattle.hint_words.specs.Steps.{IsLawful, word_after}
use Rattle.hint_words.proofs.Changes.{IsAt, is-at, longer, member-older, older-lawful}
use Rattle.hint_words.proofs.Sources.{IsStored, from_map, stored_word}

-- the moment of the k-th of a seat's own steps, from 0
moment_of : ℕ → List (StepBy HintStep) → ℕ → ℕ
moment_of p [] k = 0
moment_of p (e ∷ es) k =
    if e.by == p then (if length (steps_of p es) == k then length es else moment_of p es k)
    else moment_of p es k

module _ (p : ℕ) (e : StepBy HintStep) (es : List (StepBy HintStep)) (k : ℕ) where
  of-other : (e.by ≡ p → ⊥) → moment_of p (e ∷ es) k ≡ moment_of p es k
  unfolding moment_of
  of-other other =
      if_other e.by p
      (if length (steps_of p es) == k then length es else moment_of p es k) (moment_of p es k)
      other

  of-mine : e.by ≡ p → moment_of p (e ∷ es) k
      ≡ (if length (steps_of p es) == k then length es else moment_of p es k)
  unfolding moment_of
  of-mine mine =
      if_same e.by p
      (if length (steps_of p es) == k then length es else moment_of p es k) (moment_of p es k) mine

  of-last : e.by ≡ p → length (steps_of p es) ≡ k → moment_of p (e ∷ es) k ≡ length es
  of-last mine last =
      of-mine mine ∙ if_same (length (steps_of p es)) k (length es) (moment_of p es k) last

  of-older : e.by ≡ p → length (steps_of p es) ≢ k → moment_of p (e ∷ es) k ≡ moment_of p es k
  of-older mine older =
      of-mine mine ∙ if_other (length (steps_of p es)) k (length es) (moment_of p es k) older

-- ---- a seat's steps are in turn

counted : (p : ℕ) (e : StepBy HintStep) (es : List (StepBy HintStep)) → e.by ≡ p
    → length (steps_of p (e ∷ es)) ≡ suc (length (steps_of p es))
counted p e es mine = ap length (if_same e.by p (e.step ∷ steps_of p es) (steps_of p es) mine)

uncounted : (p : ℕ) (e : StepBy HintStep) (es : List (StepBy HintStep)) → e.by ≢ p
    → length (steps_of p (e ∷ es)) ≡ length (steps_of p es)
uncounted p e es other = ap length (if_other e.by p (e.step ∷ steps_of p es) (steps_of p es) other)

within : (p : ℕ) (order : List (StepBy HintStep)) (k : ℕ) → k < length (steps_of p order)
    → moment_of p order k < length order
within p [] k less = absurd (omega (arith, less))
within p (e ∷ es) k less =
    dite (ℕ_discrete e.by p)
    (λ mine.
    let n = counted p e es mine in
    dite (ℕ_discrete (length (steps_of p es)) k)
    (λ last. let is = of-last p e es k mine last in omega (arith, is))
    (λ older.
    let is = of-older p e es k mine older in
    let below = within p es k (omega (arith, less, n, older)) in
    omega (arith, is, below)))
    (λ other.
    let n = uncounted p e es other in
    let is = of-other p e es k other in
    let below = within p es k (omega (arith, less, n)) in
    omega (arith, is, below))

rises : (p : ℕ) (order : List (StepBy HintStep)) (j k : ℕ) → j < k → k < length (steps_of p order)
    → moment_of p order j < moment_of p order k
rises p [] j k before less = absurd (omega (arith, less))
rises p (e ∷ es) j k before less =
    dite (ℕ_discrete e.by p)
    (λ mine.
    let n = counted p e es mine in
    let first = of-older p e es j mine (λ same. absurd (omega (arith, before, less, n, same))) in
    dite (ℕ_discrete (length (steps_of p es)) k)
    (λ last.
    let second = of-last p e es k mine last in
    let below = within p es j (omega (arith, before, last)) in
    omega (arith, first, second, below))
    (λ older.
    let second = of-older p e es k mine older in
    let rest = rises p es j k before (omega (arith, less, n, older)) in
    omega (arith, first, second, rest)))
    (λ other.
    let n = uncounted p e es other in
    let first = of-other p e es j other in
    let second = of-other p e es k other in
    let rest = rises p es j k before (omega (arith, less, n)) in
    omega (arith, first, second, rest))

-- ---- a step with these older ones

record IsPlaced (order : List (StepBy HintStep)) (p : ℕ) (d : HintStep)
    (older : List (StepBy HintStep)) : Type 0 where
  step : step_at (steps_of p order) (length (steps_of p older)) ≡ Some d
  moment : moment_of p order (length (steps_of p older)) ≡ length older

placed : (newer older : List (StepBy HintStep)) (p : ℕ) (d : HintStep)
    → IsPlaced (newer ++ step_by p d ∷ older) p d older
placed [] older p d =
    record {
      step = ap (λ ds. step_at ds (length (steps_of p older)))
          (if_same p p (d ∷ steps_of p older) (steps_of p older) refl)
          ∙ if_same (length (steps_of p older)) (length (steps_of p older)) (Some d)
          (step_at (steps_of p older) (length (steps_of p older))) refl;
      moment = of-last p (step_by p d) older (length (steps_of p older)) refl refl;
    }
placed (x ∷ newer) older p d =
    let rest : List (StepBy HintStep) = newer ++ step_by p d ∷ older in
    let k : ℕ = length (steps_of p older) in
    let before : IsPlaced rest p d older = placed newer older p d in
    let more = longer newer older p d in
    let past : length (steps_of p rest) ≢ k = λ same. absurd (omega (arith, more, same)) in
    dite (ℕ_discrete x.by p)
    (λ mine. record {
      step = ap (λ ds. step_at ds k) (if_same x.by p (x.step ∷ steps_of p rest)
          (steps_of p rest) mine)
          ∙ (if_other (length (steps_of p rest)) k (Some x.step) (step_at (steps_of p rest) k) past
          ∙ before.step);
      moment = of-older p x rest k mine past ∙ before.moment;
    })
    (λ other. record {
      step = ap (λ ds. step_at ds k) (if_other x.by p (x.step ∷ steps_of p rest)
          (steps_of p rest) other)
          ∙ before.step;
      moment = of-other p x rest k other ∙ before.moment;
    })

record IsCut (es : List (StepBy HintStep)) (e : StepBy HintStep) : Type 0 where
  newer : List (StepBy HintStep)
  older : List (StepBy HintStep)
  cut : es ≡ newer ++ e ∷ older

cut-at : (es : List (StepBy HintStep)) (e : StepBy HintStep) → Contains es e → IsCut es e
cut-at [] e c = let less = c.1 in absurd (omega (arith, less))
cut-at (x ∷ es) e (zero, less, is) =
    record { newer = []; older = es; cut = ap (λ (y : StepBy HintStep). y ∷ es) is }
cut-at (x ∷ es) e (suc k, less, is) =
    let rest = cut-at es e (k, omega (arith, less), is) in
    record {
      newer = x ∷ rest.newer;
      older = rest.older;
      cut = ap (λ zs. x ∷ zs) rest.cut;
    }

shorter-than : (newer older : List (StepBy HintStep)) (e : StepBy HintStep)
    → length older < length (newer ++ e ∷ older)
shorter-than [] older e = omega arith
shorter-than (x ∷ newer) older e =
    let rest = shorter-than newer older e in omega (arith, rest)

-- ---- what a load found

module _ (seats : List (SeatView HintStep)) (ended : HaveEnded seats) where
  abbrev at : ℕ → ℕ → ℕ
  at p k = moment_of p ended.order k

  own : (seat : SeatView HintStep) → Contains seats seat
      → seat.steps ≡ steps_of seat.number ended.order
  own seat among = All-contains (HasPart ended.order) seats seat ended.parts.each among

  in_turn : (seat : SeatView HintStep) (j k : ℕ) → Contains seats seat → j < k
      → k < length seat.steps → at seat.number j < at seat.number k
  in_turn seat j k among before less =
      let n = ap length (own seat among) in
      rises seat.number ended.order j k before (omega (arith, less, n))

  module _ (seat : SeatView HintStep) (k i n : ℕ) (among : Contains seats seat)
      (loads : step_at seat.steps k ≡ Some (Load i n)) (set : n ≢ 0) where
    abbrev p : ℕ
    p = seat.number

    load : IsAt ended.order p k (Load i n)
    load = is-at ended.order p k (Load i n) (ap (λ ds. step_at ds k) (sym (own seat among)) ∙ loads)

    is-word : n ≡ word_after i load.older
    is-word =
        let lawful : IsLawful (step_by p (Load i n) ∷ load.older) =
        older-lawful load.newer (step_by p (Load i n) ∷ load.older)
        (subst IsLawful load.cut ended.lawful) in lawful.0

    stored : IsStored load.older i n
    stored =
        subst (λ (z : ℕ). IsStored load.older i z) (sym is-word)
        (stored_word load.older i (λ z. set (is-word ∙ z)))

    module _ (q : ℕ) (among-older : Contains load.older (step_by q (Store i n))) where
      store : IsCut load.older (step_by q (Store i n))
      store = cut-at load.older (step_by q (Store i n)) among-older

      whole : ended.order
          ≡ (load.newer ++ step_by p (Load i n) ∷ store.newer)
          ++ step_by q (Store i n) ∷ store.older
      whole =
          load.cut
          ∙ (ap (λ es. load.newer ++ step_by p (Load i n) ∷ es) store.cut
          ∙ sym (append_assoc load.newer (step_by p (Load i n) ∷ store.newer)
          (step_by q (Store i n) ∷ store.older)))

      store-placed : IsPlaced ended.order q (Store i n) store.older
      store-placed =
          subst (λ es. IsPlaced es q (Store i n) store.older) (sym whole)
          (placed (load.newer ++ step_by p (Load i n) ∷ store.newer) store.older q (Store i n))

      load-placed : IsPlaced ended.order p (Load i n) load.older
      load-placed =
          subst (λ es. IsPlaced es p (Load i n) load.older) (sym load.cut)
          (placed load.newer load.older p (Load i n))

      in-order : Contains ended.order (step_by q (Store i n))
      in-order =
          subst (λ es. Contains es (step_by q (Store i n))) (sym whole)
          (member-older (load.newer ++ step_by p (Load i n) ∷ store.newer)
          (step_by q (Store i n) ∷ store.older) (step_by q (Store i n)) (0, omega arith, refl))

      count : ℕ
      count = length (steps_of q store.older)

      before : moment_of q ended.order count < at p k
      unfolding count
      before =
          let same = ap (λ es. length es) store.cut in
          let there = store-placed.moment in
          let here = load-placed.moment in
          let of-load = ap (λ c. at p c) load.count in
          let shorter = shorter-than store.newer store.older (step_by q (Store i n)) in
          omega (arith, same, there, here, of-load, shorter)

      stored-before : IsStoredBefore seats at i n (at p k)
      unfolding count
      stored-before =
          let one = from_map (λ (x : SeatView HintStep). x.number) seats q
          (All-contains (IsByOne seats) ended.order (step_by q (Store i n)) ended.parts.whole
          in-order) in
          record {
            seat = one.0;
            among = one.1;
            step = count;
            stores = ap (λ ds. step_at ds count) (own one.0 one.1)
                ∙ (ap (λ (c : ℕ). step_at (steps_of c ended.order) count) one.2
                ∙ store-placed.step);
            before = subst (λ (c : ℕ). moment_of c ended.order count < at p k) (sym one.2) before;
          }

    found : IsStoredBefore seats at i n (at p k)
    found = stored-before stored.0 stored.1

pub words_have_moments : WordsHaveMoments
words_have_moments seats ended =
    record {
      at = λ p k. moment_of p ended.order k;
      in_turn = in_turn seats ended;
      found = found seats ended;
    }
