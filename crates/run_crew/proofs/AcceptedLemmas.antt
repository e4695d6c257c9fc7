-- How many packets a seat's puts had accepted.
use Rattle.std.specs.List.{cons_option}
use Rattle.std.proofs.lemmas.List.Elements.{filter_map-append}
use Rattle.hop_rule.specs.Owns.{PutMade, put_in}
use Rattle.hop_rule.specs.declared.step.BoardStep.TheVariants.{Counted, LaneIn, LaneOut, OutCounted}
use Rattle.hop_rule.specs.declared.step.Change.TheVariants.{Nothing, Offered, Pulled}
use Rattle.hop_rule.specs.declared.step.GateStep.TheVariants.{Entered}
use Rattle.hop_rule.specs.declared.step.LaneStep.TheVariants.{Freed, Given, Held, Missed, OutFreed}
use Rattle.hop_rule.specs.declared.step.LaneStep.TheVariants.{OutMissed, Retired}
use Rattle.hop_rule.proofs.Gates.{sum_one}
use Rattle.board_api.specs.OwnSteps.{accepted_by}
use Rattle.hop_delivery.specs.Orders.Turns.{Explained, turn_put, visit_with}
use Rattle.run_workers.specs.Hands.Pollers.{count_after}
use Rattle.run_workers.specs.Records.Polling.{accepted_turns}
use Rattle.run_crew.proofs.Names.{◌≡◌, ◌≢◌, ◌⊎◌, inl, inr, ℕ, zero, suc, ◌+◌, ◌<◌, ◌≤◌, List, []}
use Rattle.run_crew.proofs.Names.{◌∷◌, ◌++◌, Some, None, All, length, map, sym, refl, ap, ◌∙◌}
use Rattle.run_crew.proofs.Names.{arith, cases_lt, All-head, All-tail, StepBy, steps_of, if_other}
use Rattle.run_crew.proofs.Names.{if_same, Put, At, Dropped, sum_below, puts_of, BoardStep, Gate}
use Rattle.run_crew.proofs.Names.{Lane, Weighed, OutHeld, sum_same, Turn, PolledTurn, turns_in}

-- how many of these answers are that a packet was accepted
abbrev pub taken : List Put → ℕ
taken [] = 0
taken (a ∷ rest) = count_after (taken rest) a

abbrev pub answers_of : List PutMade → List Put
answers_of ps = map (λ (p : PutMade). p.answer) ps

abbrev pub answers_in : List Turn → List Put
answers_in us = map (λ (u : Turn). u.answer) us

-- the answer counts alike after any two counts
counts-alike : (m n : ℕ) (a : Put) → count_after m a + n ≡ m + count_after n a
counts-alike m n (At k) = omega arith
counts-alike m n (Dropped number accepted pulled cause) = refl

-- one more at one index is at most one more in all
pub one-more : (f g : ℕ → ℕ) (n k : ℕ) → f k ≡ suc (g k) → ((p : ℕ) → k ≢ p → f p ≡ g p)
    → sum_below f n ≤ suc (sum_below g n)
one-more f g n k here other = at (cases_lt k n)
  where
    at : (k < n) ⊎ (n ≤ k) → sum_below f n ≤ suc (sum_below g n)
    at (inl less) =
        let one = sum_one f g n k less (λ p low ne. other p (λ same. ne (sym same))) in
        omega (arith, one, here)
    at (inr more) =
        let same = sum_same f g n (λ p low. other p (λ is. beyond is low more)) in
        omega (arith, same)
      where
        beyond : {k p n : ℕ} → k ≡ p → p < n → n ≤ k → ⊥
        beyond is low more = omega (arith, is, low, more)

abbrev Fits : ℕ → List BoardStep → Type 0
Fits lanes ds =
    sum_below (λ l. length (accepted_by l ds)) lanes ≤ taken (answers_of (puts_of ds))

-- the lanes have accepted at most what the puts say
pub accepted-fit : (lanes : ℕ) (ds : List BoardStep) → Fits lanes ds
accepted-fit lanes [] = let none = zeros lanes in omega (arith, none)
  where
    zeros : (n : ℕ) → sum_below (λ l. 0) n ≡ 0
    zeros zero = refl
    zeros (suc n) = let rest = zeros n in omega (arith, rest)
accepted-fit lanes (Lane (Freed i (Offered id hash (At n))) ∷ ds) =
    let d : BoardStep = Lane (Freed i (Offered id hash (At n))) in
    let rest = accepted-fit lanes ds in
    let more = one-more (λ l. length (accepted_by l (d ∷ ds)))
    (λ l. length (accepted_by l ds)) lanes
    i (ap (λ o. length (cons_option o (accepted_by i ds))) (if_same i i (Some id) None refl))
    (λ p ne. ap (λ o. length (cons_option o (accepted_by p ds))) (if_other i p (Some id) None ne))
    in
    omega (arith, rest, more)
accepted-fit lanes (Lane (Freed i (Offered id hash (Dropped number accepted pulled cause))) ∷ ds) =
    accepted-fit lanes ds
accepted-fit lanes (Lane (Freed i (Pulled id)) ∷ ds) = accepted-fit lanes ds
accepted-fit lanes (Lane (Freed i Nothing) ∷ ds) = accepted-fit lanes ds
accepted-fit lanes (Lane (Given o from id place) ∷ ds) = accepted-fit lanes ds
accepted-fit lanes (Lane (Held l w x) ∷ ds) = accepted-fit lanes ds
accepted-fit lanes (Lane (Missed l w) ∷ ds) = accepted-fit lanes ds
accepted-fit lanes (Lane (OutHeld o w x) ∷ ds) = accepted-fit lanes ds
accepted-fit lanes (Lane (OutMissed o w) ∷ ds) = accepted-fit lanes ds
accepted-fit lanes (Lane (OutFreed o) ∷ ds) = accepted-fit lanes ds
accepted-fit lanes (Lane (Retired l w) ∷ ds) = accepted-fit lanes ds
accepted-fit lanes (Gate g ∷ ds) = accepted-fit lanes ds
accepted-fit lanes (Weighed l w ∷ ds) = accepted-fit lanes ds
accepted-fit lanes (Counted l w ∷ ds) = accepted-fit lanes ds
accepted-fit lanes (OutCounted o w ∷ ds) = accepted-fit lanes ds
accepted-fit lanes (LaneOut k ∷ ds) = accepted-fit lanes ds
accepted-fit lanes (LaneIn k ∷ ds) = accepted-fit lanes ds

-- the puts of a list are those of the turns that explain it
pub answers-are : (ds : List BoardStep) (ts : List (StepBy Turn)) → Explained ds ts
    → answers_of (puts_of ds) ≡ map (λ (e : StepBy Turn). e.step.answer) ts
answers-are ds [] none = ap answers_of none
answers-are ds (t ∷ ts) (newer, late, older, are, quiet, late_quiet, early_quiet, rest) =
    let one = ap (λ xs. answers_of (puts_of xs)) are in
    let two = filter_map-append put_in newer (visit_with t.step late older) in
    let three = filter_map-append put_in late
    (turn_put t.step ∷ (t.step.early ++ (Gate (Entered t.step.word) ∷ older))) in
    let four = filter_map-append put_in t.step.early (Gate (Entered t.step.word) ∷ older) in
    one
    ∙ (ap answers_of (two ∙ ap (λ ps. ps ++ puts_of (visit_with t.step late older)) quiet)
    ∙ (ap answers_of
    (three
    ∙ ap (λ ps. ps ++ puts_of (turn_put t.step
    ∷ (t.step.early ++ (Gate (Entered t.step.word) ∷ older)))) late_quiet.puts)
    ∙ (ap (λ ps. t.step.answer ∷ answers_of ps)
    (four ∙ ap (λ ps. ps ++ puts_of older) early_quiet.puts)
    ∙ ap (λ as_. t.step.answer ∷ as_) (answers-are older ts rest))))

-- ---- by producers

abbrev pub taken_by : ℕ → List (StepBy Turn) → ℕ
taken_by p es = taken (answers_in (steps_of p es))

pub by-producers : (count : ℕ) (es : List (StepBy Turn))
    → All (λ (e : StepBy Turn). e.by < count) es
    → taken (map (λ (e : StepBy Turn). e.step.answer) es) ≤ sum_below (λ p. taken_by p es) count
by-producers count [] all = omega arith
by-producers count (e ∷ es) all =
    let rest = by-producers count es (All-tail (λ (e : StepBy Turn). e.by < count) e es all) in
    let one = sum_one (λ p. taken_by p (e ∷ es)) (λ p. taken_by p es) count e.by
    (All-head (λ (e : StepBy Turn). e.by < count) e es all)
    (λ p less ne. ap (λ us. taken (answers_in us))
    (if_other e.by p (e.step ∷ steps_of p es) (steps_of p es) (λ is. ne (sym is)))) in
    let here : taken_by e.by (e ∷ es) ≡ count_after (taken_by e.by es) e.step.answer =
    ap (λ us. taken (answers_in us))
    (if_same e.by e.by (e.step ∷ steps_of e.by es) (steps_of e.by es) refl) in
    let alike =
    counts-alike (taken (map (λ (e : StepBy Turn). e.step.answer) es)) (taken_by e.by es)
    e.step.answer in
    omega (arith, rest, one, here, alike)

-- a poller's count is that of its turns
pub accepted-is : (ss : List PolledTurn) → accepted_turns ss ≡ taken (answers_in (turns_in ss))
accepted-is [] = refl
accepted-is (s ∷ ss) = ap (λ n. count_after n s.turn.answer) (accepted-is ss)
