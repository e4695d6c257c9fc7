-- Not more packets were accepted or dropped than choices were made.
use Rattle.std.proofs.lemmas.List.Elements.{filter_map-append}
use Rattle.linearization.specs.Orders.{steps_of}
use Rattle.steer_base.specs.declared.put.Put.TheVariants.{At, Dropped}
use Rattle.hop_rule.specs.Owns.{put_in, puts_of}
use Rattle.hop_rule.specs.declared.step.Change.TheVariants.{Offered}
use Rattle.board_api.specs.OwnSteps.{accepted_by, dropped_by}
use Rattle.hop_delivery.specs.Orders.Turns.{Explained, turn_put, visit_with}
use Rattle.run_coupling.specs.Laws.OneCount.{ChoicesAreOfTurns, choice_count, dropped_count}
use Rattle.run_coupling.specs.Coupling.Ends.{accepted_count}
use Rattle.run_coupling.proofs.Names.{◌≡◌, ◌≢◌, inl, inr, ℕ, zero, suc, ◌+◌, ◌<◌, ◌≤◌, List, []}
use Rattle.run_coupling.proofs.Names.{◌∷◌, ◌++◌, Some, None, length, All, sym, refl, ap, ◌∙◌, arith}
use Rattle.run_coupling.proofs.Names.{cons_option, cases_eq, All-cons, All-head, All-nil, All-tail}
use Rattle.run_coupling.proofs.Names.{StepBy, if_same, if_other, Chosen, list_at, sum_below}
use Rattle.run_coupling.proofs.Names.{BoardSizes, BoardStep, Gate, Lane, Entered, Freed, Execution}
use Rattle.run_coupling.proofs.Names.{turns_of, Turn}
use Rattle.run_coupling.proofs.Lists.SumLemmas.{sum-le, sum-plus, sum-swap}
use Rattle.run_coupling.proofs.Runs.TurnListLemmas.{turns-counted}

-- ---- sums

sum-none : (n : ℕ) → sum_below (λ q. 0) n ≡ 0
sum-none zero = refl
sum-none (suc n) = let rest = sum-none n in omega arith

-- one more at one index is at most one more in all
bump : (f g : ℕ → ℕ) (n k : ℕ) → f k ≡ suc (g k) → ((p : ℕ) → k ≢ p → f p ≡ g p)
    → sum_below f n ≤ suc (sum_below g n)
bump f g zero k here other = omega arith
bump f g (suc n) k here other =
    elim (cases_eq k n) [
      | inl e ↦
          (let top : f n ≡ suc (g n) = ap f (sym e) ∙ (here ∙ ap (λ m. suc (g m)) e) in
          let rest = sum-le f g n (λ p less.
          (let s = other p (λ is. absurd (omega arith)) in omega arith)) in
          omega arith)
      | inr ne ↦
          (let top = other n ne in
          let rest = bump f g n k here other in omega arith)
    ]

-- only one number is not 0
only-one : (f : ℕ → ℕ) (n k : ℕ) → ((q : ℕ) → k ≢ q → f q ≡ 0) → sum_below f n ≤ f k
only-one f zero k other = omega arith
only-one f (suc n) k other =
    elim (cases_eq k n) [
      | inl e ↦
          (let top : f n ≡ f k = ap f (sym e) in
          let rest = sum-le f (λ q. 0) n (λ p less.
          (let s = other p (λ is. absurd (omega arith)) in omega arith)) in
          let none = sum-none n in
          omega arith)
      | inr ne ↦
          (let top = other n ne in
          let rest = only-one f n k other in omega arith)
    ]

-- ---- the puts of a list

abbrev answered : List BoardStep → ℕ → ℕ
answered ds l = length (accepted_by l ds) + length (dropped_by l ds)

one-plus : (m n : ℕ) → suc m + n ≡ suc (m + n)
one-plus m n = omega arith

plus-one : (m n : ℕ) → m + suc n ≡ suc (m + n)
plus-one m n = omega arith

abbrev Fit : ℕ → List BoardStep → Type 0
Fit lanes ds = sum_below (answered ds) lanes ≤ length (puts_of ds)

puts-fit : (lanes : ℕ) (ds : List BoardStep) → Fit lanes ds
puts-fit lanes [] = let none = sum-none lanes in omega arith
puts-fit lanes (Lane (Freed i (Offered id hash (At n))) ∷ ds) =
    let d : BoardStep = Lane (Freed i (Offered id hash (At n))) in
    let rest = puts-fit lanes ds in
    let here : answered (d ∷ ds) i ≡ suc (answered ds i) =
    ap (λ o. length (cons_option o (accepted_by i ds)) + length (dropped_by i ds))
    (if_same i i (Some id) None refl)
    ∙ one-plus (length (accepted_by i ds)) (length (dropped_by i ds)) in
    let b = bump (answered (d ∷ ds)) (answered ds) lanes i here
    (λ p ne.
    ap (λ o. length (cons_option o (accepted_by p ds)) + length (dropped_by p ds))
    (if_other i p (Some id) None ne)) in
    omega arith
puts-fit lanes (Lane (Freed i (Offered id hash (Dropped number accepted pulled cause))) ∷ ds) =
    let d : BoardStep = Lane (Freed i (Offered id hash (Dropped number accepted pulled cause))) in
    let rest = puts-fit lanes ds in
    let here : answered (d ∷ ds) i ≡ suc (answered ds i) =
    ap (λ o. length (accepted_by i ds) + length (cons_option o (dropped_by i ds)))
    (if_same i i (Some id) None refl)
    ∙ plus-one (length (accepted_by i ds)) (length (dropped_by i ds)) in
    let b = bump (answered (d ∷ ds)) (answered ds) lanes i here
    (λ p ne.
    ap (λ o. length (accepted_by p ds) + length (cons_option o (dropped_by p ds)))
    (if_other i p (Some id) None ne)) in
    omega arith
puts-fit lanes (d ∷ ds) = puts-fit lanes ds

-- each turn is one put
puts-counted : (ds : List BoardStep) (ts : List (StepBy Turn)) → Explained ds ts
    → length (puts_of ds) ≡ length ts
puts-counted ds [] none = ap length none
puts-counted ds (t ∷ ts) (newer, late, older, are, quiet, late_quiet, early_quiet, rest) =
    let before = puts-counted older ts rest in
    let one = ap (λ xs. length (puts_of xs)) are in
    let two = filter_map-append put_in newer (visit_with t.step late older) in
    let three = filter_map-append put_in late
    (turn_put t.step ∷ (t.step.early ++ (Gate (Entered t.step.word) ∷ older))) in
    let four = filter_map-append put_in t.step.early (Gate (Entered t.step.word) ∷ older) in
    one
    ∙ (ap length (two ∙ ap (λ ps. ps ++ puts_of (visit_with t.step late older)) quiet)
    ∙ (ap length
    (three
    ∙ ap (λ ps. ps ++ puts_of (turn_put t.step
    ∷ (t.step.early ++ (Gate (Entered t.step.word) ∷ older)))) late_quiet.puts)
    ∙ (ap (λ ps. suc (length ps))
    (four ∙ ap (λ ps. ps ++ puts_of older) early_quiet.puts)
    ∙ ap suc before)))

-- ---- turns by producers

-- as many turns as those of all producers together
by-producers : (count : ℕ) (es : List (StepBy Turn)) → All (λ (e : StepBy Turn). e.by < count) es
    → length es ≤ sum_below (λ p. length (steps_of p es)) count
by-producers count [] all = omega arith
by-producers count (e ∷ es) all =
    let rest = by-producers count es (All-tail (λ (e : StepBy Turn). e.by < count) e es all) in
    let more = Rattle.hop_rule.proofs.Gates.sum_one (λ p. length (steps_of p (e ∷ es)))
    (λ p. length (steps_of p es)) count e.by
    (All-head (λ (e : StepBy Turn). e.by < count) e es all)
    (λ p less ne.
    ap length (if_other e.by p (e.step ∷ steps_of p es) (steps_of p es) (λ is. ne (sym is)))) in
    let here : length (steps_of e.by (e ∷ es)) ≡ suc (length (steps_of e.by es)) =
    ap length (if_same e.by e.by (e.step ∷ steps_of e.by es) (steps_of e.by es) refl) in
    omega arith

-- no turn by a producer of another seat
none-elsewhere : (seat : ℕ → ℕ) (q p : ℕ) → seat p ≢ q → (es : List (StepBy Turn))
    → All (λ (e : StepBy Turn). seat e.by ≡ q) es → length (steps_of p es) ≡ 0
none-elsewhere seat q p ne [] all = refl
none-elsewhere seat q p ne (e ∷ es) all =
    let at = All-head (λ (e : StepBy Turn). seat e.by ≡ q) e es all in
    ap length
    (if_other e.by p (e.step ∷ steps_of p es) (steps_of p es)
    (λ is. ne (ap seat (sym is) ∙ at)))
    ∙ none-elsewhere seat q p ne es (All-tail (λ (e : StepBy Turn). seat e.by ≡ q) e es all)

-- each turn's producer has turns
present : (whole es : List (StepBy Turn))
    → ((p : ℕ) → length (steps_of p es) ≤ length (steps_of p whole))
    → All (λ (e : StepBy Turn). 0 < length (steps_of e.by whole)) es
present whole [] less = All-nil _
present whole (e ∷ es) less =
    let here : length (steps_of e.by (e ∷ es)) ≡ suc (length (steps_of e.by es)) =
    ap length (if_same e.by e.by (e.step ∷ steps_of e.by es) (steps_of e.by es) refl) in
    let top = less e.by in
    All-cons (λ (e : StepBy Turn). 0 < length (steps_of e.by whole)) e es (omega arith)
    (present whole es (λ p. (let a = grows p in let b = less p in omega arith)))
  where
    grows : (p : ℕ) → length (steps_of p es) ≤ length (steps_of p (e ∷ es))
    grows p =
        elim (cases_eq e.by p) [
          | inl is ↦
              (let n = ap length
              (if_same e.by p (e.step ∷ steps_of p es) (steps_of p es) is) in omega arith)
          | inr ne ↦
              (let n = ap length
              (if_other e.by p (e.step ∷ steps_of p es) (steps_of p es) ne) in omega arith)
        ]

all-map : {A : Type 0} (P Q : A → Type 0) → ((x : A) → P x → Q x) → (xs : List A) → All P xs
    → All Q xs
all-map P Q each [] all = All-nil Q
all-map P Q each (x ∷ xs) all =
    All-cons Q x xs (each x (All-head P x xs all)) (all-map P Q each xs (All-tail P x xs all))

all-both : {A : Type 0} (P Q : A → Type 0) (xs : List A) → All P xs → All Q xs
    → All (λ (x : A). P x × Q x) xs
all-both P Q [] p q = All-nil (λ x. P x × Q x)
all-both P Q (x ∷ xs) p q =
    All-cons (λ x. P x × Q x) x xs (All-head P x xs p, All-head Q x xs q)
    (all-both P Q xs (All-tail P x xs p) (All-tail Q x xs q))

past-end : {A : Type 0} (xs : List (List A)) (p : ℕ) → length xs ≤ p → length (list_at xs p) ≡ 0
past-end [] p le = refl
past-end (x ∷ xs) zero le = absurd (omega arith)
past-end (x ∷ xs) (suc p) le = past-end xs p (omega arith)

module _ (about : BoardSizes) (own : ℕ → List BoardStep) (t : Execution)
    (choices : List (List Chosen)) (keeps : ChoicesAreOfTurns about own t choices) where
  turn-count : (p : ℕ) → length (turns_of t p) ≡ length (list_at choices p)
  turn-count p = turns-counted own t keeps.turns p ∙ ap length (sym (keeps.journals p))

  by-count : (q : ℕ) → All (λ (e : StepBy Turn). e.by < length choices) (t.turns q)
  by-count q =
      all-map (λ (e : StepBy Turn). (t.seat e.by ≡ q) × (0 < length (steps_of e.by (t.turns q))))
      (λ (e : StepBy Turn). e.by < length choices) each (t.turns q)
      (all-both (λ (e : StepBy Turn). t.seat e.by ≡ q)
      (λ (e : StepBy Turn). 0 < length (steps_of e.by (t.turns q))) (t.turns q)
      (keeps.turns.by_seat q)
      (present (t.turns q) (t.turns q) (λ p. omega arith)))
    where
      each : (e : StepBy Turn) → (t.seat e.by ≡ q) × (0 < length (steps_of e.by (t.turns q)))
          → e.by < length choices
      each e (at, some) =
          let many = turn-count e.by in
          let here : length (steps_of e.by (t.turns (t.seat e.by)))
          ≡ length (steps_of e.by (t.turns q)) =
          ap (λ s. length (steps_of e.by (t.turns s))) at in
          elim (Rattle.std.proofs.lemmas.Bool.Decides.leb_tells (length choices) e.by) [
            | inl out ↦
                (let none = past-end choices e.by out.1 in absurd (omega arith))
            | inr within ↦ within.1
          ]

  -- all lanes together answered at most the puts of all choices
  pub puts-are-chosen :
      sum_below (accepted_count about own) about.lanes
      + sum_below (dropped_count about own) about.lanes
      ≤ choice_count choices
  puts-are-chosen =
      let both = sum-plus (accepted_count about own) (dropped_count about own) about.lanes in
      let each = Rattle.hop_rule.proofs.Gates.sum_same
      (λ l. accepted_count about own l + dropped_count about own l)
      (λ l. sum_below (λ q. answered (own q) l) about.seats) about.lanes
      (λ l less.
      sym (sum-plus (λ q. length (accepted_by l (own q))) (λ q. length (dropped_by l (own q)))
      about.seats)) in
      let swap = sum-swap (λ l q. answered (own q) l) about.lanes about.seats in
      let fit = sum-le (λ q. sum_below (answered (own q)) about.lanes)
      (λ q. sum_below (λ p. length (steps_of p (t.turns q))) (length choices)) about.seats
      (λ q less.
      (let a = puts-fit about.lanes (own q) in
      let b = puts-counted (own q) (t.turns q) (keeps.turns.explained q) in
      let c = by-producers (length choices) (t.turns q) (by-count q) in
      omega arith)) in
      let turn = sum-swap (λ q p. length (steps_of p (t.turns q))) about.seats (length choices) in
      let last = sum-le
      (λ p. sum_below (λ q. length (steps_of p (t.turns q))) about.seats)
      (λ p. length (list_at choices p)) (length choices)
      (λ p less.
      (let a = only-one (λ q. length (steps_of p (t.turns q))) about.seats (t.seat p)
      (λ q ne. none-elsewhere t.seat q p ne (t.turns q) (keeps.turns.by_seat q)) in
      let b = turn-count p in
      omega arith)) in
      omega arith
