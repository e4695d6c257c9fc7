-- What a turn knows is of the settings of its visit.
use Rattle.std.proofs.{Common.append_assoc, lemmas.List.Elements.filter_map-append}
use Rattle.std.specs.List.{Contains, cons_option}
use Rattle.hop_rule.proofs.Moments.{nth-between, past-between}
use Rattle.hop_rule.specs.Boards.{gate_steps}
use Rattle.hop_rule.specs.Gates.{opened, own_settings, visit, visit_number}
use Rattle.hop_rule.specs.{Owns.visit_in, Owns.visits_of, declared.step.GateStep.TheVariants.Read}
use Rattle.board_api.{proofs.AddedSteps.quiet_steps_stay, specs.Laws.Heads.NumberedReadsAreSettings}
use Rattle.board_api.specs.{Laws.Heads.ReadsAreSettings, OwnSteps.Has, StepWords.openings_in}
use Rattle.hop_delivery.proofs.Names.{◌≡◌, ℕ, zero, suc, inl, inr, List, [], ◌∷◌, ◌++◌, length}
use Rattle.hop_delivery.proofs.Names.{Some, None, sym, refl, ap, ◌∙◌, subst, arith, dite}
use Rattle.hop_delivery.proofs.Names.{ℕ_discrete, StepBy, steps_of, if_same, if_other, nth_step}
use Rattle.hop_delivery.proofs.Names.{past, closer, BoardSizes, BoardStep, Gate, Entered, Left}
use Rattle.hop_delivery.proofs.Names.{none-some, some-is, BoardLists, Turn, Explained, turn_put}
use Rattle.hop_delivery.{proofs.Names.TurnsKnowSettings, specs.Closings.TurnReads.HasRead}
use Rattle.hop_delivery.specs.Orders.{Runs.settings_of_visit, Turns.visit_with}

-- ---- a member splits its list

split-at : {X : Type 0} (xs : List X) (x : X) → Contains xs x
    → (front : List X) × (back : List X) × (xs ≡ front ++ x ∷ back)
split-at [] x (k, less, at) = absurd (omega arith)
split-at (y ∷ xs) x (zero, less, at) = ([], xs, ap (λ z. z ∷ xs) at)
split-at (y ∷ xs) x (suc k, less, at) =
    let t = split-at xs x (k, omega arith, at) in (y ∷ t.0, t.1, ap (λ zs. y ∷ zs) t.2)

-- a later part of a quiet list is quiet
quiet-back : (front back : List BoardStep) (d : BoardStep) → visit_in d ≡ None
    → visits_of (front ++ d ∷ back) ≡ [] → visits_of back ≡ []
quiet-back front back d none all =
    let parts = filter_map-append visit_in front (d ∷ back) in
    let here : visits_of (d ∷ back) ≡ visits_of back =
    ap (λ o. cons_option o (visits_of back)) none in
    no-more (visits_of front) (visits_of back)
    (ap (λ gs. visits_of front ++ gs) (sym here) ∙ (sym parts ∙ all)) where
      no-more : {X : Type 0} (xs ys : List X) → xs ++ ys ≡ [] → ys ≡ []
      no-more [] ys e = e
      no-more (x ∷ xs) ys e = let n = ap length e in absurd (omega arith)

module _ (about : BoardSizes) (own : ℕ → List BoardStep) (lists : BoardLists)
    (law : ReadsAreSettings about own lists) (q word value : ℕ) where
  abbrev reading : BoardStep
  reading = Gate (Read word value)

  -- a look between the entry and the put of a turn of the seat q
  turn_read : (u : Turn) (newer late older : List BoardStep)
      → own q ≡ newer ++ visit_with u late older → visits_of u.early ≡ []
      → HasRead u word value → value ≡ settings_of_visit about own u.word word
  turn_read u newer late older list quiet has =
      let t = split-at u.early reading has in
      let begun : List BoardStep = Gate (Entered u.word) ∷ older in
      let back : List BoardStep = t.1 ++ begun in
      let front : List BoardStep = newer ++ Gate Left ∷ (late ++ (turn_put u ∷ t.0)) in
      let whole : own q ≡ front ++ reading ∷ back = list ∙ joined t.0 t.1 t.2 in
      let k : ℕ = length back in
      let does : Has (own q) k reading =
      ap (λ ds. nth_step ds k) whole ∙ nth-between front reading back in
      let before : past k (own q) ≡ back = ap (past k) whole ∙ past-between front reading back in
      let stays = quiet_steps_stay t.1 begun
      (quiet-back t.0 t.1 reading refl (ap visits_of (sym t.2) ∙ quiet)) in
      law.in_visit q k word value does (ap (λ ds. visit (gate_steps ds)) before ∙ stays.place)
      ∙ ap (λ n. own_settings about (opened n (gate_steps (own (closer about)))) word)
      (ap (λ ds. visit_number (gate_steps ds)) before ∙ stays.number) where
        joined : (a b : List BoardStep) → u.early ≡ a ++ reading ∷ b
            → newer ++ visit_with u late older ≡ (newer ++ Gate Left ∷ (late ++ (turn_put u ∷ a)))
            ++ reading ∷ (b ++ Gate (Entered u.word) ∷ older)
        joined a b e =
            let begun : List BoardStep = Gate (Entered u.word) ∷ older in
            let rest : List BoardStep = reading ∷ (b ++ begun) in
            let late_part : List BoardStep = late ++ (turn_put u ∷ a) in
            ap (λ z. newer ++ Gate Left ∷ (late ++ (turn_put u ∷ z)))
            (ap (λ z. z ++ begun) e ∙ append_assoc a (reading ∷ b) begun)
            ∙ sym (append_assoc newer (Gate Left ∷ late_part) rest
            ∙ ap (λ z. newer ++ Gate Left ∷ z) (append_assoc late (turn_put u ∷ a) rest))

  -- what comes before a turn's visit is at the end of the list
  visit-split : (u : Turn) (late older : List BoardStep)
      → visit_with u late older ≡ visit_with u late [] ++ older
  visit-split u late older =
      let entry : BoardStep = Gate (Entered u.word) in
      ap (λ z. Gate Left ∷ z)
      (ap (λ z. late ++ (turn_put u ∷ z)) (sym (append_assoc u.early (entry ∷ []) older))
      ∙ sym (append_assoc late (turn_put u ∷ (u.early ++ entry ∷ [])) older))

  -- the same for any turn of a producer among those that explain a part of the list
  turn_among : (front ds : List BoardStep) (ts : List (StepBy Turn)) → own q ≡ front ++ ds
      → Explained ds ts → (p i : ℕ) (u : Turn) → nth_step (steps_of p ts) i ≡ Some u
      → HasRead u word value → value ≡ settings_of_visit about own u.word word
  turn_among front ds [] list explained p i u at has = none-some u at
  turn_among front ds (t ∷ ts) list (newer, late, older, is, no_puts, quiet_late, quiet, rest) p i u
      at has = let whole : own q ≡ (front ++ newer) ++ visit_with t.step late older =
      list ∙ (ap (λ z. front ++ z) is
      ∙ sym (append_assoc front newer (visit_with t.step late older))) in
      let before : own q ≡ ((front ++ newer) ++ visit_with t.step late []) ++ older =
      whole ∙ (ap (λ z. (front ++ newer) ++ z) (visit-split t.step late older)
      ∙ sym (append_assoc (front ++ newer) (visit_with t.step late []) older)) in
      let others : List Turn = steps_of p ts in
      let further : nth_step others i ≡ Some u → value ≡ settings_of_visit about own u.word word =
      λ there. turn_among ((front ++ newer) ++ visit_with t.step late []) older ts before rest p i u
      there has in
      dite (ℕ_discrete t.by p) (λ mine.
      let here : nth_step (t.step ∷ others) i ≡ Some u =
      ap (λ z. nth_step z i) (sym (if_same t.by p (t.step ∷ others) others mine)) ∙ at in
      dite (ℕ_discrete (length others) i) (λ e.
      let same : t.step ≡ u = some-is t.step u
      (sym (if_same (length others) i (Some t.step) (nth_step others i) e) ∙ here) in
      subst (λ (z : Turn). value ≡ settings_of_visit about own z.word word) same
      (turn_read t.step (front ++ newer) late older whole quiet.visits
      (subst (λ (z : Turn). HasRead z word value) (sym same) has))) (λ ne.
      further (sym (if_other (length others) i (Some t.step) (nth_step others i) ne) ∙ here)))
      (λ other. further
      (ap (λ z. nth_step z i) (sym (if_other t.by p (t.step ∷ others) others other)) ∙ at))

pub turns_know : (about : BoardSizes) (own : ℕ → List BoardStep) (lists : BoardLists)
    → ReadsAreSettings about own lists → NumberedReadsAreSettings about own lists
    → TurnsKnowSettings about own lists
turns_know about own lists law numbered t p i word value u explained at (inl has) =
    let q : ℕ = t.seat p in
    turn_among about own lists law q word value [] (own q) (t.turns q) refl explained p i u at has
turns_know about own lists law numbered t p i word value u explained at (inr kept) =
    numbered.reads (t.seat p) (openings_in u.word) word value kept
