-- A producer's journal of choices, by the numbers of its turns.
use Rattle.std.proofs.lemmas.Option.{slice_get-map}
use Rattle.run_coupling.proofs.Names.{◌≡◌, ◌≢◌, inl, inr, ℕ, zero, suc, ◌<◌, List, [], ◌∷◌, ◌++◌}
use Rattle.run_coupling.proofs.Names.{Some, length, sym, refl, ap, ◌∙◌, arith, length-append}
use Rattle.run_coupling.proofs.Names.{slice_get, slice_index, option_map, cases_eq, length-map}
use Rattle.run_coupling.proofs.Names.{if_same, if_other, Chosen, nth_step, Execution, turns_of}
use Rattle.run_coupling.proofs.Names.{Turn, oldest_first, KeepsTurns, BoardStep}

pub length-oldest : {A : Type 0} (xs : List A) → length (oldest_first xs) ≡ length xs
length-oldest [] = refl
length-oldest (x ∷ xs) =
    let n = length-append (oldest_first xs) (x ∷ []) in let m = length-oldest xs in omega arith

get-last : {A : Type 0} (xs : List A) (x : A) → slice_get (xs ++ x ∷ []) (length xs) ≡ Some x
get-last [] x = refl
get-last (y ∷ xs) x = get-last xs x

get-before : {A : Type 0} (xs : List A) (x : A) (i : ℕ) → i ≢ length xs
    → slice_get (xs ++ x ∷ []) i ≡ slice_get xs i
get-before [] x zero ne = absurd (ne refl)
get-before [] x (suc i) ne = refl
get-before (y ∷ xs) x zero ne = refl
get-before (y ∷ xs) x (suc i) ne = get-before xs x i (λ e. ne (ap suc e))

-- the step with the number i is at index i of the list with the oldest first
pub nth-oldest : {A : Type 0} (xs : List A) (i : ℕ) → slice_get (oldest_first xs) i ≡ nth_step xs i
nth-oldest [] i = refl
nth-oldest (x ∷ xs) i =
    elim (cases_eq i (length xs)) [
      | inl e ↦
          ap (λ n. slice_get (oldest_first xs ++ x ∷ []) n) (e ∙ sym (length-oldest xs))
          ∙ (get-last (oldest_first xs) x
          ∙ sym (if_same (length xs) i (Some x) (nth_step xs i) (sym e)))
      | inr ne ↦
          get-before (oldest_first xs) x i (λ e. ne (e ∙ length-oldest xs))
          ∙ (nth-oldest xs i
          ∙ sym (if_other (length xs) i (Some x) (nth_step xs i) (λ e. ne (sym e))))
    ]

-- no packet arrives twice, at any producers
abbrev pub ArriveOnce : Execution → Type 0
ArriveOnce t =
    (p q i j : ℕ) → i < length (t.arrivals p) → j < length (t.arrivals q)
    → slice_index (t.arrivals p) i ≡ slice_index (t.arrivals q) j → (p ≡ q) × (i ≡ j)

module _ (own : ℕ → List BoardStep) (t : Execution) (keeps : KeepsTurns own t) where
  -- as many turns as choices
  pub turns-counted : (p : ℕ) → length (turns_of t p) ≡ length (t.choices p)
  turns-counted p =
      sym (length-oldest (turns_of t p))
      ∙ (sym (length-map (oldest_first (turns_of t p)) (λ (u : Turn). u.chosen))
      ∙ ap length (sym (keeps.journal p)))

  -- the choice of a turn is at its index
  pub turn-chosen : (p i : ℕ) (u : Turn) → nth_step (turns_of t p) i ≡ Some u
      → slice_get (t.choices p) i ≡ Some u.chosen
  turn-chosen p i u at =
      ap (λ cs. slice_get cs i) (keeps.journal p)
      ∙ (slice_get-map (λ (u : Turn). u.chosen) (oldest_first (turns_of t p)) i
      ∙ ap (option_map (λ (u : Turn). u.chosen)) (nth-oldest (turns_of t p) i ∙ at))

  -- and its packet is the arrival there
  pub turn-arrived : (p i : ℕ) (u : Turn) → nth_step (turns_of t p) i ≡ Some u
      → slice_get (t.arrivals p) i ≡ Some u.chosen.id
  turn-arrived p i u at =
      ap (λ xs. slice_get xs i) (sym (keeps.all_chosen p))
      ∙ (slice_get-map (λ (c : Chosen). c.id) (t.choices p) i
      ∙ ap (option_map (λ (c : Chosen). c.id)) (turn-chosen p i u at))
