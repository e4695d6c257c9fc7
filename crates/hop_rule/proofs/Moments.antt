-- Moments of an order.
use Rattle.hop_rule.proofs.Names.{◌≡◌, ◌⊎◌, inl, inr, ℕ, zero, suc, ◌-◌, ◌<◌, ◌≤◌, List, [], ◌∷◌}
use Rattle.hop_rule.proofs.Names.{◌++◌, get_or, Some, length, drop, refl, sym, ap, ◌∙◌, subst}
use Rattle.hop_rule.proofs.Names.{arith, length-append, cases_eq, cases_lt, dite, ℕ_discrete}
use Rattle.hop_rule.proofs.Names.{StepBy, step_by, if_same, if_other, past, nth_step, IsStep}
use Rattle.hop_rule.proofs.Lists.{none-some, some-is}

drop-all : {A : Type 0} (xs : List A) → drop (length xs) xs ≡ []
drop-all [] = refl
drop-all (x ∷ xs) = drop-all xs

pub past-none : {A : Type 0} (xs : List A) → past 0 xs ≡ []
past-none xs = let n : length xs - 0 ≡ length xs = omega arith in ap (λ m. drop m xs) n
    ∙ drop-all xs

pub past-all : {A : Type 0} (es : List A) (n : ℕ) → length es ≤ n → past n es ≡ es
past-all es n le = let k : length es - n ≡ 0 = omega arith in ap (λ m. drop m es) k

pub past-old : {A : Type 0} (e : A) (es : List A) (n : ℕ) → n ≤ length es
    → past n (e ∷ es) ≡ past n es
past-old e es n le = let k : length (e ∷ es) - n ≡ suc (length es - n) = omega arith in
    ap (λ m. drop m (e ∷ es)) k

-- ---- the step of a list that has so many before it

module _ {A : Type 0} where
  pub nth-inside : (xs : List A) (k : ℕ) (x : A) → nth_step xs k ≡ Some x → k < length xs
  nth-inside [] k x at = none-some x at
  nth-inside (y ∷ ys) k x at = dite (ℕ_discrete (length ys) k) (λ e. omega arith)
      (λ ne. let r = nth-inside ys k x (sym (if_other (length ys) k (Some y) (nth_step ys k) ne)
      ∙ at) in omega arith)

  pub nth-last : (y : A) (ys : List A) → nth_step (y ∷ ys) (length ys) ≡ Some y
  nth-last y ys = if_same (length ys) (length ys) (Some y) (nth_step ys (length ys)) refl

  pub nth-old : (more xs : List A) (k : ℕ) → k < length xs → nth_step (more ++ xs) k ≡ nth_step xs k
  nth-old [] xs k l = refl
  nth-old (y ∷ ys) xs k l = if_other (length (ys ++ xs)) k (Some y) (nth_step (ys ++ xs) k)
      (λ e. let n = length-append ys xs in absurd (omega arith)) ∙ nth-old ys xs k l

  -- there is one of each number below the length
  pub nth-some : (xs : List A) (k : ℕ) → k < length xs → (x : A) × (nth_step xs k ≡ Some x)
  nth-some [] k l = absurd (omega arith)
  nth-some (y ∷ ys) k l = dite (ℕ_discrete (length ys) k)
      (λ e. (y, if_same (length ys) k (Some y) (nth_step ys k) e))
      (λ ne. let t = nth-some ys k (omega arith) in
      (t.0, if_other (length ys) k (Some y) (nth_step ys k) ne ∙ t.1))

  pub nth-first : (y : A) (ys : List A) (k : ℕ) (x : A) → nth_step (y ∷ ys) k ≡ Some x
      → (nth_step ys k ≡ Some x) ⊎ ((y ≡ x) × (k ≡ length ys))
  nth-first y ys k x at = dite (ℕ_discrete (length ys) k)
      (λ e. inr (some-is y x (sym (if_same (length ys) k (Some y) (nth_step ys k) e) ∙ at), sym e))
      (λ ne. inl (sym (if_other (length ys) k (Some y) (nth_step ys k) ne) ∙ at))

  pub past-next : (xs : List A) (k : ℕ) (x : A) → nth_step xs k ≡ Some x
      → past (suc k) xs ≡ x ∷ past k xs
  past-next [] k x at = none-some x at
  past-next (y ∷ ys) k x at = elim (nth-first y ys k x at) [
    | inl old ↦ (let l = nth-inside ys k x old in past-old y ys (suc k) (omega arith)
        ∙ (past-next ys k x old ∙ ap (λ zs. x ∷ zs) (sym (past-old y ys k (omega arith)))))
    | inr new ↦ (let e = new.1 in past-all (y ∷ ys) (suc k) (omega arith)
        ∙ (λ i. new.0 i ∷ sym (past-old y ys k (omega arith) ∙ past-all ys k (omega arith)) i))
  ]

  -- the step between two parts of a list, and what is before it
  pub nth-between : (newer : List A) (x : A) (older : List A)
      → nth_step (newer ++ x ∷ older) (length older) ≡ Some x
  nth-between newer x older =
      nth-old newer (x ∷ older) (length older) (omega arith) ∙ nth-last x older

  pub past-between : (newer : List A) (x : A) (older : List A)
      → past (length older) (newer ++ x ∷ older) ≡ older
  past-between [] x older = past-old x older (length older) (omega arith)
      ∙ past-all older (length older) (omega arith)
  past-between (y ∷ ys) x older =
      let n = length-append ys (x ∷ older) in
      past-old y (ys ++ x ∷ older) (length older) (omega arith) ∙ past-between ys x older

  -- the k-th member of a list, from the newest
  pub nth-member : (xs : List A) (k : ℕ) (d : A) → k < length xs
      → nth_step xs (length xs - suc k) ≡ Some (get_or xs k d)
  nth-member [] k d l = absurd (omega arith)
  nth-member (y ∷ ys) zero d l =
      let n : length (y ∷ ys) - 1 ≡ length ys = omega arith in
      ap (nth_step (y ∷ ys)) n ∙ nth-last y ys
  nth-member (y ∷ ys) (suc k) d l =
      let n : length (y ∷ ys) - suc (suc k) ≡ length ys - suc k = omega arith in
      ap (nth_step (y ∷ ys)) n
      ∙ (nth-old (y ∷ []) ys (length ys - suc k) (omega arith) ∙ nth-member ys k d (omega arith))

-- ---- orders

module _ {D : Type 0} where
  -- after the first n steps comes some step
  pub past-step : (es : List (StepBy D)) (n : ℕ) → n < length es → (e : StepBy D)
      × (past (suc n) es ≡ e ∷ past n es)
  past-step [] n l = absurd (omega arith)
  past-step (e ∷ es) n l =
      elim (cases_eq n (length es)) [
        | inl is ↦ (
          e,
          past-all (e ∷ es) (suc n) (omega arith) ∙ ap (λ x. e ∷ x)
              (sym (past-old e es n (omega arith) ∙ past-all es n (omega arith))),
        )
        | inr ne ↦ (
            let t = past-step es n (omega arith) in (
              t.0,
              past-old e es (suc n) (omega arith)
                  ∙ (t.1 ∙ ap (λ x. t.0 ∷ x) (sym (past-old e es n (omega arith)))),
            ))
      ]

  pub step-inside : (es : List (StepBy D)) (n p : ℕ) (d : D) → IsStep es n p d → n < length es
  step-inside es n p d is =
      elim (cases_lt n (length es)) [
        | inl l ↦ l
        | inr le ↦ (
            let a = past-all es n le in
            let b = past-all es (suc n) (omega arith) in
            let c : es ≡ step_by p d ∷ es = sym b ∙ (is ∙ ap (λ x. step_by p d ∷ x) a) in
            let k = ap length c in absurd (omega arith))
      ]

  pub step-more : (e : StepBy D) (es : List (StepBy D)) (n p : ℕ) (d : D) → IsStep es n p d
      → IsStep (e ∷ es) n p d
  step-more e es n p d is = let l = step-inside es n p d is in
      past-old e es (suc n) (omega arith)
      ∙ (is ∙ ap (λ x. step_by p d ∷ x) (sym (past-old e es n (omega arith))))

  pub step-last : (p : ℕ) (d : D) (es : List (StepBy D)) → IsStep (step_by p d ∷ es) (length es) p d
  step-last p d es = past-all (step_by p d ∷ es) (suc (length es)) (omega arith)
      ∙ ap (λ x. step_by p d ∷ x)
      (sym (past-old (step_by p d) es (length es) (omega arith) ∙ past-all es (length es)
      (omega arith)))

  -- of one moment there is one step
  pub one-step : (es : List (StepBy D)) (n p q : ℕ) (d e : D) → IsStep es n p d → IsStep es n q e
      → (p ≡ q) × (d ≡ e)
  one-step es n p q d e a b = let h : step_by p d ∷ past n es ≡ step_by q e ∷ past n es = sym a
      ∙ b in
      let g : step_by p d ≡ step_by q e = ap (first_or (step_by p d)) h in
      (ap (λ (x : StepBy D). x.by) g, ap (λ (x : StepBy D). x.step) g)
    where
      first_or : StepBy D → List (StepBy D) → StepBy D
      first_or x [] = x
      first_or x (y ∷ ys) = y

  -- what steps keep from one moment on
  pub along : (P : List (StepBy D) → Type 0) (es : List (StepBy D)) (m n : ℕ) → m ≤ n
      → ((k : ℕ) (e : StepBy D) → m ≤ k → k < n → past (suc k) es ≡ e ∷ past k es → P (past k es)
      → P (e ∷ past k es)) → P (past m es) → P (past n es)
  along P es m zero le keeps here = let e : m ≡ 0 = omega arith in subst (λ (k : ℕ). P (past k es))
      e here
  along P es m (suc n) le keeps here =
      elim (cases_eq m (suc n)) [
        | inl e ↦ subst (λ (k : ℕ). P (past k es)) e here
        | inr ne ↦ (
            let before = along P es m n (omega arith) (λ k e a b. keeps k e a (omega arith)) here in
            elim (cases_lt n (length es)) [
              | inl l ↦ (
                  let s = past-step es n l in
                  subst P (sym s.1) (keeps n s.0 (omega arith) (omega arith) s.1 before))
              | inr ge ↦ (
                  let same : past n es ≡ past (suc n) es = past-all es n ge
                  ∙ sym (past-all es (suc n) (omega arith)) in
                  subst P same before)
            ])
      ]
