-- Laws of the gate.
use Rattle.std.proofs.Common.{◌*◌}
use Rattle.hop_rule.specs.declared.sizes.TheConstants.{MAX_OPENINGS}
use Rattle.hop_rule.specs.Gates.{Visit, outside, inside, backing, visit_after, visit, is_open}
use Rattle.hop_rule.specs.Gates.{closed_after, openings_after, closed, openings, found_after, found}
use Rattle.hop_rule.specs.Gates.{all_closed, all_openings, visits_after, visits, gate_word}
use Rattle.hop_rule.specs.Gates.{settings_after, settings, MayCome, AreLawful}
use Rattle.hop_rule.proofs.Names.{◌≡◌, ◌≢◌, ◌⊎◌, inl, inr, ℕ, zero, suc, ◌+◌, ◌%◌, ◌/◌, ◌<◌, ◌≤◌}
use Rattle.hop_rule.proofs.Names.{List, [], ◌∷◌, ◌++◌, sym, refl, ap, ◌∙◌, subst, arith, dite}
use Rattle.hop_rule.proofs.Names.{ℕ_discrete, StepBy, step_by, steps_of, steps_of_own}
use Rattle.hop_rule.proofs.Names.{steps_of_other, BoardSizes, GateStep, Entered, Turned, Left, Shut}
use Rattle.hop_rule.proofs.Names.{NotShut, Opened, Set, Read, sum_below, closer}

own_step : (p : ℕ) (e : StepBy GateStep) (es : List (StepBy GateStep)) → e.by ≡ p
    → steps_of p (e ∷ es) ≡ e.step ∷ steps_of p es
own_step p e es is = steps_of_own p e.by e.step es is

other_step : (p : ℕ) (e : StepBy GateStep) (es : List (StepBy GateStep)) → e.by ≢ p
    → steps_of p (e ∷ es) ≡ steps_of p es
other_step p e es ne = steps_of_other p e.by e.step es ne

-- ---- sums

pub sum_same : (f g : ℕ → ℕ) (n : ℕ) → ((p : ℕ) → p < n → f p ≡ g p) → sum_below f n ≡ sum_below g n
sum_same f g zero same = refl
sum_same f g (suc n) same = let a = sum_same f g n (λ p l. same p (omega arith)) in let b =
    same n (omega arith) in omega arith

pub sum_one : (f g : ℕ → ℕ) (n q : ℕ) → q < n → ((p : ℕ) → p < n → p ≢ q → f p ≡ g p)
    → sum_below f n + g q ≡ sum_below g n + f q
sum_one f g zero q l same = absurd (omega arith)
sum_one f g (suc n) q l same = dite (ℕ_discrete q n)
    (λ e. let a = sum_same f g n (λ p l'. same p (omega arith) (λ h. absurd (omega arith))) in
    let b : g q ≡ g n = ap g e in let c : f q ≡ f n = ap f e in omega arith)
    (λ ne. let a = sum_one f g n q (omega arith) (λ p l'. same p (omega arith)) in let b =
    same n (omega arith) (λ h. ne (sym h)) in omega arith)

pub sum_has : (f : ℕ → ℕ) (n q : ℕ) → q < n → f q ≤ sum_below f n
sum_has f zero q l = absurd (omega arith)
sum_has f (suc n) q l = dite (ℕ_discrete q n) (λ e. let b : f q ≡ f n = ap f e in omega arith)
    (λ ne. let a = sum_has f n q (omega arith) in omega arith)

pub sum_most : (f : ℕ → ℕ) (n : ℕ) → ((p : ℕ) → f p ≤ 1) → sum_below f n ≤ n
sum_most f zero small = omega arith
sum_most f (suc n) small = let a = sum_most f n small in let b = small n in omega arith

sum_few : (f : ℕ → ℕ) (n q : ℕ) → ((p : ℕ) → f p ≤ 1) → q < n → f q ≡ 0 → sum_below f n + 1 ≤ n
sum_few f zero q small l z = absurd (omega arith)
sum_few f (suc n) q small l z = dite (ℕ_discrete q n)
    (λ e. let a = sum_most f n small in let b : f n ≡ 0 = ap f (sym e) ∙ z in omega arith)
    (λ ne. let a = sum_few f n q small (omega arith) z in let b = small n in omega arith)

sum_zero : (n : ℕ) → sum_below (λ p. 0) n ≡ 0
sum_zero zero = refl
sum_zero (suc n) = let a = sum_zero n in omega arith

pub open_small : (v : Visit) → is_open v ≤ 1
open_small outside = omega arith
open_small inside = omega arith
open_small backing = omega arith

open_some : (v : Visit) → v ≢ outside → is_open v ≡ 1
open_some outside ne = absurd (ne refl)
open_some inside ne = refl
open_some backing ne = refl

-- ---- the closer's own list has the closes and openings

module _ (about : BoardSizes) where
  abbrev seats : ℕ
  seats = about.seats

  abbrev C : ℕ
  C = closer about

  -- only the closer closes and opens
  abbrev Closes : List (StepBy GateStep) → Type 0
  Closes es = (all_closed es ≡ closed (steps_of C es))
      × (all_openings es ≡ openings (steps_of C es))

  closes_quiet : (e : StepBy GateStep) (es : List (StepBy GateStep))
      → ((c : ℕ) → closed_after e.step c ≡ c) → ((n : ℕ) → openings_after e.step n ≡ n) → Closes es
      → Closes (e ∷ es)
  closes_quiet e es a b t = dite (ℕ_discrete e.by C)
      (λ is. (
        a (all_closed es) ∙ (t.0 ∙ (sym (a _) ∙ sym (ap closed (own_step C e es is)))),
        b (all_openings es) ∙ (t.1 ∙ (sym (b _) ∙ sym (ap openings (own_step C e es is)))),
      ))
      (λ ne. (
        a (all_closed es) ∙ (t.0 ∙ sym (ap closed (other_step C e es ne))),
        b (all_openings es) ∙ (t.1 ∙ sym (ap openings (other_step C e es ne))),
      ))

  closes_own : (e : StepBy GateStep) (es : List (StepBy GateStep)) → e.by ≡ C → Closes es
      → Closes (e ∷ es)
  closes_own e es is t = (
    ap (closed_after e.step) t.0 ∙ sym (ap closed (own_step C e es is)),
    ap (openings_after e.step) t.1 ∙ sym (ap openings (own_step C e es is)),
  )

  closes_step : (p : ℕ) (d : GateStep) (es : List (StepBy GateStep)) → MayCome about p es d
      → Closes es → Closes (step_by p (d) ∷ es)
  closes_step p (Entered w) es right t = closes_quiet (step_by p (Entered w)) es (λ _. refl)
      (λ _. refl) t
  closes_step p (Turned w) es right t = closes_quiet (step_by p (Turned w)) es (λ _. refl)
      (λ _. refl) t
  closes_step p Left es right t = closes_quiet (step_by p (Left)) es (λ _. refl) (λ _. refl) t
  closes_step p (Shut w) es right t = closes_own (step_by p (Shut w)) es right.0 t
  closes_step p (NotShut w) es right t = closes_own (step_by p (NotShut w)) es right.0 t
  closes_step p Opened es right t = closes_own (step_by p (Opened)) es right.0 t
  closes_step p (Set i v) es right t = closes_own (step_by p (Set i v)) es right.0 t
  closes_step p (Read i v) es right t = closes_quiet (step_by p (Read i v)) es (λ _. refl)
      (λ _. refl) t

  pub closes : (es : List (StepBy GateStep)) → AreLawful about es → Closes es
  closes [] legal = (refl, refl)
  closes (e ∷ es) legal = closes_step e.by e.step es legal.1 (closes es legal.2)

  -- ---- the visits of the word are the open visits of the seats

  abbrev opens_of : List (StepBy GateStep) → ℕ → ℕ
  opens_of es p = is_open (visit (steps_of p es))

  abbrev Sums : List (StepBy GateStep) → Type 0
  Sums es = visits es ≡ sum_below (opens_of es) seats

  -- a step of the seat q changes no other seat's visit
  others : (e : StepBy GateStep) (es : List (StepBy GateStep)) (p : ℕ) → p ≢ e.by
      → opens_of (e ∷ es) p ≡ opens_of es p
  others e es p ne = ap (λ l. is_open (visit l)) (other_step p e es (λ h. ne (sym h)))

  own : (e : StepBy GateStep) (es : List (StepBy GateStep)) → opens_of (e ∷ es) e.by ≡ is_open
      (visit_after e.step (visit (steps_of e.by es)))
  own e es = ap (λ l. is_open (visit l)) (own_step e.by e es refl)

  sums_step : (e : StepBy GateStep) (es : List (StepBy GateStep)) → e.by < seats
      → visits_after e.step (visits es) + opens_of es e.by ≡ visits es + opens_of (e ∷ es) e.by
      → Sums es → Sums (e ∷ es)
  sums_step e es inside' moves t = let s = sum_one (opens_of (e ∷ es)) (opens_of es) seats e.by
      inside' (λ p _ ne. others e es p ne) in omega arith

  sums_by : (p : ℕ) (d : GateStep) (es : List (StepBy GateStep)) → p < seats → MayCome about p es d
      → Sums es → Sums (step_by p (d) ∷ es)
  sums_by p (Entered w) es l right t = let e : StepBy GateStep = step_by p (Entered w) in
      let was : opens_of es p ≡ 0 = ap is_open right.2 in let now = own e es in sums_step e es l
      (omega arith) t
  sums_by p (Turned w) es l right t = let e : StepBy GateStep = step_by p (Turned w) in
      let was : opens_of es p ≡ 0 = ap is_open right.2 in let now = own e es in sums_step e es l
      (omega arith) t
  sums_by p Left es l right t = let e : StepBy GateStep = step_by p (Left) in
      let was : opens_of es p ≡ 1 = open_some (visit (steps_of p es)) right in let now = own e es in
      let some_open = sum_has (opens_of es) seats p l in sums_step e es l (omega arith) t
  sums_by p (Shut w) es l right t = let e : StepBy GateStep = step_by p (Shut w) in let now =
      own e es in sums_step e es l (omega arith) t
  sums_by p (NotShut w) es l right t = let e : StepBy GateStep = step_by p (NotShut w) in let now =
      own e es in sums_step e es l (omega arith) t
  sums_by p Opened es l right t = let e : StepBy GateStep = step_by p (Opened) in let now =
      own e es in sums_step e es l (omega arith) t
  sums_by p (Set i v) es l right t = let e : StepBy GateStep = step_by p (Set i v) in let now =
      own e es in sums_step e es l (omega arith) t
  sums_by p (Read i v) es l right t = let e : StepBy GateStep = step_by p (Read i v) in let now =
      own e es in sums_step e es l (omega arith) t

  pub sums : (es : List (StepBy GateStep)) → AreLawful about es → Sums es
  sums [] legal = sym (sum_zero seats)
  sums (e ∷ es) legal = sums_by e.by e.step es legal.0 legal.1 (sums es legal.2)

  -- ---- while a seat is inside the gate is not closed

  not_inside : {X : Type 0} (v : Visit) → is_open v ≡ 0 → v ≡ inside → X
  not_inside v z is = let o : is_open v ≡ 1 = ap is_open is in absurd (omega arith)

  abbrev Unshut : List (StepBy GateStep) → Type 0
  Unshut es = (p : ℕ) → p < seats → visit (steps_of p es) ≡ inside → all_closed es ≡ 0

  abbrev kind : Visit → ℕ
  kind outside = 0
  kind inside = 1
  kind backing = 2

  apart : {X : Type 0} (v : Visit) → v ≡ outside → v ≡ inside → X
  apart v a b = let k : kind v ≡ 0 = ap kind a in let m : kind v ≡ 1 = ap kind b in
      absurd (omega arith)

  was_inside : (q : ℕ) (d : GateStep) (es : List (StepBy GateStep)) (p : ℕ)
      → ((v : Visit) → visit_after d v ≡ v) → visit (steps_of p (step_by q (d) ∷ es)) ≡ inside
      → visit (steps_of p es) ≡ inside
  was_inside q d es p same is = dite (ℕ_discrete q p)
      (λ e. sym (same (visit (steps_of p es))) ∙ (sym (ap visit (own_step p (step_by q (d)) es e))
      ∙ is))
      (λ ne. sym (ap visit (other_step p (step_by q (d)) es ne)) ∙ is)

  unshut_step : (q : ℕ) (d : GateStep) (es : List (StepBy GateStep)) → MayCome about q es d
      → Sums es → Unshut es → Unshut (step_by q (d) ∷ es)
  unshut_step q (Entered w) es right sum before p l is = right.1
  unshut_step q (Turned w) es right sum before p l is = dite (ℕ_discrete q p)
      (λ e. let k : 2 ≡ 1 = ap kind (sym (ap visit (own_step p (step_by q (Turned w)) es e))
      ∙ is) in absurd (omega arith))
      (λ ne. before p l (sym (ap visit (other_step p (step_by q (Turned w)) es ne)) ∙ is))
  unshut_step q Left es right sum before p l is = dite (ℕ_discrete q p)
      (λ e. let k : 0 ≡ 1 = ap kind (sym (ap visit (own_step p (step_by q (Left)) es e)) ∙ is) in
      absurd (omega arith))
      (λ ne. before p l (sym (ap visit (other_step p (step_by q (Left)) es ne)) ∙ is))
  unshut_step q (Shut w) es right sum before p l is = let was = was_inside q (Shut w) es p
      (λ _. refl) is in let o : opens_of es p ≡ 1 = ap is_open was in
      let h = sum_has (opens_of es) seats p l in let none_in = right.2 in absurd (omega arith)
  unshut_step q (NotShut w) es right sum before p l is = before p l
      (was_inside q (NotShut w) es p (λ _. refl) is)
  unshut_step q Opened es right sum before p l is = refl
  unshut_step q (Set i v) es right sum before p l is = before p l
      (was_inside q (Set i v) es p (λ _. refl) is)
  unshut_step q (Read i v) es right sum before p l is = before p l
      (was_inside q (Read i v) es p (λ _. refl) is)

  pub unshut : (es : List (StepBy GateStep)) → AreLawful about es → Unshut es
  unshut [] legal p l is = refl
  unshut (e ∷ es) legal p l is = unshut_step e.by e.step es legal.1 (sums es legal.2)
      (unshut es legal.2) p l is

  -- ---- a seat that stays inside sees one list of settings

  abbrev pub Stay : ℕ → List (StepBy GateStep) → Type 0
  Stay p [] = Unit {0}
  Stay p (e ∷ es) = (e.by ≡ p → e.step ≢ Left) × Stay p es

  still_inside : (q : ℕ) (d : GateStep) (es : List (StepBy GateStep)) (p : ℕ) → MayCome about q es d
      → (q ≡ p → d ≢ Left) → visit (steps_of p es) ≡ inside
      → visit (steps_of p (step_by q (d) ∷ es)) ≡ inside
  still_inside q d es p right stays is = dite (ℕ_discrete q p)
      (λ e. ap visit (own_step p (step_by q (d)) es e) ∙ by_deed d right (stays e)
      (ap (λ z. visit (steps_of z es)) e ∙ is) ∙ refl)
      (λ ne. ap visit (other_step p (step_by q (d)) es ne) ∙ is)
    where
      by_deed : (d : GateStep) → MayCome about q es d → d ≢ Left → visit (steps_of q es) ≡ inside
          → visit_after d (visit (steps_of p es)) ≡ inside
      by_deed (Entered w) right stays in_q = refl
      by_deed (Turned w) right stays in_q = apart (visit (steps_of q es)) right.2 in_q
      by_deed Left right stays in_q = absurd (stays refl)
      by_deed (Shut w) right stays in_q = is
      by_deed (NotShut w) right stays in_q = is
      by_deed Opened right stays in_q = is
      by_deed (Set i v) right stays in_q = is
      by_deed (Read i v) right stays in_q = is

  setting_same : (q : ℕ) (d : GateStep) (es : List (StepBy GateStep)) (p i : ℕ) (s : ℕ → ℕ)
      → MayCome about q es d → AreLawful about es → p < seats → visit (steps_of p es) ≡ inside
      → settings_after d s i ≡ s i
  setting_same q (Entered w) es p i s right legal l is = refl
  setting_same q (Turned w) es p i s right legal l is = refl
  setting_same q Left es p i s right legal l is = refl
  setting_same q (Shut w) es p i s right legal l is = refl
  setting_same q (NotShut w) es p i s right legal l is = refl
  setting_same q Opened es p i s right legal l is = refl
  setting_same q (Set j v) es p i s right legal l is = let a = unshut es legal p l is in
      let b = (closes es legal).0 in let c : closed (steps_of C es) ≡ 1 =
      ap (λ (z : ℕ). closed (steps_of z es)) (sym right.0) ∙ right.2 in absurd (omega arith)
  setting_same q (Read j v) es p i s right legal l is = refl

  pub stays : (new old : List (StepBy GateStep)) (p i : ℕ) → p < seats → AreLawful about
      (new ++ old) → visit (steps_of p old) ≡ inside → Stay p new
      → (visit (steps_of p (new ++ old)) ≡ inside)
      × (settings about (new ++ old) i ≡ settings about old i)
  stays [] old p i l legal is stay = (is, refl)
  stays (e ∷ es) old p i l legal is stay = let t = stays es old p i l legal.2 is stay.1 in (
    still_inside e.by e.step (es ++ old) p legal.1 stay.0 t.0,
    setting_same e.by e.step
        (es ++ old) p i (settings about (es ++ old)) legal.1 legal.2 l t.0 ∙ t.1,
  )

  pub word : (es : List (StepBy GateStep)) → AreLawful about es → gate_word es ≡ sum_below
      (λ p. is_open (visit (steps_of p es))) seats + 2147483648 * closed (steps_of C es) +
      4294967296 * openings (steps_of C es)
  word es legal = let a = sums es legal in let b = closes es legal in let b0 = b.0 in let b1 =
      b.1 in omega arith

  -- ---- the numbers stay small

  abbrev Small : List (StepBy GateStep) → Type 0
  Small es = (closed (steps_of C es) ≤ 1)
      × (openings (steps_of C es) + closed (steps_of C es) ≤ MAX_OPENINGS)

  small_quiet : (q : ℕ) (d : GateStep) (es : List (StepBy GateStep))
      → ((c : ℕ) → closed_after d c ≡ c) → ((n : ℕ) → openings_after d n ≡ n) → Small es
      → Small (step_by q (d) ∷ es)
  small_quiet q d es a b t = let e : StepBy GateStep = step_by q (d) in
      subst (λ (z : ℕ × ℕ). (z.0 ≤ 1) × (z.1 + z.0 ≤ MAX_OPENINGS)) (sym (dite (ℕ_discrete q C)
      (λ is. λ k. (
        (ap closed (own_step C e es is) ∙ a _) k,
        (ap openings (own_step C e es is)
            ∙ b _) k,
      ))
      (λ ne. λ k. (ap closed (other_step C e es ne) k, ap openings (other_step C e es ne) k)))) t

  small_own : (q : ℕ) (d : GateStep) (es : List (StepBy GateStep)) → q ≡ C
      → (closed_after d (closed (steps_of C es)) ≤ 1)
      × (openings_after d (openings (steps_of C es)) + closed_after d (closed (steps_of C es)) ≤
      MAX_OPENINGS) → Small (step_by q (d) ∷ es)
  small_own q d es is t = let e : StepBy GateStep = step_by q (d) in
      subst (λ (l : List GateStep). (closed l ≤ 1) × (openings l + closed l ≤ MAX_OPENINGS))
      (sym (own_step C e es is)) t

  small_step : (q : ℕ) (d : GateStep) (es : List (StepBy GateStep)) → MayCome about q es d
      → Small es → Small (step_by q (d) ∷ es)
  small_step q (Entered w) es right t = small_quiet q (Entered w) es (λ _. refl) (λ _. refl) t
  small_step q (Turned w) es right t = small_quiet q (Turned w) es (λ _. refl) (λ _. refl) t
  small_step q Left es right t = small_quiet q Left es (λ _. refl) (λ _. refl) t
  small_step q (Shut w) es right t = let few : openings (steps_of C es) < MAX_OPENINGS =
      subst (λ (z : ℕ). openings (steps_of z es) < MAX_OPENINGS) right.0 right.4 in small_own q
      (Shut w) es right.0 (omega arith, omega arith)
  small_step q (NotShut w) es right t = small_quiet q (NotShut w) es (λ _. refl) (λ _. refl) t
  small_step q Opened es right t = let c : closed (steps_of C es) ≡ 1 =
      subst (λ (z : ℕ). closed (steps_of z es) ≡ 1) right.0 right.1 in let b = t.1 in
      small_own q Opened es right.0 (omega arith, omega arith)
  small_step q (Set i v) es right t = small_quiet q (Set i v) es (λ _. refl) (λ _. refl) t
  small_step q (Read i v) es right t = small_quiet q (Read i v) es (λ _. refl) (λ _. refl) t

  pub small : (es : List (StepBy GateStep)) → AreLawful about es → Small es
  small [] legal = (omega arith, omega arith)
  small (e ∷ es) legal = small_step e.by e.step es legal.1 (small es legal.2)

  -- ---- the arithmetic of the steps

  pub enter_word : (es : List (StepBy GateStep)) (p : ℕ) (w : ℕ) → AreLawful about es → seats ≤ 64
      → p < seats → visit (steps_of p es) ≡ outside → (gate_word es + 1) % 18446744073709551616 ≡
      gate_word (step_by p (Entered w) ∷ es)
  enter_word es p w legal few l is = let a = sums es legal in let b = closes es legal in let b0 =
      b.0 in let b1 = b.1 in let s = small es legal in let s0 = s.0 in let s1 = s.1 in let m =
      sum_most (opens_of es) seats (λ p. open_small (visit (steps_of p es))) in omega arith

  -- the openings that an enter finds
  pub entered_word : (es : List (StepBy GateStep)) → AreLawful about es → seats ≤ 64
      → all_closed es ≡ 0 → gate_word es / 4294967296 ≡ all_openings es
  entered_word es legal few open_ = let a = sums es legal in let m = sum_most (opens_of es) seats
      (λ p. open_small (visit (steps_of p es))) in omega arith

  -- what an enter finds: the closed mark is bit 31
  pub enter_finds : (es : List (StepBy GateStep)) → AreLawful about es → seats ≤ 64
      → (gate_word es % 4294967296 < 2147483648 → all_closed es ≡ 0)
      × (2147483648 ≤ gate_word es % 4294967296 → all_closed es ≡ 1)
  enter_finds es legal few = let a = sums es legal in let b = closes es legal in let b0 = b.0 in
      let s = small es legal in let s0 = s.0 in let m = sum_most (opens_of es) seats
      (λ p. open_small (visit (steps_of p es))) in ((λ h. omega arith), λ h. omega arith)

  -- a close finds k openings, no visit and no mark, or some visits: at most the seats less one
  pub close_finds : (es : List (StepBy GateStep)) (k : ℕ) → AreLawful about es → seats ≤ 64
      → 0 < seats → openings (steps_of C es) ≡ k → closed (steps_of C es) ≡ 0
      → visit (steps_of C es) ≡ outside
      → (gate_word es ≡ k * 4294967296 → visits es ≡ 0)
      × (gate_word es ≢ k * 4294967296 → (0 < visits es)
      × (gate_word es % 4294967296 ≡ visits es) × (visits es + 1 ≤ seats))
  close_finds es k legal few some_seat is shut_is out_is = let a = sums es legal in let b =
      closes es legal in let b0 = b.0 in let b1 = b.1 in
      let m = sum_few (opens_of es) seats C (λ p. open_small (visit (steps_of p es))) (omega arith)
      (ap is_open out_is) in ((λ h. omega arith), λ h. (omega arith, omega arith, omega arith))

  -- a leave, or a step back
  pub leave_word : (es : List (StepBy GateStep)) (p : ℕ) → AreLawful about es → seats ≤ 64
      → p < seats → visit (steps_of p es) ≢ outside → (gate_word es + 18446744073709551615) %
      18446744073709551616 ≡ gate_word (step_by p (Left) ∷ es)
  leave_word es p legal few l ne = let a = sums es legal in let b = closes es legal in let b0 =
      b.0 in let b1 = b.1 in let s = small es legal in let s0 = s.0 in let s1 = s.1 in
      let m = sum_most (opens_of es) seats (λ p. open_small (visit (steps_of p es))) in
      let o : opens_of es p ≡ 1 = open_some (visit (steps_of p es)) ne in let h =
      sum_has (opens_of es) seats p l in omega arith

  -- ---- while the closer has closed the gate it is outside

  open_none : (v : Visit) → is_open v ≡ 0 → v ≡ outside
  open_none outside z = refl
  open_none inside z = absurd (omega arith)
  open_none backing z = absurd (omega arith)

  abbrev ShutOut : List GateStep → Type 0
  ShutOut ds = closed ds ≡ 1 → visit ds ≡ outside

  shut_out_step : (d : GateStep) (es : List (StepBy GateStep)) → MayCome about C es d → C < seats
      → Sums es → ShutOut (steps_of C es) → ShutOut (d ∷ steps_of C es)
  shut_out_step (Entered w) es may l sum before is = let z = may.3 in absurd (omega arith)
  shut_out_step (Turned w) es may l sum before is = let z = may.3 in absurd (omega arith)
  shut_out_step Left es may l sum before is = refl
  shut_out_step (Shut w) es may l sum before is = let z = may.2 in let h =
      sum_has (opens_of es) seats C l in open_none (visit (steps_of C es)) (omega arith)
  shut_out_step (NotShut w) es may l sum before is = let z = may.3 in absurd (omega arith)
  shut_out_step Opened es may l sum before is = absurd (omega arith)
  shut_out_step (Set i v) es may l sum before is = before is
  shut_out_step (Read i v) es may l sum before is = before is

  pub shut_out : (es : List (StepBy GateStep)) → AreLawful about es → ShutOut (steps_of C es)
  shut_out [] legal = λ is. refl
  shut_out (e ∷ es) legal = dite (ℕ_discrete e.by C)
      (λ is. subst ShutOut (sym (own_step C e es is))
      (shut_out_step e.step es (subst (λ (z : ℕ). MayCome about z es e.step) is legal.1)
      (subst (λ (z : ℕ). z < seats) is legal.0) (sums es legal.2) (shut_out es legal.2)))
      (λ ne. subst ShutOut (sym (other_step C e es ne)) (shut_out es legal.2))

  -- ---- the number of a visit is that of the openings

  abbrev Numbered : List (StepBy GateStep) → Type 0
  Numbered es = (p : ℕ) → p < seats → visit (steps_of p es) ≡ inside
      → found (steps_of p es) / 4294967296 ≡ all_openings es

  -- a step that leaves the visits, what was found, and the openings
  numbered_quiet : (q : ℕ) (d : GateStep) (es : List (StepBy GateStep))
      → ((v : Visit) → visit_after d v ≡ v) → ((n : ℕ) → found_after d n ≡ n)
      → ((n : ℕ) → openings_after d n ≡ n) → Numbered es → Numbered (step_by q d ∷ es)
  numbered_quiet q d es a b c before p l is = dite (ℕ_discrete q p)
      (λ e. let list = own_step p (step_by q d) es e in
      ap (λ ds. found ds / 4294967296) list ∙ (ap (λ n. n / 4294967296) (b (found (steps_of p es)))
      ∙ (before p l (sym (a (visit (steps_of p es))) ∙ (sym (ap visit list) ∙ is))
      ∙ sym (c (all_openings es)))))
      (λ ne. let list = other_step p (step_by q d) es ne in ap (λ ds. found ds / 4294967296) list
      ∙ (before p l (sym (ap visit list) ∙ is) ∙ sym (c (all_openings es))))

  -- a step after which its seat is not inside
  numbered_out : (q : ℕ) (d : GateStep) (es : List (StepBy GateStep))
      → ((v : Visit) → visit_after d v ≢ inside) → all_openings (step_by q d ∷ es) ≡ all_openings es
      → Numbered es → Numbered (step_by q d ∷ es)
  numbered_out q d es a c before p l is = dite (ℕ_discrete q p)
      (λ e. absurd (a (visit (steps_of p es)) (sym (ap visit (own_step p (step_by q d) es e))
      ∙ is)))
      (λ ne. let list = other_step p (step_by q d) es ne in ap (λ ds. found ds / 4294967296) list
      ∙ (before p l (sym (ap visit list) ∙ is) ∙ sym c))

  numbered_step : (q : ℕ) (d : GateStep) (es : List (StepBy GateStep)) → seats ≤ 64
      → MayCome about q es d → AreLawful about es → Numbered es → Numbered (step_by q d ∷ es)
  numbered_step q (Entered w) es few may legal before p l is = dite (ℕ_discrete q p)
      (λ e. ap (λ ds. found ds / 4294967296) (own_step p (step_by q (Entered w)) es e)
      ∙ (ap (λ n. n / 4294967296) may.0 ∙ entered_word es legal few may.1))
      (λ ne. let list = other_step p (step_by q (Entered w)) es ne in
      ap (λ ds. found ds / 4294967296) list ∙ before p l (sym (ap visit list) ∙ is))
  numbered_step q (Turned w) es few may legal before p l is = numbered_out q (Turned w) es
      (λ v e. let k : 2 ≡ 1 = ap kind e in absurd (omega arith)) refl before p l is
  numbered_step q Left es few may legal before p l is = numbered_out q Left es
      (λ v e. let k : 0 ≡ 1 = ap kind e in absurd (omega arith)) refl before p l is
  numbered_step q (Shut w) es few may legal before p l is = numbered_quiet q (Shut w) es (λ _. refl)
      (λ _. refl) (λ _. refl) before p l is
  numbered_step q (NotShut w) es few may legal before p l is = numbered_quiet q (NotShut w) es
      (λ _. refl) (λ _. refl) (λ _. refl) before p l is
  numbered_step q Opened es few may legal before p l is =
      let was = was_inside q Opened es p (λ _. refl) is in
      let open_ = unshut es legal p l was in let shut_ = (closes es legal).0 in
      let c : closed (steps_of C es) ≡ 1 = ap (λ (z : ℕ). closed (steps_of z es)) (sym may.0)
      ∙ may.1 in absurd (omega arith)
  numbered_step q (Set i v) es few may legal before p l is = numbered_quiet q (Set i v) es
      (λ _. refl) (λ _. refl) (λ _. refl) before p l is
  numbered_step q (Read i v) es few may legal before p l is = numbered_quiet q (Read i v) es
      (λ _. refl) (λ _. refl) (λ _. refl) before p l is

  pub numbered : (es : List (StepBy GateStep)) → seats ≤ 64 → AreLawful about es → Numbered es
  numbered [] few legal p l is = let k : kind outside ≡ kind inside = ap kind is in
      absurd (omega arith)
  numbered (e ∷ es) few legal p l is = numbered_step e.by e.step es few legal.1 legal.2
      (numbered es few legal.2) p l is

  -- a gate that was closed is closed still, or was opened since
  pub closed_or_opened : (n : ℕ) (e : StepBy GateStep) (es : List (StepBy GateStep))
      → ((all_closed es ≡ 1) × (n ≤ all_openings es)) ⊎ (n < all_openings es)
      → ((all_closed (e ∷ es) ≡ 1) × (n ≤ all_openings (e ∷ es))) ⊎ (n < all_openings (e ∷ es))
  closed_or_opened n e es t = by_step e.step t
    where
      by_step : (d : GateStep) → ((all_closed es ≡ 1) × (n ≤ all_openings es)) ⊎
          (n < all_openings es)
          → ((closed_after d (all_closed es) ≡ 1) × (n ≤ openings_after d (all_openings es))) ⊎
          (n < openings_after d (all_openings es))
      by_step (Entered w) t = t
      by_step (Turned w) t = t
      by_step Left t = t
      by_step (Shut w) (inl a) = inl (refl, a.1)
      by_step (Shut w) (inr b) = inr b
      by_step (NotShut w) t = t
      by_step Opened (inl a) = let l = a.1 in inr (omega arith)
      by_step Opened (inr b) = inr (omega arith)
      by_step (Set i v) t = t
      by_step (Read i v) t = t
