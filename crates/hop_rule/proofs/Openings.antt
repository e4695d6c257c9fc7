-- The closer's openings, and the settings at an entry.
use Rattle.hop_rule.specs.Boards.{settings}
use Rattle.hop_rule.specs.Gates as gates
use Rattle.hop_rule.specs.SettingLaws.{SettingsAreTheClosers, NoSetWhileInside, VisitsAreNumbered}
use Rattle.hop_rule.specs.SettingLaws.{VisitsShowSettings, VisitsReadSettings}
use Rattle.hop_rule.specs.Sizes.{FitSizes}
use Rattle.hop_rule.proofs.Names.{◌≡◌, ℕ, ◌+◌, ◌/◌, ◌<◌, ◌≤◌, List, [], ◌∷◌, length, sym, refl, ap}
use Rattle.hop_rule.proofs.Names.{◌∙◌, subst, arith, dite, ℕ_discrete, StepBy, step_by, steps_of}
use Rattle.hop_rule.proofs.Names.{if_same, if_other, steps_of_own, steps_of_other, gates_of}
use Rattle.hop_rule.proofs.Names.{IsLawful, past, IsStep, closers, closer, BoardSizes, BoardStep}
use Rattle.hop_rule.proofs.Names.{Gate, GateStep, Entered, Turned, Left, Shut, NotShut, Opened, Set}
use Rattle.hop_rule.proofs.Names.{Read}
use Rattle.hop_rule.proofs.Boards.{parts, gates_past, step_lawful}
use Rattle.hop_rule.proofs.Cases.{gate_part_case, pick}
use Rattle.hop_rule.proofs.Closings.{settings_own}
use Rattle.hop_rule.proofs.Gates.{closes, entered_word, unshut}
use Rattle.hop_rule.proofs.Moments.{past-all, step-inside, along}
use Rattle.hop_rule.proofs.Owns.{gates_own}
use Rattle.hop_rule.proofs.Visits.{read_is_setting}

module _ (about : BoardSizes) where
  abbrev C : ℕ
  C = closer about

  abbrev shown : List GateStep → ℕ → ℕ
  shown ds = gates.own_settings about ds

  -- where the gate is open, the settings are those of the last opening
  abbrev OpenShows : ℕ → List GateStep → Type 0
  OpenShows i ds = gates.closed ds ≡ 0 → shown ds i ≡ shown (gates.opened (gates.openings ds) ds) i

  own_opens : (i : ℕ) (d : GateStep) (es : List (StepBy GateStep)) → gates.MayCome about C es d
      → OpenShows i (steps_of C es) → OpenShows i (d ∷ steps_of C es)
  own_opens i (Entered w) es may before open_ = before open_
  own_opens i (Turned w) es may before open_ = before open_
  own_opens i Left es may before open_ = before open_
  own_opens i (NotShut w) es may before open_ = before open_
  own_opens i (Read k v) es may before open_ = before open_
  own_opens i (Shut w) es may before open_ = absurd (omega arith)
  own_opens i (Set k v) es may before open_ = let c = may.2 in absurd (omega arith)
  own_opens i Opened es may before open_ = let n : ℕ = gates.openings (steps_of C es) + 1 in
      ap (λ z. shown z i) (sym
      (if_same n n (Opened ∷ steps_of C es) (gates.opened n (steps_of C es)) refl))

  open_shows : (i : ℕ) (es : List (StepBy GateStep)) → gates.AreLawful about es
      → OpenShows i (steps_of C es)
  open_shows i [] lawful = λ open_. refl
  open_shows i (e ∷ es) lawful = dite (ℕ_discrete e.by C)
      (λ is. subst (OpenShows i) (sym (steps_of_own C e.by e.step es is))
      (own_opens i e.step es (subst (λ (z : ℕ). gates.MayCome about z es e.step) is lawful.1)
      (open_shows i es lawful.2)))
      (λ ne. subst (OpenShows i) (sym (steps_of_other C e.by e.step es ne))
      (open_shows i es lawful.2))

  -- a later list has the same steps up to an opening
  same_opened : (n : ℕ) (d : GateStep) (ds : List GateStep) → n ≤ gates.openings ds → gates.opened n
      (d ∷ ds) ≡ gates.opened n ds
  same_opened n Opened ds le = if_other (gates.openings ds + 1) n (Opened ∷ ds) (gates.opened n ds)
      (λ e. absurd (omega arith))
  same_opened n (Entered w) ds le = refl
  same_opened n (Turned w) ds le = refl
  same_opened n Left ds le = refl
  same_opened n (Shut w) ds le = refl
  same_opened n (NotShut w) ds le = refl
  same_opened n (Set k v) ds le = refl
  same_opened n (Read k v) ds le = refl

  more_openings : (d : GateStep) (n : ℕ) → n ≤ gates.openings_after d n
  more_openings Opened n = omega arith
  more_openings (Entered w) n = omega arith
  more_openings (Turned w) n = omega arith
  more_openings Left n = omega arith
  more_openings (Shut w) n = omega arith
  more_openings (NotShut w) n = omega arith
  more_openings (Set k v) n = omega arith
  more_openings (Read k v) n = omega arith

  pub closers_are : (order : List (StepBy BoardStep)) → steps_of C (gates_of order) ≡ closers about
      order
  closers_are order = gates_own C order

  -- ---- along an order

  module _ (order : List (StepBy BoardStep)) (lawful : IsLawful about order) where
    abbrev closers_at : List (StepBy BoardStep) → List GateStep
    closers_at es = steps_of C (gates_of es)

    abbrev Stays : ℕ → List GateStep → List GateStep → Type 0
    Stays n x ds = (n ≤ gates.openings ds) × (gates.opened n ds ≡ x)

    stays_step : (n : ℕ) (x : List GateStep) (p : ℕ) (d : BoardStep) (es : List (StepBy BoardStep))
        → Stays n x (closers_at es) → Stays n x (closers_at (step_by p d ∷ es))
    stays_step n x p d es t = gate_part_case (λ gs. Stays n x (steps_of C gs)) p d (gates_of es)
        (λ s _. pick p C (s ∷ closers_at es) (closers_at es) (Stays n x)
        (λ _. (
          let a = t.0 in let b = more_openings s (gates.openings (closers_at es)) in
              omega arith,
          same_opened n s (closers_at es) t.0 ∙ t.1,
        )) (λ _. t)) t

    later : (n m k : ℕ) → m ≤ k → n ≤ gates.openings (closers_at (past m order))
        → Stays n (gates.opened n (closers_at (past m order))) (closers_at (past k order))
    later n m k le few = along (λ es. Stays n (gates.opened n (closers_at (past m order)))
        (closers_at es)) order m k le
        (λ i s from to is here. stays_step n (gates.opened n (closers_at (past m order))) s.by
        s.step (past i order) here) (few, refl)

    pub openings_later : (m k : ℕ) → m ≤ k → gates.openings (closers_at (past m order)) ≤
        gates.openings (closers_at (past k order))
    openings_later m k le = (later (gates.openings (closers_at (past m order))) m k le
        (omega arith)).0

    end : closers_at (past (length order) order) ≡ closers about order
    end = ap closers_at (past-all order (length order) (omega arith)) ∙ closers_are order

    module _ (fit : FitSizes about) (n q w : ℕ) (is : IsStep order n q (Gate (Entered w))) where
      abbrev gs : List (StepBy GateStep)
      gs = gates_of (past n order)

      in_time : n < length order
      in_time = step-inside order n q (Gate (Entered w)) is

      open_then : gates.closed (steps_of C gs) ≡ 0
      open_then = sym (closes about gs (gates_past about order n lawful)).0
          ∙ (step_lawful about order n q (Gate (Entered w)) lawful is).1.1

      -- the openings in the word that a visit found
      pub word_is : w / 4294967296 ≡ gates.openings (closers_at (past n order))
      word_is =
          let may = (step_lawful about order n q (Gate (Entered w)) lawful is).1 in
          ap (λ z. z / 4294967296) may.0
          ∙ (entered_word about gs (gates_past about order n lawful) fit.seats may.1
          ∙ (closes about gs (gates_past about order n lawful)).1)

      pub visit_shows : settings about (past n order) ≡ shown
          (gates.opened (w / 4294967296) (closers about order))
      visit_shows =
          let k : ℕ = gates.openings (steps_of C gs) in
          let l = in_time in
          let then_ = (later k n (length order) (omega arith) (omega arith)).1 in
          let last : shown (steps_of C gs) ≡ shown (gates.opened k (steps_of C gs)) = λ a i.
          open_shows i gs (gates_past about order n lawful) open_then a in
          settings_own about gs (gates_past about order n lawful)
          ∙ (last ∙ (ap shown (sym then_)
          ∙ (ap (λ z. shown (gates.opened k z)) end
          ∙ ap (λ z. shown (gates.opened z (closers about order))) (sym word_is))))

-- ---- the laws

pub settings_are_the_closers : SettingsAreTheClosers
settings_are_the_closers about order lawful = settings_own about (gates_of order)
    (parts about order lawful).1 ∙ ap (gates.own_settings about) (closers_are about order)

pub no_set_while_inside : NoSetWhileInside
no_set_while_inside about order lawful n p q i v is l inside =
    let may = (step_lawful about order n p (Gate (Set i v)) lawful is).1 in
    let gs : List (StepBy GateStep) = gates_of (past n order) in
    let open_ = unshut about gs (gates_past about order n lawful) q l
    (ap gates.visit (gates_own q (past n order)) ∙ inside) in
    let shut_ = (closes about gs (gates_past about order n lawful)).0 in
    let c : gates.closed (steps_of (closer about) gs) ≡ 1 = ap (λ z. gates.closed (steps_of z gs))
    (sym may.0) ∙ may.2 in
    absurd (omega arith)

pub visits_are_numbered : VisitsAreNumbered
visits_are_numbered about order fit lawful n q w is =
    let here = word_is about order lawful fit n q w is in
    let then_ = ap gates.openings (closers_are about (past n order)) in
    let inside = step-inside order n q (Gate (Entered w)) is in
    let up = openings_later about order lawful n (length order) (omega arith) in
    let all = ap gates.openings (end about order lawful) in (
      here ∙ then_,
      omega arith,
      λ m p v less before. (
          let was = word_is about order lawful fit m p v before in
          let more = openings_later about order lawful m n (omega arith) in omega arith),
    )

pub visits_show_settings : VisitsShowSettings
visits_show_settings about order fit lawful n q w is = visit_shows about order lawful fit n q w is

pub visits_read_settings : VisitsReadSettings
visits_read_settings about order fit lawful m n q w i v less enters stays reads =
    read_is_setting about order lawful q m n w n i v enters stays less (omega arith) reads
    ∙ ap (λ s. s i) (visit_shows about order lawful fit m q w enters)
