-- Steps at the gate's word and at setting words: what one order of them leaves, what each seat's
-- own steps show, and when a step may come. Orders and lists of steps have the newest first.
use Rattle.std.specs.Prelude.{◌≡◌, ◌≢◌, ◌⊎◌, ℕ, ◌+◌, ◌-◌, ◌*◌, ◌/◌, ◌^◌, ◌<◌, ◌==◌, List, [], ◌∷◌}
use Rattle.std.specs.Prelude.{slice_index, length, if◌then◌else◌}
use Rattle.linearization.specs.Orders.{StepBy, steps_of}
use Rattle.hop_rule.specs.Sizes.{closer}
use Rattle.hop_rule.specs.declared.sizes.BoardSizes.{BoardSizes}
use Rattle.hop_rule.specs.declared.sizes.TheConstants.{MAX_OPENINGS}
use Rattle.hop_rule.specs.declared.step.GateStep.{GateStep}
use Rattle.hop_rule.specs.declared.step.GateStep.TheVariants.{Entered, Turned, Left, Shut, NotShut}
use Rattle.hop_rule.specs.declared.step.GateStep.TheVariants.{Opened, Set, Read}

-- ---- what a seat knows by its own steps

-- Where a seat is with respect to the gate: outside, inside, or backing out of a closed gate.
pub data Visit : Type 0 where
  outside : Visit
  inside : Visit
  backing : Visit

-- Where a seat is after one of its own steps at the gate.
abbrev pub visit_after : GateStep → Visit → Visit
visit_after (Entered w) v = inside
visit_after (Turned w) v = backing
visit_after Left v = outside
visit_after _ v = v

-- Where a seat is by its own steps at the gate.
abbrev pub visit : List GateStep → Visit
visit [] = outside
visit (d ∷ ds) = visit_after d (visit ds)

-- 1 for a visit that is not over, which counts in the gate's word, and 0 outside.
abbrev pub is_open : Visit → ℕ
is_open outside = 0
is_open inside = 1
is_open backing = 1

-- The gate word that the last entry found, after a step.
abbrev pub found_after : GateStep → ℕ → ℕ
found_after (Entered w) n = w
found_after _ n = n

-- The gate word that a seat's last entry found, 0 before the first.
abbrev pub found : List GateStep → ℕ
found [] = 0
found (d ∷ ds) = found_after d (found ds)

-- The number of a visit: how many openings the word that its entry found counts.
abbrev pub visit_number : List GateStep → ℕ
visit_number ds = found ds / 2 ^ 32

-- 1 after a close and 0 after an opening.
abbrev pub closed_after : GateStep → ℕ → ℕ
closed_after (Shut w) c = 1
closed_after Opened c = 0
closed_after _ c = c

-- 1 if a seat has closed the gate by its own steps and not opened it since, otherwise 0.
abbrev pub closed : List GateStep → ℕ
closed [] = 0
closed (d ∷ ds) = closed_after d (closed ds)

-- The number of openings after a step.
abbrev pub openings_after : GateStep → ℕ → ℕ
openings_after Opened n = n + 1
openings_after _ n = n

-- The number of openings in a seat's own list.
abbrev pub openings : List GateStep → ℕ
openings [] = 0
openings (d ∷ ds) = openings_after d (openings ds)

-- The steps up to the n-th opening, if this step is that opening.
abbrev pub opened_to : ℕ → GateStep → List GateStep → List GateStep → List GateStep
opened_to n Opened ds before = if openings ds + 1 == n then Opened ∷ ds else before
opened_to n _ ds before = before

-- The steps up to the n-th opening, and none if there is no such opening.
abbrev pub opened : ℕ → List GateStep → List GateStep
opened n [] = []
opened n (d ∷ ds) = opened_to n d ds (opened n ds)

-- ---- what an order leaves

-- 1 if the gate is closed after an order, otherwise 0.
abbrev pub all_closed : List (StepBy GateStep) → ℕ
all_closed [] = 0
all_closed (e ∷ es) = closed_after e.step (all_closed es)

-- The number of openings in an order.
abbrev pub all_openings : List (StepBy GateStep) → ℕ
all_openings [] = 0
all_openings (e ∷ es) = openings_after e.step (all_openings es)

-- The number of visits that are not over, after a step.
abbrev pub visits_after : GateStep → ℕ → ℕ
visits_after (Entered w) n = n + 1
visits_after (Turned w) n = n + 1
visits_after Left n = n - 1
visits_after _ n = n

-- The number of visits in an order that are not over, with those backing out.
abbrev pub visits : List (StepBy GateStep) → ℕ
visits [] = 0
visits (e ∷ es) = visits_after e.step (visits es)

-- The gate's word: the visits that are not over, the closed mark in bit 31, and the openings from
-- bit 32.
abbrev pub gate_word : List (StepBy GateStep) → ℕ
gate_word es = visits es + 2 ^ 31 * all_closed es + 2 ^ 32 * all_openings es

-- The settings with one of them changed.
abbrev pub with_setting : (ℕ → ℕ) → (word value other : ℕ) → ℕ
with_setting s word value i = if word == i then value else s i

-- The settings after a step.
abbrev pub settings_after : GateStep → (ℕ → ℕ) → ℕ → ℕ
settings_after (Set j v) s = with_setting s j v
settings_after _ s = s

module _ (about : BoardSizes) where
  -- The value of each setting after an order, 0 beyond the last.
  abbrev pub settings : List (StepBy GateStep) → ℕ → ℕ
  settings [] = λ i. slice_index about.settings i
  settings (e ∷ es) = settings_after e.step (settings es)

  -- The value of each setting by the closer's own steps.
  abbrev pub own_settings : List GateStep → ℕ → ℕ
  own_settings [] = λ i. slice_index about.settings i
  own_settings (d ∷ ds) = settings_after d (own_settings ds)

  -- ---- the lawful orders

  -- The step of the seat p at the gate may follow these: a word that is read is the current word; a
  -- seat enters from outside and not while it has closed the gate itself; the closer closes while
  -- there is no visit, and sets and opens while it has closed the gate; a setting is read from
  -- inside or by the seat that has closed the gate.
  abbrev pub MayCome : ℕ → List (StepBy GateStep) → GateStep → Type 0
  MayCome p es (Entered w) =
      (w ≡ gate_word es) × (all_closed es ≡ 0) × (visit (steps_of p es) ≡ outside)
      × (closed (steps_of p es) ≡ 0)
  MayCome p es (Turned w) =
      (w ≡ gate_word es) × (all_closed es ≡ 1) × (visit (steps_of p es) ≡ outside)
      × (closed (steps_of p es) ≡ 0)
  MayCome p es Left = visit (steps_of p es) ≢ outside
  MayCome p es (Shut w) =
      (p ≡ closer about) × (w ≡ gate_word es) × (visits es ≡ 0) × (closed (steps_of p es) ≡ 0)
      × (openings (steps_of p es) < MAX_OPENINGS)
  MayCome p es (NotShut w) =
      (p ≡ closer about) × (w ≡ gate_word es) × (0 < visits es) × (closed (steps_of p es) ≡ 0)
  MayCome p es Opened = (p ≡ closer about) × (closed (steps_of p es) ≡ 1)
  MayCome p es (Set i v) =
      (p ≡ closer about) × (i < length about.settings) × (closed (steps_of p es) ≡ 1)
  MayCome p es (Read i v) =
      (v ≡ settings es i) × ((visit (steps_of p es) ≡ inside) ⊎ (closed (steps_of p es) ≡ 1))

  -- Each step of an order at the gate may follow those before it, and is by one of the seats.
  abbrev pub AreLawful : List (StepBy GateStep) → Type 0
  AreLawful [] = Unit {0}
  AreLawful (e ∷ es) = (e.by < about.seats) × MayCome e.by es e.step × AreLawful es
