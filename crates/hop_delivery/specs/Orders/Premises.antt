-- The six premises of delivery in order, by the seats' own lists and by what the lanes accepted. No
-- order of steps is named.
use Rattle.std.specs.Prelude.{◌≡◌, ℕ, ◌%◌, ◌/◌, ◌^◌, ◌<◌, true, List, [], ◌∷◌, ◌++◌, Some, length}
use Rattle.std.specs.Prelude.{slice_get, slice_index, All}
use Rattle.linearization.specs.Orders.{StepBy}
use Rattle.hop_rule.specs.{Boards.gate_steps, Gates.openings, Gates.own_settings, Moments.nth_step}
use Rattle.hop_rule.specs.Sizes.{closer}
use Rattle.hop_rule.specs.declared.{sizes.BoardSizes.BoardSizes, step.BoardStep.BoardStep}
use Rattle.hop_rule.specs.declared.step.BoardStep.TheVariants.{Lane, Gate, Weighed, Counted}
use Rattle.hop_rule.specs.declared.step.GateStep.TheVariants.{Shut, Set}
use Rattle.hop_rule.specs.declared.step.LaneStep.TheVariants.{Given}
use Rattle.hop_delivery.specs.Orders.Runs.{Execution, Steering, IsByRule, turns_of}
use Rattle.hop_delivery.specs.Orders.Turns.{Turn, Explained}

-- If the step is a delivery, it is to the out lane of its packet's flow.
abbrev pub GoesRight : Steering → BoardStep → Type 0
GoesRight r (Lane (Given o from id place)) = o ≡ r.to (r.flow id)
GoesRight r _ = Unit {0}

-- The closer, which has made these steps, has closed the gate and not opened it since, and has then
-- loaded the head of the lane l and its tail, which were one counter number.
pub record WasFoundEmpty (before : List BoardStep) (l : ℕ) : Type 0 where
  pub since : List BoardStep
  pub older : List BoardStep
  pub word : ℕ
  pub closed : before ≡ since ++ Gate (Shut word) ∷ older
  pub stays : openings (gate_steps since) ≡ 0
  pub after : List BoardStep
  pub between : List BoardStep
  pub first : List BoardStep
  pub head : ℕ
  pub tail : ℕ
  pub loads : since ≡ after ++ Counted l tail ∷ (between ++ Weighed l head ∷ first)
  pub equal : head % 2 ^ 32 ≡ (tail / 2) % 2 ^ 32

module _ (about : BoardSizes) (r : Steering) where
  -- If the step changes a setting after these steps of the closer, the lanes that it affects were
  -- found empty.
  abbrev pub FindsEmpty : List BoardStep → BoardStep → Type 0
  FindsEmpty before (Gate (Set w v)) =
      (l : ℕ) → l < about.lanes → r.affects (own_settings about (gate_steps before)) w v l ≡ true
      → WasFoundEmpty before l
  FindsEmpty before _ = Unit {0}

  -- Each change of a setting in these steps of the closer found the lanes empty that it affects.
  abbrev pub AllFindEmpty : List BoardStep → Type 0
  AllFindEmpty [] = Unit {0}
  AllFindEmpty (d ∷ ds) = FindsEmpty ds d × AllFindEmpty ds

-- The six premises, about the seats' own lists and the packets that each lane accepted.
pub record MeetsPremises (about : BoardSizes) (own : ℕ → List BoardStep) (accepted : ℕ → List ℕ)
    (t : Execution) (r : Steering) : Type 0 where
  -- 1: no packet arrives twice
  pub once : (p q i j : ℕ) → i < length (t.arrivals p) → j < length (t.arrivals q)
      → slice_index (t.arrivals p) i ≡ slice_index (t.arrivals q) j → (p ≡ q) × (i ≡ j)
  -- 2: a seat's puts are those of its turns, each in a visit of its own; and the turns of a
  -- producer are by its seat, and are for its first arrivals with its first choices, in order
  pub explained : (q : ℕ) → Explained (own q) (t.turns q)
  pub by_seat : (q : ℕ) → All (λ (e : StepBy Turn). t.seat e.by ≡ q) (t.turns q)
  pub arrived : (p i : ℕ) (u : Turn) → nth_step (turns_of t p) i ≡ Some u
      → slice_get (t.arrivals p) i ≡ Some u.chosen.id
  pub chosen : (p i : ℕ) (u : Turn) → nth_step (turns_of t p) i ≡ Some u
      → slice_get (t.choices p) i ≡ Some u.chosen
  -- 3: each delivery is to the out lane of its packet's flow
  pub given : (q : ℕ) → All (GoesRight r) (own q)
  -- 4 and 5: each choice is by the rule, and the lane to which its packet is to go is online
  pub by_rule : (p i : ℕ) (u : Turn) → nth_step (turns_of t p) i ≡ Some u
      → IsByRule about own accepted t r p i u
  -- 6: each setting that was made found the lanes empty that it affects
  pub emptied : AllFindEmpty about r (own (closer about))
