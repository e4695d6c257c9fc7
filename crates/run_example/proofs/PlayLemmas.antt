-- Moves that may come one after the other leave a lawful order. That a step may come is stated by
-- equations that compute, so that `assumption` proves it of orders that are written down: a
-- comparison is its test, and a seat holds the lane as it is now.
use Rattle.std.proofs.Common.{◌≡◌, ◌≢◌, ℕ, ◌+◌, List, [], ◌∷◌, Some, true, length, sym, ap}
use Rattle.std.proofs.Common.{subst, arith}
use Rattle.std.specs.Prelude.{nat_lt}
use Rattle.std.proofs.lemmas.Bool.{ltb-true}
use Rattle.steer_base.specs.Lanes.{LaneLists}
use Rattle.backlog.specs.Puts.{put_answer, put_count}
use Rattle.linearization.specs.Orders.{StepBy, steps_of}
use Rattle.hop_rule.specs.Boards.{IsLawful, MayCome, IsInside, HasSlot, visit_of, lanes_of}
use Rattle.hop_rule.specs.Boards.{gates_of}
use Rattle.hop_rule.specs.Gates as gates
use Rattle.hop_rule.specs.Gates.{Visit, outside, inside, backing}
use Rattle.hop_rule.specs.Lanes as lanes
use Rattle.hop_rule.specs.Sizes.{closer, puller}
use Rattle.hop_rule.specs.declared.sizes.BoardSizes.{BoardSizes}
use Rattle.hop_rule.specs.declared.sizes.TheConstants.{MAX_OPENINGS}
use Rattle.hop_rule.specs.declared.step.BoardStep.{BoardStep}
use Rattle.hop_rule.specs.declared.step.BoardStep.TheVariants.{Lane, Gate, Weighed, Counted}
use Rattle.hop_rule.specs.declared.step.BoardStep.TheVariants.{LaneOut, LaneIn, OutCounted}
use Rattle.hop_rule.specs.declared.step.Change.{Change}
use Rattle.hop_rule.specs.declared.step.Change.TheVariants.{Nothing, Offered, Pulled}
use Rattle.hop_rule.specs.declared.step.GateStep.{GateStep}
use Rattle.hop_rule.specs.declared.step.GateStep.TheVariants.{Entered, Turned, Left, Shut, NotShut}
use Rattle.hop_rule.specs.declared.step.GateStep.TheVariants.{Opened, Set, Read}
use Rattle.hop_rule.specs.declared.step.LaneStep.{LaneStep}
use Rattle.hop_rule.specs.declared.step.LaneStep.TheVariants.{Held, Missed, Freed, OutHeld}
use Rattle.hop_rule.specs.declared.step.LaneStep.TheVariants.{OutMissed, OutFreed, Given, Retired}
use Rattle.run_example.specs.Plays.{Move, plays, plays_rows}

-- a seat that is inside is not outside
kind : Visit → ℕ
kind outside = 0
kind inside = 1
kind backing = 2

not_outside : inside ≢ outside
unfolding kind
not_outside e = let k : kind inside ≡ kind outside = ap kind e in absurd (omega arith)

abbrev Below : ℕ → ℕ → Type 0
Below a b = nat_lt a b ≡ true

module _ (about : BoardSizes) where
  -- ---- by tests that a step may come

  abbrev TestsChange : ℕ → ℕ → List LaneStep → LaneLists → Change → Type 0
  TestsChange l p ds x (Offered id hash answer) =
      Below id about.room × Below (put_count x) about.room × (answer ≡ put_answer x hash)
  TestsChange l p ds x c = lanes.FitsChange about l p ds x c

  abbrev TestsLane : ℕ → List (StepBy LaneStep) → LaneStep → Type 0
  TestsLane p es (Held l w x) =
      Below l about.lanes × (w ≡ lanes.lane_word about l es) × (lanes.holder l es ≡ 0)
      × (x ≡ lanes.lane about l es)
  TestsLane p es (Freed l c) =
      Below l about.lanes × (lanes.holding l (steps_of p es) ≡ Some (lanes.lane about l es))
      × TestsChange l p (steps_of p es) (lanes.lane about l es) c
  TestsLane p es (OutHeld o w x) =
      Below o about.outs × (w ≡ lanes.out_word about o es) × (lanes.out_holder o es ≡ 0)
      × (x ≡ lanes.out_content about o es)
  TestsLane p es (Given o from id place) =
      Below o about.outs × Below from about.lanes
      × (lanes.out_holding o (steps_of p es) ≡ Some (lanes.out_content about o es))
      × Below (length (lanes.out o es)) about.room × (place ≡ length (lanes.out o es) + 1)
      × (puller about from ≡ p) × (lanes.phase from (steps_of p es) ≡ lanes.has_pulled id)
  TestsLane p es (Retired l w) =
      Below l about.lanes × (w ≡ lanes.head_word about l es) × (puller about l ≡ p)
      × (lanes.phase l (steps_of p es) ≡ lanes.gave)
  TestsLane p es d = lanes.MayCome about p es d

  abbrev TestsGate : ℕ → List (StepBy GateStep) → GateStep → Type 0
  TestsGate p es Left = gates.visit (steps_of p es) ≡ inside
  TestsGate p es (Shut w) =
      (p ≡ closer about) × (w ≡ gates.gate_word es) × (gates.visits es ≡ 0)
      × (gates.closed (steps_of p es) ≡ 0) × Below (gates.openings (steps_of p es)) MAX_OPENINGS
  TestsGate p es (Set i v) =
      (p ≡ closer about) × Below i (length about.settings) × (gates.closed (steps_of p es) ≡ 1)
  TestsGate p es d = gates.MayCome about p es d

  abbrev Tests : ℕ → List (StepBy BoardStep) → BoardStep → Type 0
  Tests p es (Lane d) =
      TestsLane p (lanes_of es) d × IsInside about (visit_of about p es) d
      × HasSlot about (steps_of p es) d
  Tests p es (Gate d) = TestsGate p (gates_of es) d
  Tests p es (Weighed l w) = Below l about.lanes × (w ≡ lanes.head_word about l (lanes_of es))
  Tests p es (Counted l w) = Below l about.lanes × (w ≡ lanes.lane_word about l (lanes_of es))
  Tests p es d = MayCome about p es d

  -- ---- a step that passes its tests may come

  fits_change : (l p : ℕ) (ds : List LaneStep) (x : LaneLists) (c : Change)
      → TestsChange l p ds x c → lanes.FitsChange about l p ds x c
  fits_change l p ds x Nothing t = t
  fits_change l p ds x (Offered id hash answer) t = (ltb-true _ _ t.0, ltb-true _ _ t.1, t.2)
  fits_change l p ds x (Pulled id) t = t

  lane_comes : (p : ℕ) (es : List (StepBy LaneStep)) (d : LaneStep)
      → TestsLane p es d → lanes.MayCome about p es d
  lane_comes p es (Held l w x) t = (ltb-true _ _ t.0, t.1, t.2, t.3)
  lane_comes p es (Missed l w) t = t
  lane_comes p es (Freed l c) t = (
    ltb-true _ _ t.0,
    (lanes.lane about l es, t.1, fits_change l p (steps_of p es) (lanes.lane about l es) c t.2),
  )
  lane_comes p es (OutHeld o w x) t = (ltb-true _ _ t.0, t.1, t.2, t.3)
  lane_comes p es (OutMissed o w) t = t
  lane_comes p es (OutFreed o) t = t
  lane_comes p es (Given o from id place) t = (
    ltb-true _ _ t.0,
    ltb-true _ _ t.1,
    (lanes.out_content about o es, t.2, ltb-true _ _ t.3, t.4, t.5, t.6),
  )
  lane_comes p es (Retired l w) t = (ltb-true _ _ t.0, t.1, t.2, t.3)

  gate_comes : (p : ℕ) (es : List (StepBy GateStep)) (d : GateStep)
      → TestsGate p es d → gates.MayCome about p es d
  gate_comes p es (Entered w) t = t
  gate_comes p es (Turned w) t = t
  gate_comes p es Left t =
      subst (λ (v : Visit). v ≢ outside) (sym t) not_outside
  gate_comes p es (Shut w) t = (t.0, t.1, t.2, t.3, ltb-true _ _ t.4)
  gate_comes p es (NotShut w) t = t
  gate_comes p es Opened t = t
  gate_comes p es (Set i v) t = (t.0, ltb-true _ _ t.1, t.2)
  gate_comes p es (Read i v) t = t

  comes : (p : ℕ) (es : List (StepBy BoardStep)) (d : BoardStep)
      → Tests p es d → MayCome about p es d
  comes p es (Lane d) t = (lane_comes p (lanes_of es) d t.0, t.1, t.2)
  comes p es (Gate d) t = gate_comes p (gates_of es) d t
  comes p es (Weighed l w) t = (ltb-true _ _ t.0, t.1)
  comes p es (Counted l w) t = (ltb-true _ _ t.0, t.1)
  comes p es (OutCounted o w) t = t
  comes p es (LaneOut k) t = t
  comes p es (LaneIn k) t = t

  -- ---- moves

  abbrev MayBe : Move → List (StepBy BoardStep) → Type 0
  MayBe m es = Below (m es).by about.seats × Tests (m es).by es (m es).step

  abbrev MayPlay : List Move → List (StepBy BoardStep) → Type 0
  MayPlay [] es = Unit {0}
  MayPlay (m ∷ ms) es = MayBe m es × MayPlay ms (m es ∷ es)

  abbrev pub MayPlayRows : List (List Move) → List (StepBy BoardStep) → Type 0
  MayPlayRows [] es = Unit {0}
  MayPlayRows (ms ∷ rows) es = MayPlay ms es × MayPlayRows rows (plays ms es)

  plays_lawfully : (ms : List Move) (es : List (StepBy BoardStep)) → MayPlay ms es
      → IsLawful about es → IsLawful about (plays ms es)
  plays_lawfully [] es may lawful = lawful
  plays_lawfully (m ∷ ms) es may lawful =
      plays_lawfully ms (m es ∷ es) may.1
      (ltb-true _ _ may.0.0, comes (m es).by es (m es).step may.0.1, lawful)

  pub rows_lawfully : (rows : List (List Move)) (es : List (StepBy BoardStep))
      → MayPlayRows rows es → IsLawful about es → IsLawful about (plays_rows rows es)
  rows_lawfully [] es may lawful = lawful
  rows_lawfully (ms ∷ rows) es may lawful =
      rows_lawfully rows (plays ms es) may.1 (plays_lawfully ms es may.0 lawful)
