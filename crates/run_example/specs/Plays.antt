-- Orders of steps written down as moves, the first one first: a move reads the current words and
-- lanes.
use Rattle.std.specs.Prelude.{ℕ, ◌+◌, List, [], ◌∷◌, Option, length}
use Rattle.backlog.specs.Puts.{put_answer}
use Rattle.linearization.specs.Orders.{StepBy, step_by}
use Rattle.hop_rule.specs.Boards.{gates_of, lane_at, lanes_of, out}
use Rattle.hop_rule.specs.Gates.{gate_word}
use Rattle.hop_rule.specs.Lanes.{head_word, lane_word, out_content, out_word}
use Rattle.hop_rule.specs.declared.sizes.BoardSizes.{BoardSizes}
use Rattle.hop_rule.specs.declared.step.BoardStep.{BoardStep}
use Rattle.hop_rule.specs.declared.step.BoardStep.TheVariants.{Lane, Gate, Weighed, Counted}
use Rattle.hop_rule.specs.declared.step.Change.TheVariants.{Offered, Pulled}
use Rattle.hop_rule.specs.declared.step.GateStep.TheVariants.{Entered, Left, Opened, Set}
use Rattle.hop_rule.specs.declared.step.GateStep.TheVariants.{Shut}
use Rattle.hop_rule.specs.declared.step.LaneStep.TheVariants.{Freed, Given, Held, OutHeld, Retired}

-- A step that depends on the order before it.
abbrev pub Move : Type 0
Move = List (StepBy BoardStep) → StepBy BoardStep

-- The order after these moves.
abbrev pub plays : List Move → List (StepBy BoardStep) → List (StepBy BoardStep)
plays [] es = es
plays (m ∷ ms) es = plays ms (m es ∷ es)

-- The order after these rows of moves.
abbrev pub plays_rows : List (List Move) → List (StepBy BoardStep) → List (StepBy BoardStep)
plays_rows [] es = es
plays_rows (ms ∷ rows) es = plays_rows rows (plays ms es)

module _ (about : BoardSizes) where
  -- ---- of the seat p: at the gate

  -- The seat p enters.
  abbrev pub enters : ℕ → Move
  enters p es = step_by p (Gate (Entered (gate_word (gates_of es))))

  -- The seat p leaves.
  abbrev pub leaves : ℕ → Move
  leaves p es = step_by p (Gate Left)

  -- The seat p closes the gate.
  abbrev pub shuts : ℕ → Move
  shuts p es = step_by p (Gate (Shut (gate_word (gates_of es))))

  -- The seat p opens the gate.
  abbrev pub opens : ℕ → Move
  opens p es = step_by p (Gate Opened)

  -- The seat p changes the setting i.
  abbrev pub sets : ℕ → ℕ → ℕ → Move
  sets p i v es = step_by p (Gate (Set i v))

  -- ---- at the lane l

  -- The seat p loads the head of the lane l.
  abbrev pub weighs : ℕ → ℕ → Move
  weighs p l es = step_by p (Weighed l (head_word about l (lanes_of es)))

  -- The seat p loads the word of the lane l.
  abbrev pub counts : ℕ → ℕ → Move
  counts p l es = step_by p (Counted l (lane_word about l (lanes_of es)))

  -- The seat p takes the lane l.
  abbrev pub holds : ℕ → ℕ → Move
  holds p l es = step_by p (Lane (Held l (lane_word about l (lanes_of es)) (lane_at about es l)))

  -- The seat p puts a packet with this hash to the lane l.
  abbrev pub puts : ℕ → ℕ → ℕ → Option ℕ → Move
  puts p l id hash es =
      step_by p (Lane (Freed l (Offered id hash (put_answer (lane_at about es l) hash))))

  -- The seat p pulls a packet from the lane l.
  abbrev pub pulls : ℕ → ℕ → ℕ → Move
  pulls p l id es = step_by p (Lane (Freed l (Pulled id)))

  -- The seat p raises the head of the lane l.
  abbrev pub retires : ℕ → ℕ → Move
  retires p l es = step_by p (Lane (Retired l (head_word about l (lanes_of es))))

  -- ---- at the out lane o

  -- The seat p takes the out lane o.
  abbrev pub out_holds : ℕ → ℕ → Move
  out_holds p o es =
      step_by p (Lane (OutHeld o (out_word about o (lanes_of es))
      (out_content about o (lanes_of es))))

  -- The seat p delivers the packet that it pulled from the lane l.
  abbrev pub gives : ℕ → ℕ → ℕ → ℕ → Move
  gives p o l id es = step_by p (Lane (Given o l id (length (out about es o) + 1)))
