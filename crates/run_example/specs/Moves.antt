-- What a worked run is written down with: choices, turns, and the moves of a seat.
use Rattle.std.specs.Prelude.{ℕ, zero, suc, ◌+◌, ◌-◌, List, [], ◌∷◌, Option, Some, take}
use Rattle.steer_base.specs.declared.choice.Chosen.{Chosen}
use Rattle.steer_base.specs.declared.choice.Why.{Why}
use Rattle.steer_base.specs.declared.put.Put.{Put}
use Rattle.linearization.specs.Orders.{StepBy, step_by}
use Rattle.hop_rule.specs.Boards.{settings}
use Rattle.hop_rule.specs.Moments.{past}
use Rattle.hop_rule.specs.Owns.{own_of}
use Rattle.hop_rule.specs.declared.sizes.BoardSizes.{BoardSizes}
use Rattle.hop_rule.specs.declared.step.BoardStep.{BoardStep}
use Rattle.hop_rule.specs.declared.step.BoardStep.TheVariants.{Gate}
use Rattle.hop_rule.specs.declared.step.GateStep.TheVariants.{Read}
use Rattle.hop_delivery.specs.Orders.Turns.{Turn}
use Rattle.run_example.specs.Plays as play
use Rattle.run_example.specs.Plays.{Move}

-- x for the first producer or seat, y for all others.
abbrev pub of_first : {X : Type 0} → X → X → ℕ → X
of_first x y zero = x
of_first x y (suc p) = y

-- x for the first, y for the second, z for all others.
abbrev pub of_two : {X : Type 0} → X → X → X → ℕ → X
of_two x y z zero = x
of_two x y z (suc zero) = y
of_two x y z (suc (suc p)) = z

-- A packet with its choice.
abbrev pub choice_for : (id class : ℕ) → Option ℕ → Option ℕ → (tail lane : ℕ) → Why → Chosen
choice_for id class want head tail lane why =
    record {
      id = id;
      choice = record {
        class = Some class;
        want = want;
        head = head;
        tail = Some tail;
        lane = lane;
        why = why;
      };
    }

-- The steps of seat 0 between its own steps e and u.
abbrev pub between : List (StepBy BoardStep) → ℕ → ℕ → List BoardStep
between order e u = take (u - (e + 1)) (past u (own_of order 0))

-- The turn of the first producer whose visit begins at the worker's own step e and whose put is its
-- step u.
abbrev pub turn : List (StepBy BoardStep) → Chosen → (word entered put : ℕ) → Option ℕ → Put
    → StepBy Turn
turn order chosen word e u hash answer =
    step_by 0
    (record {
      chosen = chosen;
      word = word;
      early = between order e u;
      hash = hash;
      answer = answer;
    })

-- The worker reads the setting i.
abbrev pub reads : BoardSizes → ℕ → Move
reads b i es = step_by 0 (Gate (Read i (settings b es i)))

-- The closer's seat: a worker has seat 0.
abbrev pub the_closer : ℕ
the_closer = 1

module _ (b : BoardSizes) where
  -- The worker pulls, delivers and retires a packet.
  abbrev pub drains : ℕ → ℕ → ℕ → List Move
  drains l o id =
      play.holds b 0 l ∷ play.pulls b 0 l id ∷ play.out_holds b 0 o ∷ play.gives b 0 o l id
      ∷ play.retires b 0 l ∷ []

  -- The closer closes the gate, looks at both lanes, changes one setting and opens the gate.
  abbrev pub resizes : ℕ → ℕ → List Move
  resizes word value =
      play.shuts b the_closer ∷ play.weighs b the_closer 0 ∷ play.counts b the_closer 0
      ∷ play.weighs b the_closer 1 ∷ play.counts b the_closer 1
      ∷ play.sets b the_closer word value ∷ play.opens b the_closer ∷ []
