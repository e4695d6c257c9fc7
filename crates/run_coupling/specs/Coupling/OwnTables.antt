-- Choices by the flow table that a producer keeps for itself.
use Rattle.std.specs.Prelude.{◌≡◌, ℕ, ◌%◌, ◌^◌, ◌<◌, Bool, Option, Some, drop, map, take}
use Rattle.std.specs.List.{Contains, fold}
use Rattle.steer_base.specs.Choices.{migrate}
use Rattle.dev_flow_table.specs.Folds.{after_turn}
use Rattle.dev_flow_table.specs.Folds.{Placement}
use Rattle.dev_flow_table.specs.Tables.{Table, cleared, entries}
use Rattle.dev_flow_table.specs.Walks.{since_resize}
use Rattle.hop_rule.specs.declared.step.BoardStep.TheVariants.{Weighed}
use Rattle.hop_delivery.specs.Orders.Runs.{Execution, Steering, goal_of, turns_of}
use Rattle.hop_delivery.specs.Orders.Turns.{Turn}
use Rattle.run_words.specs.Lists.{oldest_first}

-- A turn as its producer's flow table is told of it.
abbrev pub as_told : Turn → Placement
as_told u = record { chosen = u.chosen; put = Some u.answer }

module _ (start : ℕ) (t : Execution) (r : Steering) (seen : ℕ → ℕ → ℕ) where
  -- The class of a producer's i-th turn by the settings that it has seen.
  abbrev pub class_by : ℕ → ℕ → Turn → Option ℕ
  class_by p i u = r.class (r.shape (seen i) p) (r.flow u.chosen.id)

  -- The lane to which the packet of a producer's i-th turn is to go, by the settings that it has
  -- seen.
  abbrev pub goal_by : ℕ → ℕ → Turn → ℕ
  goal_by p i u =
      goal_of r (seen i) p (r.flow u.chosen.id) (class_by p i u) u.chosen.choice.want

  -- The producer's own table before its i-th turn, with this number of rows, exact or not. It was
  -- cleared at the last turn that saw another shape than the one before it, and each turn since is
  -- recorded in it.
  abbrev pub table_before : ℕ → Bool → ℕ → ℕ → Table
  table_before count exact p i =
      fold after_turn (cleared count start exact)
      (map as_told
      (drop (since_resize (λ j. r.shape (seen j) p) i) (take i (oldest_first (turns_of t p)))))

  -- The choice of a producer's i-th turn is by the migration rule over its own table, with the
  -- settings that its turns have seen. A head that it keeps was loaded in the visit, before the
  -- put, from the lane in the row of its class.
  pub record IsByTable (p i : ℕ) (u : Turn) : Type 0 where
    pub head : ℕ
    pub count : ℕ
    pub exact : Bool
    pub rule : u.chosen.choice
        ≡ migrate (class_by p i u) u.chosen.choice.want (goal_by p i u)
        (entries (table_before count exact p i)) (λ _. head) (r.online (seen i))
    pub rows : (k : ℕ) → class_by p i u ≡ Some k → k < count
    pub loaded : (k l : ℕ) → class_by p i u ≡ Some k
        → (entries (table_before count exact p i) k).lane ≡ Some l → u.chosen.choice.head
        ≡ Some head
        → (w : ℕ) × Contains u.early (Weighed l w) × (w % 2 ^ 32 ≡ head)
