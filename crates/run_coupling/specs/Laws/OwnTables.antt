-- The tables that producers keep have the entries of the lists, so choices by them are by the rule.
use Rattle.std.specs.Prelude.{◌≡◌, ℕ, ◌<◌, true, Bool, List, map, All}
use Rattle.std.specs.List.{fold}
use Rattle.steer_base.specs.Entries.{entry}
use Rattle.dev_flow_table.specs.Folds.{after_turn}
use Rattle.dev_flow_table.specs.Tables.{cleared, entries}
use Rattle.hop_rule.specs.declared.sizes.BoardSizes.{BoardSizes}
use Rattle.hop_rule.specs.declared.step.BoardStep.{BoardStep}
use Rattle.board_api.specs.declared.lists.BoardLists.{BoardLists}
use Rattle.hop_delivery.specs.Closings.FlowLaw.{accepted_left}
use Rattle.hop_delivery.specs.Closings.PutPlaces.{AreTurnsOf}
use Rattle.hop_delivery.specs.Closings.TurnReads.{IsBySeen}
use Rattle.hop_delivery.specs.Orders.Runs.{Execution, Steering, turns_of}
use Rattle.hop_delivery.specs.Orders.Turns.{Turn}
use Rattle.run_coupling.specs.Coupling.OwnTables.{IsByTable, as_told, goal_by}
use Rattle.run_words.specs.Lists.{oldest_first}
use Rattle.run_coupling.specs.Coupling.Turns.{IsTurnOf}

module _ (about : BoardSizes) (own : ℕ → List BoardStep) (lists : BoardLists) where
  -- A producer's own table, told of each of its turns since it was cleared, has the entries that
  -- its choices and the accepted lists give.
  abbrev pub TablesAreEntries : Type 0
  TablesAreEntries =
      (t : Execution) → AreTurnsOf own t → (p count : ℕ) (exact : Bool) (us : List Turn) (class : ℕ)
      → All (IsTurnOf t p) us → class < count
      → entries (fold after_turn (cleared count about.start exact) (map as_told us)) class
      ≡ entry about.start (accepted_left lists) (map (λ u. u.chosen) us) class

  -- So a choice by a producer's own table is by the rule over those entries, if the lane to which
  -- its packet is to go is online.
  abbrev pub TablesRule : Type 0
  TablesRule =
      (t : Execution) (r : Steering) (seen : ℕ → ℕ → ℕ) (p i : ℕ) (u : Turn) → AreTurnsOf own t
      → t.choices p ≡ map (λ u. u.chosen) (oldest_first (turns_of t p))
      → r.online (seen i) (goal_by about.start t r seen p i u) ≡ true
      → IsByTable about.start t r seen p i u
      → IsBySeen about (accepted_left lists) t r seen p i u
