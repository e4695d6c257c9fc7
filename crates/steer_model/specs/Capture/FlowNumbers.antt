-- The numbers of the flows that were seen.
use Rattle.std.specs.Prelude.{ℕ, ◌+◌, ◌≡◌, ◌⊎◌, Option, Some, None}
use Rattle.std.specs.BTreeMap.{btree_map_len, get}
use Rattle.std.specs.declared.cmp.Ordering.{Ordering}
use Rattle.steer_base.specs.declared.flow.Flow.{Flow}
use Rattle.steer_model.specs.Capture.FlowKeys.{FlowFits, key_of}
use Rattle.steer_model.specs.Capture.ShortNumbers.{short_order}
use Rattle.steer_model.specs.contracts.flow_key.LongKeyOrd.TheImpl as long_ord
use Rattle.steer_model.specs.declared.flow_key.FlowKey.{FlowKey}
use Rattle.steer_model.specs.declared.flow_key.FlowKey.TheVariants.{Short, Long}
use Rattle.steer_model.specs.declared.flow_key.LongKey.{LongKey}
use Rattle.steer_model.specs.declared.flow_numbers.FlowNumbers.{FlowNumbers}

-- the order in which a map keeps long keys
abbrev pub long_order : LongKey → LongKey → Ordering
long_order = (long_ord.ghosts).cmp

-- the number at a key, if it has one
abbrev pub number_at : FlowNumbers → FlowKey → Option ℕ
number_at numbers (Short key) = get short_order numbers.short.by_key key
number_at numbers (Long key) = get long_order numbers.long key

-- the number of a flow, if it has one
abbrev pub number_in : FlowNumbers → Flow → Option ℕ
number_in numbers flow = number_at numbers (key_of flow)

-- how many flows have a number
abbrev pub flow_total : FlowNumbers → ℕ
flow_total numbers = btree_map_len numbers.short.by_key + btree_map_len numbers.long

-- A flow that is known keeps its number.
pub record KeepsItsNumber (old new : FlowNumbers) (flow : Flow) (number : ℕ) : Type 0 where
  pub number_is : number_in old flow ≡ Some number
  pub same : new ≡ old

-- A new flow gets the number of flows before it as its own, and no other flow's number changes.
pub record IsFresh (old new : FlowNumbers) (flow : Flow) (number : ℕ) : Type 0 where
  pub unknown : number_in old flow ≡ None
  pub next : number ≡ flow_total old
  pub own : number_in new flow ≡ Some number
  pub others : (other : Flow) → FlowFits other
      → (other ≡ flow) ⊎ (number_in new other ≡ number_in old other)
  pub longer : flow_total new ≡ flow_total old + 1

-- The number that a flow gets: its own if it is known, otherwise the number of flows before it.
abbrev pub IsNumberOf : FlowNumbers → FlowNumbers → Flow → ℕ → Type 0
IsNumberOf old new flow number = KeepsItsNumber old new flow number ⊎ IsFresh old new flow number
