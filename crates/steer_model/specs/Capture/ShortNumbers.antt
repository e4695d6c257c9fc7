-- The numbers of flows without IPv6 addresses, and the guesses at them.
use Rattle.std.specs.Prelude.{ℕ, ◌≡◌, List, Option, Some}
use Rattle.std.specs.BTreeMap.{BTreeMap, get}
use Rattle.std.specs.declared.cmp.Ordering.{Ordering}
use Rattle.steer_model.specs.Capture.Guesses.{key_at}
use Rattle.steer_model.specs.contracts.flow_key.ShortKeyOrd.TheImpl as short_ord
use Rattle.steer_model.specs.declared.flow_key.ShortKey.{ShortKey}

-- the order in which a map keeps short keys
abbrev pub short_order : ShortKey → ShortKey → Ordering
short_order = (short_ord.ghosts).cmp

-- A key that is noted with a number has that number in the map.
abbrev pub AreListed : BTreeMap ShortKey ℕ → List (Option ShortKey) → Type 0
AreListed numbers keys = (number : ℕ) (key : ShortKey) → key_at keys number ≡ Some key
    → get short_order numbers key ≡ Some number
