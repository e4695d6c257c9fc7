-- What a table records turn by turn, against what the lists of choices and of accepted packets say.
use Rattle.std.specs.Prelude.{ℕ, ◌≡◌, ◌<◌, Bool, List, Option, Some, None, map}
use Rattle.std.specs.List.{All, fold}
use Rattle.steer_base.specs.Counters.{number}
use Rattle.steer_base.specs.Entries.{entry, position}
use Rattle.steer_base.specs.declared.choice.Chosen.{Chosen}
use Rattle.steer_base.specs.declared.put.Put.{Put}
use Rattle.steer_base.specs.declared.put.Put.TheVariants.{At, Dropped}
use Rattle.dev_flow_table.specs.Tables.{Table, cleared, entries, recorded, weighed}

-- a packet with its choice, and its put if there was one
pub record Placement : Type 0 where
  pub chosen : Chosen
  pub put : Option Put

-- the table after the put of a packet of a class: an accepted one leaves its position as the
-- recorded tail
abbrev pub table_after_put : Table → ℕ → Option Put → Table
table_after_put table class None = table
table_after_put table class (Some (At position)) = recorded table class position
table_after_put table class (Some (Dropped number accepted pulled cause)) = table

-- the table after the put of a packet that may have no class
abbrev pub table_after : Table → Option ℕ → Option Put → Table
table_after table None put = table
table_after table (Some class) put = table_after_put table class put

-- the table after a packet's turn: it records the choice, and then the put
abbrev pub after_turn : Table → Placement → Table
after_turn table t =
    table_after (weighed table t.chosen.choice.class t.chosen.choice) t.chosen.choice.class t.put

-- A put is as the accepted lists have it: at the number of the packet's place there, or in none of
-- them.
abbrev pub IsPutAt : ℕ → Option ℕ → Option Put → Type 0
IsPutAt start place None = place ≡ None
IsPutAt start place (Some (At shown)) = (n : ℕ) × (place ≡ Some n) × (number start n ≡ shown)
IsPutAt start place (Some (Dropped number accepted pulled cause)) = place ≡ None

-- A packet with its choice was put as the accepted lists have it.
abbrev pub Agrees : ℕ → (ℕ → List ℕ) → Placement → Type 0
Agrees start accepted t = IsPutAt start (position accepted t.chosen) t.put

-- A table that begins unset and records each choice and each put has the entries that the lists of
-- choices and of accepted packets give.
abbrev pub TableIsEntries : Type 0
TableIsEntries =
    (start count : ℕ) (exact : Bool) (accepted : ℕ → List ℕ) (turns : List Placement) (class : ℕ)
    → All (Agrees start accepted) turns → class < count
    → entries (fold after_turn (cleared count start exact) turns) class
    ≡ entry start accepted (map (λ t. t.chosen) turns) class
