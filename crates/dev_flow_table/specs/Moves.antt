-- When a class of a table moves (kernel scaling chapter, section RFS: the three conditions under
-- which a flow's processor changes).
use Rattle.std.specs.Prelude.{ℕ, ◌≡◌, ◌≢◌, ◌<◌, Bool, true, false, Option, Some, None, length}
use Rattle.std.specs.Option.{IsSomeAnd}
use Rattle.steer_base.specs.Choices.{migrate}
use Rattle.steer_base.specs.Counters.{has_reached}
use Rattle.steer_base.specs.Moves.{MovesByThree}
use Rattle.steer_base.specs.declared.choice.Choice.{Choice}
use Rattle.steer_base.specs.declared.choice.Entry.{Entry}
use Rattle.steer_base.specs.declared.choice.Why.{Why}
use Rattle.steer_base.specs.declared.choice.Why.TheVariants.{Unset, Offline, Passed}
use Rattle.dev_flow_table.specs.Tables.{Table, entries, weighed}

-- A choice moves its class, if it has one, exactly by the three conditions, over the class's entry
-- in the table.
abbrev pub MovesInTable : Table → Option ℕ → Choice → ℕ → (ℕ → ℕ) → (ℕ → Bool) → Type 0
MovesInTable table None choice desired head online = Unit {0}
MovesInTable table (Some class) choice desired head online =
    MovesByThree choice desired (entries table class).tail head online (entries table class).lane

-- The choice that the rule makes over a table moves its class by the three conditions.
abbrev pub ClassMovesByThree : Type 0
ClassMovesByThree =
    (table : Table) (class : ℕ) (want : Option ℕ) (desired : ℕ) (head : ℕ → ℕ) (online : ℕ → Bool)
    (choice : Choice) → choice ≡ migrate (Some class) want desired (entries table) head online
    → MovesInTable table (Some class) choice desired head online

-- The reason that a choice gives for a move is true of the entry: it had no lane, an offline one,
-- or one whose head has reached the recorded tail.
pub record ReasonHolds (entry : Entry) (head : ℕ → ℕ) (online : ℕ → Bool) (why : Why) : Type 0 where
  pub unset : why ≡ Unset → entry.lane ≡ None
  pub offline : why ≡ Offline → IsSomeAnd entry.lane (λ lane. online lane ≡ false)
  pub passed : why ≡ Passed
      → IsSomeAnd entry.lane (λ lane. has_reached (head lane) entry.tail 0 ≡ true)

-- The choice that the rule makes over a table gives a true reason for a move.
abbrev pub MoveHasItsReason : Type 0
MoveHasItsReason =
    (table : Table) (class : ℕ) (want : Option ℕ) (desired : ℕ) (head : ℕ → ℕ) (online : ℕ → Bool)
    (choice : Choice) → choice ≡ migrate (Some class) want desired (entries table) head online
    → ReasonHolds (entries table class) head online choice.why

-- After a choice its class has the chosen lane.
abbrev pub ChoiceIsRecorded : Type 0
ChoiceIsRecorded =
    (table : Table) (class : ℕ) (choice : Choice) → class < length table.rows
    → (entries (weighed table (Some class) choice) class).lane ≡ Some choice.lane

-- A choice leaves the entries of all other classes.
abbrev pub LeavesOthers : Table → ℕ → Choice → Type 0
LeavesOthers table class choice =
    (other : ℕ) → other ≢ class
    → entries (weighed table (Some class) choice) other ≡ entries table other
