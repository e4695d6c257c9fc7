-- The controller's journal: each try of each command, with what it did.
use Rattle.std.specs.Prelude.{◌≡◌, ℕ, ◌≤◌, List, [], ◌∷◌, ◌++◌, length, if◌then◌else◌}
use Rattle.steer_base.specs.declared.command.Command.{Command}
use Rattle.history.specs.declared.commanded.Commanded.{Commanded}
use Rattle.steer_model.specs.Good.Commands.{AreTries}
use Rattle.steer_model.specs.Steps.Commands.{is_done}
use Rattle.run_words.specs.Lists.{oldest_first}
use Rattle.run_controller.specs.Attempts.{Attempts}
use Rattle.run_controller.specs.Settings.{IsKnown, KnownSettings, known_after}
use Rattle.run_controller.specs.Stages.{AreSeated, Stage}
use Rattle.run_controller.specs.declared.controller.Controller.{Controller}
use Rattle.run_controller.specs.declared.controller.TheConstants.{MAX_TRIES}
use Rattle.run_words.specs.declared.seats.Seats.{Seats}

-- What is known after a try: a done command changed it.
abbrev pub known_by : KnownSettings → Commanded → KnownSettings
known_by k given = if is_done given.answer then known_after k given.command else k

-- What is known after these tries, the newest first.
abbrev pub known_from : KnownSettings → List Commanded → KnownSettings
known_from first [] = first
known_from first (given ∷ rest) = known_by (known_from first rest) given

-- These tries, the newest first, are all that the seats did: each was made by what was known after
-- those before it.
abbrev pub AllAttempted : Stage → KnownSettings → List Commanded → Seats → Seats → Type 0
AllAttempted s first [] old new = new ≡ old
AllAttempted s first (given ∷ rest) old new =
    (mid : Seats) × AllAttempted s first rest old mid
    × Attempts s (known_from first rest) given.command given.answer mid new

-- The journal has these tries more, and they are all that the seats did.
pub record Attempted (s : Stage) (before after : List Commanded) (first last : KnownSettings)
    (old new : Seats) : Type 0 where
  pub late : List Commanded
  pub journal : after ≡ before ++ oldest_first late
  pub attempted : AllAttempted s first late old new
  pub known : last ≡ known_from first late

-- A command was given: the journal has its tries more, each but the last busy, and the last too if
-- all were used up.
pub record IsGivenOnce (tries : ℕ) (c : Command) (before after : List Commanded) : Type 0 where
  pub block : List Commanded
  pub journal : after ≡ before ++ block
  pub tried : AreTries tries c block

-- The seats have opened each gate no more often than tries were noted, no flow count was changed
-- more often, and the journal has room for as many tries as a plan may ask for at most.
pub record IsReady (s : Stage) (controller : Controller) (seats : Seats) : Type 0 where
  pub seated : AreSeated s (length controller.commands.items) seats
  pub known : IsKnown s.shared.given (length controller.commands.items) controller.known
  pub few : controller.commands.room ≤ MAX_TRIES
