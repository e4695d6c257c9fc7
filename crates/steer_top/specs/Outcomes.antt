-- What each command reads and writes: an equation of each definition for a command.
use Rattle.std.specs.Prelude.{◌≡◌, ℕ, List, [], ◌∷◌, ⊤, Ok, Option, Some, None, option_and_then}
use Rattle.ntuple_rules.specs.Readings.{rules_of}
use Rattle.ntuple_rules.specs.declared.rules.Rules.{Rules}
use Rattle.pcap_reader.specs.declared.capture.Capture.{Capture}
use Rattle.replay.specs.Meanings.{Meaning}
use Rattle.replay.specs.Reports.{IsReportOfPlan, IsReportOfRun}
use Rattle.replay.specs.Summaries.{IsSummaryOf, summary_text}
use Rattle.replay.specs.declared.summary.Summary.{Summary}
use Rattle.steer_top.specs.Captures.{HasAnyCapture}
use Rattle.steer_top.specs.Checks.{IsVerdictLine}
use Rattle.steer_top.specs.Files.{Files}
use Rattle.steer_top.specs.HashText.{capture_text}
use Rattle.steer_top.specs.PlaceText.{place_text}
use Rattle.steer_top.specs.Words.{CommandWords}
use Rattle.steer_top.specs.Words.CommandWords.{Check, Gen, Hash, Place, Replay, Run}
use Rattle.steer_top.specs.declared.ending.Role.{Role}
use Rattle.steer_top.specs.declared.ending.Role.TheVariants as role

-- The roles of the files that a command reads, in this order.
abbrev pub roles_of : CommandWords → List Role
roles_of (Hash words) = role.Capture ∷ []
roles_of (Replay words) = role.Plan ∷ role.Capture ∷ []
roles_of (Run words) = role.Plan ∷ role.Capture ∷ []
roles_of (Gen words) = []
roles_of (Check words) = role.Plan ∷ role.Capture ∷ role.Report ∷ []
roles_of (Place words) = role.Rules ∷ role.Capture ∷ []

-- The name of a command's file of a role, where it reads one.
abbrev pub name_of : CommandWords → Role → Option (List ℕ)
name_of (Hash words) role.Capture = Some words.capture
name_of (Replay words) role.Plan = Some words.plan
name_of (Replay words) role.Capture = Some words.capture
name_of (Run words) role.Plan = Some words.plan
name_of (Run words) role.Capture = Some words.capture
name_of (Check words) role.Plan = Some words.plan
name_of (Check words) role.Capture = Some words.capture
name_of (Check words) role.Report = Some words.report
name_of (Place words) role.Rules = Some words.rules
name_of (Place words) role.Capture = Some words.capture
name_of _ _ = None

-- A text that a command may write of its files, with taps that mean this.
abbrev pub Writes : List Meaning → CommandWords → Files → List ℕ → Type 0
Writes taps (Hash words) files text =
    (capture : Capture) × HasAnyCapture (files role.Capture) capture
    × (text ≡ capture_text words.queues words.kinds (files role.Capture) capture)
Writes taps (Replay words) files text =
    (capture : Capture) × HasAnyCapture (files role.Capture) capture
    × IsReportOfPlan (files role.Plan) (files role.Capture) capture taps text
Writes taps (Run words) files text =
    (capture : Capture) × HasAnyCapture (files role.Capture) capture
    × IsReportOfRun (files role.Plan) (files role.Capture) capture taps text
Writes taps (Gen words) files text =
    (summary : Summary) × IsSummaryOf words.seed words.packets words.flows summary
    × (text ≡ summary_text summary)
Writes taps (Check words) files text =
    (capture : Capture) × HasAnyCapture (files role.Capture) capture
    × IsVerdictLine (files role.Plan) (files role.Capture) capture (files role.Report) text
Writes taps (Place words) files text =
    (rules : Rules) × (capture : Capture) × (rules_of (files role.Rules) ≡ Ok rules)
    × HasAnyCapture (files role.Capture) capture
    × (text ≡ place_text rules (files role.Capture) capture)

-- The bytes of a command's file of a role, where the names' bytes are told.
abbrev pub file_bytes : (List ℕ → Option (List ℕ)) → CommandWords → Role → Option (List ℕ)
file_bytes held command r = option_and_then held (name_of command r)

-- These bytes of the files of these roles are told.
abbrev pub FilesAreKnown : (Role → Option (List ℕ)) → List Role → Files → Type 0
FilesAreKnown told [] files = ⊤
FilesAreKnown told (r ∷ roles) files = (told r ≡ Some (files r)) × FilesAreKnown told roles files

-- This command is asked for, and these bytes of all its files are told.
pub record Asks (held : List ℕ → Option (List ℕ)) (asked : Option CommandWords)
    (command : CommandWords) (files : Files) : Type 0 where
  pub is : asked ≡ Some command
  pub told : FilesAreKnown (file_bytes held command) (roles_of command) files
