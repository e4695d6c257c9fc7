-- What is promised of the text of a replay, and of that of a run.
use Rattle.std.specs.Prelude.{ℕ, List, Option, ⊤}
use Rattle.std.specs.Io.KnownBytes.{Appends}
use Rattle.headline.specs.Headline.{Headline}
use Rattle.headline.specs.Live.{LiveHeadline}
use Rattle.pcap_reader.specs.declared.capture.Capture.{Capture}
use Rattle.steer_top.specs.Captures.{HasAnyCapture}
use Rattle.steer_top.specs.Files.{Files}
use Rattle.steer_top.specs.Words.{CommandWords}
use Rattle.steer_top.specs.Words.CommandWords.{Replay, Run}
use Rattle.steer_top.specs.declared.ending.Role.TheVariants as role

-- A sink took a text with the headline of its command, by the plan and the capture of these files.
-- Only the texts of a replay and of a run have one.
abbrev pub TookHeadline
    : CommandWords → Files → Option (List ℕ) → Option (List ℕ) → Type 0
TookHeadline (Replay words) files before after =
    (capture : Capture) × HasAnyCapture (files role.Capture) capture
    × (text : List ℕ) × Headline (files role.Plan) (files role.Capture) capture text
    × Appends before after text
TookHeadline (Run words) files before after =
    (capture : Capture) × HasAnyCapture (files role.Capture) capture
    × (text : List ℕ) × LiveHeadline (files role.Plan) (files role.Capture) capture text
    × Appends before after text
TookHeadline _ files before after = ⊤
