-- The text of a replay, and that of a run, has the headline of its command.
use Rattle.std.proofs.Common.{ℕ, List, Option}
use Rattle.std.specs.Io.KnownBytes.{Appends}
use Rattle.replay.specs.Headlines.{EveryReportHasTheHeadline, EveryRunHasTheHeadline}
use Rattle.replay.specs.Meanings.{Meaning}
use Rattle.steer_top.specs.Files.{Files}
use Rattle.steer_top.specs.Headlines.{TookHeadline}
use Rattle.steer_top.specs.Outcomes.{Writes}
use Rattle.steer_top.specs.Words.{CommandWords}
use Rattle.steer_top.specs.Words.CommandWords.{Check, Gen, Hash, Place, Replay, Run}
use Rattle.steer_top.specs.declared.ending.Role.TheVariants as role

pub took-headline : EveryReportHasTheHeadline → EveryRunHasTheHeadline → (taps : List Meaning)
    (command : CommandWords) (files : Files) (before after : Option (List ℕ)) (text : List ℕ)
    → Writes taps command files text → Appends before after text
    → TookHeadline command files before after
took-headline replays runs taps (Replay words) files before after text (capture, has, report)
    took = (
      capture,
      has,
      text,
      replays (files role.Plan) (files role.Capture) capture taps text report,
      took,
    )
took-headline replays runs taps (Run words) files before after text (capture, has, report) took = (
  capture,
  has,
  text,
  runs (files role.Plan) (files role.Capture) capture taps text report,
  took,
)
took-headline replays runs taps (Hash words) files before after text writes took = tt
took-headline replays runs taps (Gen words) files before after text writes took = tt
took-headline replays runs taps (Check words) files before after text writes took = tt
took-headline replays runs taps (Place words) files before after text writes took = tt
