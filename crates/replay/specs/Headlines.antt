-- What a report of the bytes of a plan and of a capture promises.
use Rattle.std.specs.Prelude.{ℕ, List}
use Rattle.headline.specs.Headline.{Headline}
use Rattle.headline.specs.Live.{LiveHeadline}
use Rattle.pcap_reader.specs.declared.capture.Capture.{Capture}
use Rattle.replay.specs.Meanings.{Meaning}
use Rattle.replay.specs.Reports.{IsReportOfPlan, IsReportOfRun}

-- Every report of the bytes of a plan and of a capture has the headline, whatever the taps mean.
abbrev pub EveryReportHasTheHeadline : Type 0
EveryReportHasTheHeadline =
    (plan_bytes capture_bytes : List ℕ) (capture : Capture) (taps : List Meaning) (text : List ℕ)
    → IsReportOfPlan plan_bytes capture_bytes capture taps text
    → Headline plan_bytes capture_bytes capture text

-- Every report of a history of a run on these bytes has the headline of a run with threads.
abbrev pub EveryRunHasTheHeadline : Type 0
EveryRunHasTheHeadline =
    (plan_bytes capture_bytes : List ℕ) (capture : Capture) (taps : List Meaning) (text : List ℕ)
    → IsReportOfRun plan_bytes capture_bytes capture taps text
    → LiveHeadline plan_bytes capture_bytes capture text
