-- What the command `check` says of a report.
use Rattle.std.specs.Prelude.{◌≡◌, ℕ, List}
use Rattle.headline.specs.Headline.{Says}
use Rattle.pcap_reader.specs.declared.capture.Capture.{Capture}
use Rattle.report_verdict.specs.VerdictText.{verdict_text}
use Rattle.report_verdict.specs.Verdicts.{IsVerdict}
use Rattle.report_verdict.specs.declared.verdict.Verdict.{Verdict}
use Rattle.steer_model.specs.Good.Inputs.{Input}

-- A text is the line of the verdict on the bytes of a report, by the plan in other bytes and the
-- packets of a capture.
pub record IsVerdictLine (plan_bytes capture_bytes : List ℕ) (capture : Capture)
    (report text : List ℕ) : Type 0 where
  pub input : Input
  pub says : Says plan_bytes capture_bytes capture input
  pub verdict : Verdict
  pub is_verdict : IsVerdict input report verdict
  pub is_line : text ≡ verdict_text verdict
