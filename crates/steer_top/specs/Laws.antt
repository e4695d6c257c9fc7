-- What holds of the texts of the commands.
use Rattle.std.specs.Prelude.{◌≡◌, ◌⊎◌, ℕ, true, List, []}
use Rattle.steer_base.specs.declared.flow.Flow.{Flow}
use Rattle.ntuple_rules.specs.Folds.{swapped}
use Rattle.ntuple_rules.specs.declared.rules.Rules.{Rules}
use Rattle.pcap_reader.specs.declared.capture.Capture.{Capture}
use Rattle.replay.specs.Meanings.{Meaning}
use Rattle.plan_reader.specs.Ranges.{commands_of}
use Rattle.replay.specs.Reports.{IsReportOfPlan, IsReportOfRun}
use Rattle.report_verdict.specs.Replays.{MayBeSaid}
use Rattle.report_verdict.specs.VerdictText.{verdict_text}
use Rattle.report_verdict.specs.declared.verdict.Verdict.TheVariants as verdict
use Rattle.steer_top.specs.Checks.{IsVerdictLine}
use Rattle.steer_top.specs.PlaceText.{hash_for, queue_for}

-- By symmetric rules a flow and its other direction have one hash.
abbrev pub HasOneHash : Type 0
HasOneHash =
    (rules : Rules) (flow : Flow) → rules.symmetric ≡ true
    → hash_for rules (swapped flow) ≡ hash_for rules flow

-- By symmetric settings without a rule a flow and its other direction have one queue.
abbrev pub HasOneQueue : Type 0
HasOneQueue =
    (rules : Rules) (flow : Flow) → rules.symmetric ≡ true → rules.rules ≡ []
    → queue_for rules (swapped flow) ≡ queue_for rules flow

-- Of a report that `replay` may write, `check` says by the same plan and capture that it is not
-- checked, or what may be said of the report of a replay.
abbrev pub ReplaysAreChecked : Type 0
ReplaysAreChecked =
    (plan_bytes capture_bytes : List ℕ) (capture : Capture) (taps : List Meaning)
    (report line : List ℕ) → IsReportOfPlan plan_bytes capture_bytes capture taps report
    → (check : IsVerdictLine plan_bytes capture_bytes capture report line)
    → (check.verdict ≡ verdict.NotChecked) ⊎ MayBeSaid check.verdict

-- Of a report that `run` may write of a plan without commands, the line that says good is that of a
-- verdict by the same plan and capture.
abbrev pub RunsAreFoundGood : Type 0
RunsAreFoundGood =
    (plan_bytes capture_bytes : List ℕ) (capture : Capture) (taps : List Meaning)
    (report : List ℕ) (run : IsReportOfRun plan_bytes capture_bytes capture taps report)
    → commands_of run.plan.steps ≡ []
    → IsVerdictLine plan_bytes capture_bytes capture report (verdict_text verdict.Good)
