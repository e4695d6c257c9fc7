-- The line of a verdict on what was taken of the files of the command `check`.
use Rattle.std.proofs.Common.{ℕ, List, Option, refl}
use Rattle.plan_reader.specs.declared.plan.Plan.{Plan}
use Rattle.replay.specs.Reports.{HasPlan}
use Rattle.report_verdict.specs.VerdictText.{verdict_text}
use Rattle.report_verdict.specs.Verdicts.{IsVerdict}
use Rattle.report_verdict.specs.declared.verdict.Verdict.{Verdict}
use Rattle.steer_model.specs.Good.Inputs.{Input}
use Rattle.steer_top.specs.Checks.{IsVerdictLine}
use Rattle.steer_top.specs.Taken.{ArePacketsOf}
use Rattle.steer_top.specs.declared.file.CapturedPackets.{CapturedPackets}

-- what was taken of the plan and of the capture, as the input of a history
abbrev taken_input : Plan → CapturedPackets → Input
taken_input plan captured =
    record { plan = plan; packets = captured.packets.items; cut = captured.cut }

-- a verdict on a report, by the plan and the packets that were taken, has its line
pub line-is : (plan : Plan) (plan_bytes : List ℕ) (held : Option (List ℕ))
    (captured : CapturedPackets) (report : List ℕ) (verdict : Verdict)
    → HasPlan plan_bytes plan → (has : ArePacketsOf plan held captured)
    → IsVerdict (taken_input plan captured) report verdict
    → IsVerdictLine plan_bytes has.bytes has.capture report (verdict_text verdict)
line-is plan plan_bytes held captured report verdict plan_is has is =
    record {
      input = taken_input plan captured;
      says = record { plan = plan_is; packets = has.are_packets; cut = has.cut };
      verdict = verdict;
      is_verdict = is;
      is_line = refl;
    }
