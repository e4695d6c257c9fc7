-- What `check` says of a report that `replay` wrote of the same files.
use Rattle.std.proofs.Common.{ℕ, ◌≡◌, ◌<◌, ◌≤◌, ◌^◌, ◌⊎◌, List, length, refl}
use Rattle.std.proofs.Common.{ap, ◌∙◌, sym, subst, inl, inr}
use Rattle.headline.specs.Headline.{Says}
use Rattle.history.specs.Ranges.{HistoryFits}
use Rattle.pcap_reader.specs.declared.capture.Capture.{Capture}
use Rattle.plan_reader.specs.PlanTexts.{settings_of}
use Rattle.plan_reader.specs.Settings.{PlanSettings}
use Rattle.replay.specs.Meanings.{Meaning}
use Rattle.headline.proofs.Reports.{plans, replayed-same, same-packets}
use Rattle.replay.proofs.HeadlineLemmas.{numbers-fit, shown, shown-fit, text-is}
use Rattle.replay.specs.Reports.{IsReportOfPlan}
use Rattle.report.specs.Report.{report}
use Rattle.report_verdict.specs.Replays.{IsReportOfReplay, MayBeSaid, ReplaysAreJudged}
use Rattle.report_verdict.specs.Verdicts.{IsVerdict}
use Rattle.report_verdict.specs.declared.verdict.Verdict.{Verdict}
use Rattle.report_verdict.specs.declared.verdict.Verdict.TheVariants as verdict
use Rattle.steer_base.specs.declared.limits.TheConstants.{MAX_PACKETS}
use Rattle.steer_model.specs.Good.Inputs.{Input}
use Rattle.steer_model.specs.Laws.Packets.{PacketsAreOfFlows, PacketsAreOne}
use Rattle.steer_model.specs.State.Start.{replayed}
use Rattle.toeplitz.specs.Toeplitz.{number_of}
use Rattle.steer_top.specs.Laws.{ReplaysAreChecked}

-- a report of a replay is that of the replay of any input that these bytes say
report_of_replay : PacketsAreOne → PacketsAreOfFlows → (plan_bytes capture_bytes : List ℕ)
    (capture : Capture) (taps : List Meaning) (text : List ℕ) (j : Input)
    → Says plan_bytes capture_bytes capture j
    → (r : IsReportOfPlan plan_bytes capture_bytes capture taps text)
    → IsReportOfReplay j (shown r.plan r.packets capture.cut taps) text
report_of_replay one of_flows plan_bytes capture_bytes capture taps text j says r =
    let i : Input = record { plan = r.plan; packets = r.packets; cut = capture.cut } in
    let said : Says plan_bytes capture_bytes capture i =
    record { plan = r.has_plan; packets = r.are_packets; cut = refl } in
    let settings : settings_of j.plan ≡ settings_of r.plan =
    plans plan_bytes capture_bytes capture i j said says one in
    let packets : j.packets ≡ r.packets =
    same-packets plan_bytes capture_bytes capture i j said says one in
    let made : replayed r.plan r.packets capture.cut ≡ replayed j.plan j.packets j.cut =
    replayed-same r.packets capture.cut r.plan j.plan (sym settings)
    ∙ ap (λ ps. replayed j.plan ps capture.cut) (sym packets)
    ∙ ap (λ c. replayed j.plan j.packets c) (sym says.cut) in
    let apps : length j.plan.apps ≡ length r.plan.apps =
    ap (λ (s : PlanSettings). length s.apps) settings in
    let start : r.plan.start ≡ j.plan.start = ap (λ (s : PlanSettings). s.start) (sym settings) in
    let texts : List (List ℕ) = shown r.plan r.packets capture.cut taps in
    record {
      start = record {
        start = subst (λ n. n < 2 ^ 32) start r.fits.start;
        few = subst (λ ps. length ps ≤ MAX_PACKETS) (sym packets) r.few;
        flows = of_flows (number_of j.plan.key) j.plan.kinds capture_bytes capture.records j.packets
            says.packets;
      };
      numbers = subst HistoryFits made (numbers-fit r.plan r.packets capture.cut taps r.fits);
      taps = shown-fit r.plan r.packets capture.cut taps r.fits;
      text = ap
          (λ ps. report ps (length j.plan.apps) (replayed j.plan j.packets j.cut) texts) packets
          ∙ ap (λ n. report r.packets n (replayed j.plan j.packets j.cut) texts) apps
          ∙ ap (λ h. report r.packets (length r.plan.apps) h texts) (sym made)
          ∙ sym (r.is ∙ text-is r.plan r.packets capture.cut taps);
    }

-- ---- what is said of it

said_of : ReplaysAreJudged → (i : Input) (texts : List (List ℕ)) (bytes : List ℕ)
    → IsReportOfReplay i texts bytes → (v : Verdict) → IsVerdict i bytes v
    → (v ≡ verdict.NotChecked) ⊎ MayBeSaid v
said_of judged i texts bytes r verdict.NotChecked is = inl refl
said_of judged i texts bytes r verdict.NotReport is =
    inr (judged i texts bytes verdict.NotReport is.0 r is)
said_of judged i texts bytes r (verdict.Bad n) is =
    inr (judged i texts bytes (verdict.Bad n) is.0 r is)
said_of judged i texts bytes r verdict.Good is =
    inr (judged i texts bytes verdict.Good is.0 r is)

pub replays_are_checked : ReplaysAreJudged → PacketsAreOne → PacketsAreOfFlows → ReplaysAreChecked
replays_are_checked judged one of_flows plan_bytes capture_bytes capture taps text line r check =
    said_of judged check.input (shown r.plan r.packets capture.cut taps) text
    (report_of_replay one of_flows plan_bytes capture_bytes capture taps text check.input check.says
    r)
    check.verdict check.is_verdict
