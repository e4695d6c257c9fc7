-- The report of a replay is that of just one history.
use Rattle.std.proofs.Common.{ℕ, ◌≡◌, List, Option, Result, Ok, length, refl, ap, ◌∙◌, sym, subst}
use Rattle.std.proofs.Common.{arith}
use Rattle.history.specs.declared.history.History.{History}
use Rattle.pcap_reader.specs.declared.capture.Capture.{Capture}
use Rattle.plan_reader.specs.PlanTexts.{settings_of}
use Rattle.plan_reader.specs.Settings.{IsWithin, PlanSettings}
use Rattle.plan_reader.specs.declared.plan.Plan.{Plan}
use Rattle.report.specs.Laws.{HasOneHistory, IsReportOf}
use Rattle.report.specs.Report.{report}
use Rattle.steer_base.specs.declared.packet.Packet.{Packet}
use Rattle.steer_properties.specs.Commands.GivenOnce.{ReplaysGiveOnce}
use Rattle.steer_properties.specs.Histories.Always.{Always}
use Rattle.steer_properties.specs.Histories.GoodSoFar.{GoodSoFar}
use Rattle.steer_properties.specs.Histories.Sizes.{IsOfItsInput}
use Rattle.steer_invariant.specs.InvariantLaws.{ReplaysAreReportable}
use Rattle.steer_model.specs.Good.Inputs.{Input}
use Rattle.steer_model.specs.Laws.Packets.{PacketsAreOne}
use Rattle.steer_model.specs.Capture.Packets.{ArePackets}
use Rattle.steer_model.specs.State.Start.{replayed}
use Rattle.toeplitz.specs.Toeplitz.{number_of}
use Rattle.headline.specs.Forged.{HeadlinesAreOfTheRun, plan_with}
use Rattle.headline.specs.Headline.{IsOfTheRun, IsRight, Reports, Says}
use Rattle.headline.proofs.ReplayMomentLemmas.{replays-have-moments}
use Rattle.headline.specs.Laws.{ReplaysAreOfTheirRuns, ReportsHaveTheHeadline}

-- ---- one plan and one list of packets

same_ok : {E : Type 0} (s t : PlanSettings) → ◌≡◌ {A = Result PlanSettings E} (Ok s) (Ok t) → s ≡ t
same_ok s t e = cc

module _ (plan_bytes capture_bytes : List ℕ) (capture : Capture) (i j : Input)
    (said : Says plan_bytes capture_bytes capture i)
    (says : Says plan_bytes capture_bytes capture j) (one : PacketsAreOne) where
  pub plans : settings_of j.plan ≡ settings_of i.plan
  plans = same_ok (settings_of j.plan) (settings_of i.plan) (sym says.plan ∙ said.plan)

  pub same-packets : j.packets ≡ i.packets
  same-packets =
      let key : number_of j.plan.key ≡ number_of i.plan.key =
      ap (λ (s : PlanSettings). number_of s.key) plans in
      let kinds : j.plan.kinds ≡ i.plan.kinds = ap (λ (s : PlanSettings). s.kinds) plans in
      let by_kinds =
      subst (λ k. ArePackets (number_of j.plan.key) k capture_bytes capture.records j.packets) kinds
      says.packets in
      one (number_of i.plan.key) i.plan.kinds capture_bytes capture.records j.packets i.packets
      (subst
      (λ k. ArePackets k i.plan.kinds capture_bytes capture.records j.packets) key by_kinds)
      said.packets

  -- so what is a report for the one is one for the other
  pub reports-same : (h : History) (text : List ℕ) → Reports j h text → Reports i h text
  reports-same h text (taps, is) =
      let apps : length j.plan.apps ≡ length i.plan.apps =
      ap (λ (s : PlanSettings). length s.apps) plans in
      let start : j.plan.start ≡ i.plan.start = ap (λ (s : PlanSettings). s.start) plans in
      let first = subst (λ ps. IsReportOf ps (length j.plan.apps) j.plan.start h taps text)
      same-packets is in
      let second = subst (λ n. IsReportOf i.packets n j.plan.start h taps text) apps first in
      (taps, subst (λ n. IsReportOf i.packets (length i.plan.apps) n h taps text) start second)

-- ---- the run

pub of-their-runs : Always IsOfItsInput → Always GoodSoFar → ReplaysGiveOnce
    → ReplaysAreOfTheirRuns
of-their-runs of good once i may =
    record {
      made = refl;
      of_input = of.replays i may;
      good = good.replays i may;
      given = once i may;
      moments = replays-have-moments i may;
    }

-- ---- the headline

pub headline-of : Always IsRight → ReplaysAreReportable → ReplaysAreOfTheirRuns → HasOneHistory
    → PacketsAreOne → ReportsHaveTheHeadline
headline-of right reportable of one_history one plan_bytes capture_bytes capture i taps said may
    numbers fit =
    let h : History = replayed i.plan i.packets i.cut in
    let text : List ℕ = report i.packets (length i.plan.apps) h taps in
    let can = reportable i.plan i.packets i.cut may in
    let run = of i may in
    let is : IsReportOf i.packets (length i.plan.apps) i.plan.start h taps text = record {
      regular = can.regular;
      queued = can.queued;
      numbers = numbers;
      taps = fit;
      starts = run.of_input.start;
      text = refl;
    } in
    let few = can.few_apps in
    record {
      input = i;
      says = said;
      history = h;
      reports = (taps, is);
      only = λ j k says other. (
          let same = reports-same plan_bytes capture_bytes capture i j said says one k text other in
          (one_history i.packets (length i.plan.apps) i.plan.start k h same.0 taps text may.few
          (omega (arith, few)) same.1 is).0);
      run = run;
      right = right.replays i may;
    }

-- ---- the run of a headline

-- plans that say the same have one history over the same packets
module _ (packets : List Packet) (cut : Option ℕ) where
  by-settings : (s t : PlanSettings) (w : IsWithin s) (v : IsWithin t) → s ≡ t
      → replayed (plan_with s w) packets cut ≡ replayed (plan_with t v) packets cut
  by-settings s t w v same =
      subst
      (λ (u : PlanSettings). (x : IsWithin u)
      → replayed (plan_with s w) packets cut ≡ replayed (plan_with u x) packets cut)
      same (λ x. refl) v

  pub replayed-same : (p q : Plan) → settings_of p ≡ settings_of q
      → replayed p packets cut ≡ replayed q packets cut
  replayed-same p q same = by-settings (settings_of p) (settings_of q) p.within q.within same

pub headlines-of-runs : ReplaysAreOfTheirRuns → PacketsAreOne → HeadlinesAreOfTheRun
headlines-of-runs runs one plan_bytes capture_bytes capture text i h line said may reports =
    let j : Input = line.input in
    let plans : settings_of j.plan ≡ settings_of i.plan =
    plans plan_bytes capture_bytes capture i j said line.says one in
    let packets : j.packets ≡ i.packets =
    same-packets plan_bytes capture_bytes capture i j said line.says one in
    let cut : j.cut ≡ i.cut = line.says.cut ∙ sym said.cut in
    let made : h ≡ replayed i.plan i.packets i.cut =
    line.only i h said reports ∙ line.run.made ∙ replayed-same j.packets j.cut j.plan i.plan plans
    ∙ ap (λ ps. replayed i.plan ps j.cut) packets ∙ ap (λ c. replayed i.plan i.packets c) cut in
    subst (IsOfTheRun i) (sym made) (runs i may)
