-- The report of a history of a run is that of just one history.
use Rattle.std.proofs.Common.{ℕ, List, length, refl, arith}
use Rattle.report.specs.Laws.{HasOneHistory, IsReportOf}
use Rattle.report.specs.Report.{report}
use Rattle.steer_model.specs.Laws.Packets.{PacketsAreOfFlows, PacketsAreOne}
use Rattle.headline.specs.Laws.{GoodHistoriesAreRight, GoodHistoriesAreWhole}
use Rattle.headline.specs.Laws.{RunReportsHaveTheHeadline}
use Rattle.toeplitz.specs.Toeplitz.{number_of}
use Rattle.headline.proofs.GoodLemmas.{queued-of}
use Rattle.headline.proofs.Reports.{reports-same}

pub live-headline-of : GoodHistoriesAreRight → GoodHistoriesAreWhole → HasOneHistory
    → PacketsAreOne → PacketsAreOfFlows → RunReportsHaveTheHeadline
live-headline-of right whole one_history one of_flows plan_bytes capture_bytes capture i h taps
    said few good by_run numbers fit =
    let text : List ℕ = report i.packets (length i.plan.apps) h taps in
    let is : IsReportOf i.packets (length i.plan.apps) i.plan.start h taps text = record {
      regular = good.steered.regular;
      queued = queued-of i h good.queues;
      numbers = numbers;
      taps = fit;
      starts = good.arrived.start;
      text = refl;
    } in
    let apps = i.plan.within.apps_length in
    record {
      input = i;
      says = said;
      history = h;
      reports = (taps, is);
      only = λ j k says other. (
          let same = reports-same plan_bytes capture_bytes capture i j said says one k text other in
          (one_history i.packets (length i.plan.apps) i.plan.start k h same.0 taps text few
          (omega (arith, apps.at_most)) same.1 is).0);
      good = good;
      by_run = by_run;
      right = right i h good;
      whole = whole i h
          (of_flows (number_of i.plan.key) i.plan.kinds capture_bytes capture.records i.packets
          said.packets)
          good;
    }
