-- What `check` may say of a report that `run` wrote of the same files.
use Rattle.std.proofs.Common.{◌≡◌, [], List, ℕ, length, refl, ◌∙◌, sym, subst}
use Rattle.headline.specs.Headline.{Says}
use Rattle.headline.proofs.GoodLemmas.{queued-of}
use Rattle.history.specs.Lines.{lines_of}
use Rattle.replay.specs.Meanings.{texts_of}
use Rattle.replay.proofs.HeadlineLemmas.{shown-report}
use Rattle.report_verdict.specs.Laws.{GoodReportsAreGood}
use Rattle.report_verdict.specs.Verdicts.{IsReportFor}
use Rattle.report_verdict.specs.declared.verdict.Verdict.TheVariants as verdict
use Rattle.steer_model.specs.Good.Commands.{AreGiven}
use Rattle.steer_model.specs.Good.Inputs.{Input}
use Rattle.steer_top.specs.Laws.{RunsAreFoundGood}

pub runs-found-good : GoodReportsAreGood → RunsAreFoundGood
runs-found-good good plan_bytes capture_bytes capture taps report r none =
    let i : Input = record { plan = r.plan; packets = r.packets; cut = capture.cut } in
    let says : Says plan_bytes capture_bytes capture i =
    record { plan = r.has_plan; packets = r.are_packets; cut = refl } in
    let texts : List (List ℕ) =
    texts_of taps r.plan.detach (lines_of r.packets (length r.plan.apps) r.history).packets in
    let is : IsReportFor i report r.history texts = record {
      regular = r.good.steered.regular;
      queued = queued-of i r.history r.good.queues;
      numbers = r.fits.numbers;
      taps = r.fits.texts;
      starts = r.good.arrived.start;
      text = sym (r.is ∙ shown-report r.plan r.packets taps r.history);
    } in
    let uncommanded : r.history.commands ≡ [] =
    subst (λ cs. AreGiven r.plan.tries cs r.history.commands) none r.good.commands.given in
    record {
      input = i;
      says = says;
      verdict = verdict.Good;
      is_verdict = good i report r.history texts none uncommanded is r.good;
      is_line = refl;
    }
