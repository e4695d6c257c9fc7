-- The report of bytes has the headline.
use Rattle.std.proofs.Common.{ℕ, ◌≡◌, List, Option, length, refl, ◌∙◌, sym, subst}
use Rattle.headline.specs.Headline.{Headline, Says}
use Rattle.headline.specs.Laws.{RunReportsHaveTheHeadline, ReportsHaveTheHeadline}
use Rattle.headline.specs.Live.{LiveHeadline}
use Rattle.history.specs.Lines.{lines_of}
use Rattle.history.specs.Ranges.{HistoryFits}
use Rattle.history.specs.declared.history.History.{History}
use Rattle.plan_reader.specs.declared.plan.Plan.{Plan}
use Rattle.report.specs.Laws.{TextsFit}
use Rattle.report.specs.Report.{report}
use Rattle.steer_base.specs.declared.packet.Packet.{Packet}
use Rattle.steer_invariant.specs.InvariantLaws.{MayStart}
use Rattle.steer_model.specs.Good.Inputs.{Input}
use Rattle.steer_model.specs.Laws.Packets.{PacketsAreOfFlows}
use Rattle.steer_model.specs.State.Start.{replayed}
use Rattle.toeplitz.specs.Toeplitz.{number_of}
use Rattle.replay.specs.Headlines.{EveryReportHasTheHeadline, EveryRunHasTheHeadline}
use Rattle.replay.specs.Meanings.{Meaning, texts_of}
use Rattle.replay.specs.Replays.{IsWithinTypes, replay_of, shown_text, shown_with}

module _ (plan : Plan) (packets : List Packet) (cut : Option ℕ) (taps : List Meaning) where
  -- the texts of the taps
  abbrev pub shown : List (List ℕ)
  shown =
      texts_of taps plan.detach
      (lines_of packets (length plan.apps) (replayed plan packets cut)).packets

  pub text-is : shown_text (replay_of plan packets cut taps)
      ≡ report packets (length plan.apps) (replayed plan packets cut) shown
  unfolding replay_of shown_text
  text-is = refl

  pub numbers-fit : IsWithinTypes plan (replay_of plan packets cut taps)
      → HistoryFits (replayed plan packets cut)
  unfolding replay_of
  numbers-fit fits = fits.numbers

  pub shown-fit : IsWithinTypes plan (replay_of plan packets cut taps) → TextsFit shown
  unfolding replay_of
  shown-fit fits = fits.texts

pub report_has_headline : ReportsHaveTheHeadline → PacketsAreOfFlows → EveryReportHasTheHeadline
report_has_headline headline of_flows plan_bytes capture_bytes capture taps text r =
    let i : Input = record { plan = r.plan; packets = r.packets; cut = capture.cut } in
    let says : Says plan_bytes capture_bytes capture i =
    record { plan = r.has_plan; packets = r.are_packets; cut = refl } in
    let may : MayStart r.plan r.packets = record {
      start = r.fits.start;
      few = r.few;
      flows = of_flows (number_of r.plan.key) r.plan.kinds capture_bytes capture.records r.packets
          r.are_packets;
    } in
    subst (Headline plan_bytes capture_bytes capture)
    (sym (r.is ∙ text-is r.plan r.packets capture.cut taps))
    (headline plan_bytes capture_bytes capture i (shown r.plan r.packets capture.cut taps) says may
    (numbers-fit r.plan r.packets capture.cut taps r.fits)
    (shown-fit r.plan r.packets capture.cut taps r.fits))

-- ---- a run with threads

pub shown-report : (plan : Plan) (packets : List Packet) (taps : List Meaning) (h : History)
    → shown_text (shown_with plan packets taps h)
    ≡ report packets (length plan.apps) h
    (texts_of taps plan.detach (lines_of packets (length plan.apps) h).packets)
unfolding shown_text
shown-report plan packets taps h = refl

pub run_has_headline : RunReportsHaveTheHeadline → EveryRunHasTheHeadline
run_has_headline headline plan_bytes capture_bytes capture taps text r =
    let i : Input = record { plan = r.plan; packets = r.packets; cut = capture.cut } in
    let says : Says plan_bytes capture_bytes capture i =
    record { plan = r.has_plan; packets = r.are_packets; cut = refl } in
    subst (LiveHeadline plan_bytes capture_bytes capture)
    (sym (r.is ∙ shown-report r.plan r.packets taps r.history))
    (headline plan_bytes capture_bytes capture i r.history
    (texts_of taps r.plan.detach (lines_of r.packets (length r.plan.apps) r.history).packets) says
    r.few r.good r.by_run r.fits.numbers r.fits.texts)
