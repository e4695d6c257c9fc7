-- A plan and the packets of a capture that were read, and the report of what came of them.
use Rattle.std.proofs.Common.{◌≡◌, ℕ, List, Option, Some, Result, Ok, Err, IfOk, ap, ◌∙◌, [], ◌∷◌}
use Rattle.std.proofs.Common.{subst}
use Rattle.std.specs.Io.KnownBytes.{Keeps}
use Rattle.headline.specs.ByRun.{IsByRun}
use Rattle.history.specs.declared.history.History.{History}
use Rattle.plan_reader.specs.PlanTexts.{settings_of}
use Rattle.plan_reader.specs.declared.plan.Plan.{Plan}
use Rattle.replay.specs.Meanings.{Meaning}
use Rattle.replay.specs.Replays.{IsWithinTypes, ShownLists, replay_of, shown_text, shown_with}
use Rattle.replay.specs.Reports.{IsReportOfPlan, IsReportOfRun}
use Rattle.steer_base.specs.declared.packet.Packet.{Packet}
use Rattle.steer_model.specs.Good.GoodHistory.{Good}
use Rattle.steer_model.specs.State.Start.{replayed}
use Rattle.steer_top.specs.Files.{Accepted, Files}
use Rattle.steer_top.specs.Runs.{IsByRunFor, IsGoodFor, IsRunOf}
use Rattle.steer_top.specs.Taken.{IsInputOf}
use Rattle.steer_top.specs.Words.{PlanWords}
use Rattle.steer_top.specs.declared.ending.Role.TheVariants as role
use Rattle.steer_top.specs.declared.input.Input.{Input}
use Rattle.steer_top.proofs.Commands.{files_of}

-- what is shown of the history of a replay is the replay
pub replay_is : (plan : Plan) (packets : List Packet) (cut : Option ℕ) (taps : List Meaning)
    (history : History) (shown : ShownLists) → history ≡ replayed plan packets cut
    → shown ≡ shown_with plan packets taps history → shown ≡ replay_of plan packets cut taps
unfolding replay_of
replay_is plan packets cut taps history shown played is =
    is ∙ ap (shown_with plan packets taps) played

-- what is shown of a history of a run is a run of the input
pub run_is : {E : Type 0} (input : Input) (taps : List Meaning) (history : History)
    (result : Result ShownLists E)
    → IsGoodFor input history → IsByRunFor input history → IfOk result (λ shown. shown
    ≡ shown_with input.plan input.captured.packets.items taps history)
    → IfOk result (IsWithinTypes input.plan) → IfOk result (IsRunOf input taps)
run_is input taps history (Ok shown) good by_run is fits =
    record { history = history; good = good; by_run = by_run; is = is; fits = fits }
run_is input taps history (Err e) good by_run is fits = tt

module _ (words : PlanWords) (held : List ℕ → Option (List ℕ)) (input : Input)
    (taken : IsInputOf words held input) where
  abbrev pub files : Files
  files = files_of taken.plan.bytes taken.packets.bytes

  pub gave_plan : Keeps (held words.plan) (Some taken.plan.bytes)
  gave_plan = taken.plan.whole

  pub gave_capture : Keeps (held words.capture) (Some taken.packets.bytes)
  gave_capture = taken.packets.whole

  -- both files are good
  pub accepted : Accepted (role.Plan ∷ role.Capture ∷ []) files
  accepted = (
    (taken.plan.few, (settings_of input.plan, taken.plan.has)),
    ((taken.packets.few, (taken.packets.capture, taken.packets.has)), tt),
  )

  -- the report of what is shown of the replay
  pub report_of_replay : (taps : List Meaning) (shown : ShownLists)
      → shown ≡ replay_of input.plan input.captured.packets.items input.captured.cut taps
      → IsWithinTypes input.plan shown
      → IsReportOfPlan taken.plan.bytes taken.packets.bytes taken.packets.capture taps
      (shown_text shown)
  report_of_replay taps shown is fits =
      let packets = input.captured.packets.items in
      let made : shown ≡ replay_of input.plan packets taken.packets.capture.cut taps =
      is ∙ ap (λ cut. replay_of input.plan packets cut taps) taken.packets.cut in
      record {
        plan = input.plan;
        has_plan = taken.plan.has;
        packets = packets;
        are_packets = taken.packets.are_packets;
        few = taken.packets.few_packets;
        is = ap shown_text made;
        fits = subst (IsWithinTypes input.plan) made fits;
      }

  -- the report of what is shown of a run
  pub report_of_run : (taps : List Meaning) (shown : ShownLists) → IsRunOf input taps shown
      → IsReportOfRun taken.plan.bytes taken.packets.bytes taken.packets.capture taps
      (shown_text shown)
  report_of_run taps shown run =
      let packets = input.captured.packets.items in
      record {
        plan = input.plan;
        has_plan = taken.plan.has;
        packets = packets;
        are_packets = taken.packets.are_packets;
        few = taken.packets.few_packets;
        history = run.history;
        good = subst
            (λ cut. Good (record { plan = input.plan; packets = packets; cut = cut }) run.history)
            taken.packets.cut run.good;
        by_run = subst
            (λ cut. IsByRun (record { plan = input.plan; packets = packets; cut = cut })
            run.history)
            taken.packets.cut run.by_run;
        is = ap shown_text run.is;
        fits = subst (IsWithinTypes input.plan) run.is run.fits;
      }
