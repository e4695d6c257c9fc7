-- The report of the bytes of a plan and of a capture.
use Rattle.std.specs.Prelude.{◌≡◌, ◌≤◌, ℕ, List, Ok, length}
use Rattle.steer_base.specs.declared.limits.TheConstants.{MAX_PACKETS}
use Rattle.steer_base.specs.declared.packet.Packet.{Packet}
use Rattle.headline.specs.ByRun.{IsByRun}
use Rattle.history.specs.declared.history.History.{History}
use Rattle.pcap_reader.specs.declared.capture.Capture.{Capture}
use Rattle.plan_reader.specs.PlanTexts.{plan_of, settings_of}
use Rattle.plan_reader.specs.declared.plan.Plan.{Plan}
use Rattle.toeplitz.specs.Toeplitz.{number_of}
use Rattle.steer_model.specs.Capture.Packets.{ArePackets}
use Rattle.steer_model.specs.Good.GoodHistory.{Good}
use Rattle.replay.specs.Meanings.{Meaning}
use Rattle.replay.specs.Replays.{IsWithinTypes, replay_of, shown_text, shown_with}

-- Bytes are the text of a plan.
abbrev pub HasPlan : List ℕ → Plan → Type 0
HasPlan bytes plan = plan_of bytes ≡ Ok (settings_of plan)

-- The packets of a capture by a plan: those of its records, each with the flow of its frame, and
-- the hash of the flow by the plan's key and kinds.
abbrev pub ArePacketsBy : Plan → List ℕ → Capture → List Packet → Type 0
ArePacketsBy plan bytes capture packets =
    ArePackets (number_of plan.key) plan.kinds bytes capture.records packets

-- A text is the report of the history that the steps of the plan give on the packets of the
-- capture, with the texts of the taps.
pub record IsReportOfPlan (plan_bytes capture_bytes : List ℕ) (capture : Capture)
    (taps : List Meaning)
    (text : List ℕ) : Type 0 where
  pub plan : Plan
  pub has_plan : HasPlan plan_bytes plan
  pub packets : List Packet
  pub are_packets : ArePacketsBy plan capture_bytes capture packets
  pub few : length packets ≤ MAX_PACKETS
  pub is : text ≡ shown_text (replay_of plan packets capture.cut taps)
  pub fits : IsWithinTypes plan (replay_of plan packets capture.cut taps)

-- A text is the report of a history that is good for the plan and the packets of the capture and
-- whose lists are those of a run, with the texts of the taps.
pub record IsReportOfRun (plan_bytes capture_bytes : List ℕ) (capture : Capture)
    (taps : List Meaning)
    (text : List ℕ) : Type 0 where
  pub plan : Plan
  pub has_plan : HasPlan plan_bytes plan
  pub packets : List Packet
  pub are_packets : ArePacketsBy plan capture_bytes capture packets
  pub few : length packets ≤ MAX_PACKETS
  pub history : History
  pub good : Good (record { plan = plan; packets = packets; cut = capture.cut }) history
  pub by_run : IsByRun (record { plan = plan; packets = packets; cut = capture.cut }) history
  pub is : text ≡ shown_text (shown_with plan packets taps history)
  pub fits : IsWithinTypes plan (shown_with plan packets taps history)
