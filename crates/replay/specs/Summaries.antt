-- The replay of generated input in two lines.
use Rattle.std.specs.Prelude.{◌≡◌, ℕ, List, ◌++◌, codes, decimal}
use Rattle.cap_gen.specs.Packets.{packets_of}
use Rattle.cap_gen.specs.PlanValues.{plan_value, generated_step_count}
use Rattle.pcap_reader.specs.Captures.{HasCapture}
use Rattle.pcap_reader.specs.Writing.{capture_bytes}
use Rattle.pcap_reader.specs.declared.capture.Capture.{Capture}
use Rattle.plan_reader.specs.declared.plan.Plan.{Plan}
use Rattle.serde_json.specs.Written.{compact_text}
use Rattle.steer_base.specs.declared.packet.Packet.{Packet}
use Rattle.steer_model.specs.State.Start.{replayed}
use Rattle.replay.specs.Counts.{counts_of}
use Rattle.steer_model.specs.Capture.FlowCounts.{flow_count}
use Rattle.replay.specs.Reports.{ArePacketsBy, HasPlan}
use Rattle.replay.specs.declared.counts.Counts.{Counts}
use Rattle.replay.specs.declared.summary.Summary.{Summary}

-- The bytes of the capture that is generated.
abbrev pub generated_capture : (seed packets flows : ℕ) → List ℕ
generated_capture seed packets flows = capture_bytes (packets_of seed flows packets)

-- The bytes of the plan that is generated.
abbrev pub generated_plan : ℕ → ℕ → List ℕ
generated_plan seed packets = compact_text (plan_value seed (generated_step_count packets))

-- A summary is that of the history which the steps of the generated plan give on the packets of the
-- generated capture.
pub record IsSummaryOf (seed packets flows : ℕ) (s : Summary) : Type 0 where
  pub plan : Plan
  pub has_plan : HasPlan (generated_plan seed packets) plan
  pub capture : Capture
  pub has_capture : HasCapture (generated_capture seed packets flows) capture
  pub list : List Packet
  pub are_packets : ArePacketsBy plan (generated_capture seed packets flows) capture list
  pub is : s ≡ record {
    seed = seed;
    packets = packets;
    flows = flow_count list;
    counts = counts_of (replayed plan list capture.cut);
  }

-- The line of what was generated.
unfoldable pub input_line : (seed packets flows : ℕ) → List ℕ
input_line seed packets flows =
    codes "gen " ++ decimal seed ++ codes " packets " ++ decimal packets
    ++ codes " flows " ++ decimal flows ++ codes "\n"

-- The line of the sums, up to the number of drops.
unfoldable pub up_to_drops : ℕ → ℕ → List ℕ
up_to_drops delivered dropped =
    codes "delivered " ++ decimal delivered ++ codes " dropped " ++ decimal dropped

-- The line of the sums, after the number of drops.
unfoldable pub after_drops : ℕ → ℕ → List ℕ
after_drops moved replies =
    codes " moved " ++ decimal moved ++ codes " replies " ++ decimal replies ++ codes "\n"

-- The line of the sums.
unfoldable pub counts_line : Counts → List ℕ
counts_line c = up_to_drops c.delivered c.dropped ++ after_drops c.moved c.replies

-- The two lines of a summary.
abbrev pub summary_text : Summary → List ℕ
summary_text s = input_line s.seed s.packets s.flows ++ counts_line s.counts
