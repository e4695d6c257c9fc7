-- What was taken of a file, by the bytes that the desk tells of its name.
use Rattle.std.specs.Prelude.{◌≡◌, ◌≤◌, ℕ, List, length, map, Option, Some, Ok}
use Rattle.std.specs.Io.KnownBytes.{Keeps}
use Rattle.plan_reader.specs.declared.plan.Plan.{Plan}
use Rattle.replay.specs.Reports.{ArePacketsBy, HasPlan}
use Rattle.ntuple_rules.specs.Ranges.{RulesAreWithin as AreWithin}
use Rattle.ntuple_rules.specs.Readings.{rules_of}
use Rattle.ntuple_rules.specs.declared.rules.Rules.{Rules}
use Rattle.pcap_reader.specs.Captures.{frame_of}
use Rattle.pcap_reader.specs.declared.capture.Capture.{Capture}
use Rattle.steer_base.specs.declared.limits.TheConstants.{MAX_PACKETS}
use Rattle.steer_model.specs.State.Ranges.{AreOfFlows}
use Rattle.steer_top.specs.Captures.{HasAnyCapture}
use Rattle.steer_top.specs.Files.{limit_of}
use Rattle.steer_top.specs.declared.ending.Role.TheVariants as role
use Rattle.steer_top.specs.Words.{PlanWords}
use Rattle.steer_top.specs.declared.file.CapturedPackets.{CapturedPackets}
use Rattle.steer_top.specs.declared.input.Input.{Input}

-- From what it was at first, a sink has taken the frames of the capture in some bytes that the file
-- may have, within the limit, and the cut is that of this capture. `takes` is the sink's relation.
pub record AreFramesOf {F : Type 0} (takes : F → List (List ℕ) → F → Type 0)
    (held : Option (List ℕ)) (first : F) (cut : Option ℕ) (sink : F) : Type 0 where
  pub bytes : List ℕ
  pub whole : Keeps held (Some bytes)
  pub few : length bytes ≤ limit_of role.Capture
  pub capture : Capture
  pub has : HasAnyCapture bytes capture
  pub taken : takes first (map (frame_of bytes) capture.records) sink
  pub cut_is : cut ≡ capture.cut
  pub few_records : length capture.records ≤ MAX_PACKETS

-- The packets are those that a plan makes of the capture in some bytes that the file may have,
-- within the limit, and the cut is that of this capture.
pub record ArePacketsOf (plan : Plan) (held : Option (List ℕ)) (captured : CapturedPackets)
    : Type 0 where
  pub bytes : List ℕ
  pub whole : Keeps held (Some bytes)
  pub few : length bytes ≤ limit_of role.Capture
  pub capture : Capture
  pub has : HasAnyCapture bytes capture
  pub are_packets : ArePacketsBy plan bytes capture captured.packets.items
  pub cut : captured.cut ≡ capture.cut
  pub few_packets : length captured.packets.items ≤ MAX_PACKETS
  pub flows : AreOfFlows captured.packets.items

-- The plan is that of some bytes that the file may have, within the limit.
pub record IsPlanOf (held : Option (List ℕ)) (plan : Plan) : Type 0 where
  pub bytes : List ℕ
  pub whole : Keeps held (Some bytes)
  pub few : length bytes ≤ limit_of role.Plan
  pub has : HasPlan bytes plan

-- The rules are those of some bytes that the file may have, within the limit.
pub record IsRulesOf (held : Option (List ℕ)) (rules : Rules) : Type 0 where
  pub bytes : List ℕ
  pub whole : Keeps held (Some bytes)
  pub few : length bytes ≤ limit_of role.Rules
  pub has : rules_of bytes ≡ Ok rules
  pub ranges : AreWithin rules

-- The plan is that of the file under the first name, and the packets are those that it makes of the
-- capture under the second.
pub record IsInputOf (words : PlanWords) (held : List ℕ → Option (List ℕ)) (input : Input)
    : Type 0 where
  pub plan : IsPlanOf (held words.plan) input.plan
  pub packets : ArePacketsOf input.plan (held words.capture) input.captured
