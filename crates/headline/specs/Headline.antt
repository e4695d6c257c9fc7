-- What the program promises of a replay, in words of the bytes that were read and written, of the
-- packets of the capture, and of the lists of a history.
use Rattle.std.specs.Prelude.{ℕ, ◌<◌, ◌≡◌, true, List, Ok, Some, length, slice_get}
use Rattle.std.specs.List.{All}
use Rattle.history.specs.Lists.{app_at, lane_at, list_at}
use Rattle.history.specs.Places.{AreInOnePlace, has_arrived}
use Rattle.history.specs.declared.history.History.{History}
use Rattle.pcap_reader.specs.declared.capture.Capture.{Capture}
use Rattle.plan_reader.specs.PlanTexts.{plan_of, settings_of}
use Rattle.plan_reader.specs.Ranges.{commands_of}
use Rattle.report.specs.Laws.{IsReportOf}
use Rattle.steer_base.specs.declared.put.LaneDrop.{LaneDrop}
use Rattle.steer_model.specs.Capture.Packets.{ArePackets}
use Rattle.steer_model.specs.Good.Commands.{AreGiven}
use Rattle.steer_model.specs.Good.Drops.{DropsRise}
use Rattle.steer_model.specs.Good.Inputs.{Input}
use Rattle.steer_model.specs.State.Start.{replayed}
use Rattle.steer_properties.specs.Choices.Clear.{NothingIsOutstanding}
use Rattle.steer_properties.specs.Histories.GoodSoFar.{GoodSoFar}
use Rattle.steer_properties.specs.Histories.Sizes.{IsOfItsInput}
use Rattle.toeplitz.specs.Toeplitz.{number_of}
use Rattle.headline.specs.Drops.{IsDroppedFor}
use Rattle.headline.specs.Moments.{HaveMomentsOfTheRun}
use Rattle.headline.specs.Orders.{AreInOrder}
use Rattle.headline.specs.Places.{IsAtOnePlace}
use Rattle.headline.specs.Processors.{ProcessorsAreChosen}
use Rattle.headline.specs.Replies.{QueuesArePicked}

-- A history of a plan and of the packets of a capture is as it should be. Each packet that arrived
-- stands at exactly one place. Every drop was by full backlog or flow limit, and along the drops of
-- a processor the counts that they keep never fall. Of each flow from each receive queue, the inbox
-- of its application, and the port, have the packets in the order of their arrival without the
-- dropped ones. A flow changed its processor exactly where the manual lets it, and its transmit
-- queue exactly where another was picked and the head of its own had reached the recorded tail.
-- Where it did so, what was accepted of it before is retired.
pub record IsRight (i : Input) (h : History) : Type 0 where
  pub once : AreInOnePlace h
  pub places : (x : ℕ) → has_arrived h x ≡ true → IsAtOnePlace h x
  pub drops : (c j : ℕ) (d : LaneDrop) → slice_get (lane_at h.lanes c).drops j ≡ Some d
      → IsDroppedFor i h c j d
  pub drops_rise : All DropsRise h.lanes
  pub inboxes : (q x : ℕ) → x < length i.packets
      → AreInOrder i.packets h q x
      (list_at h.inboxes (app_at i.packets (length i.plan.apps) x))
  pub port : (q x : ℕ) → x < length i.packets → AreInOrder i.packets h q x h.port
  pub at : ℕ → ℕ → ℕ
  pub processors : ProcessorsAreChosen i h at
  pub tx_at : ℕ → ℕ → ℕ
  pub queues : QueuesArePicked i h tx_at
  pub clear : NothingIsOutstanding h

-- A history is the one that the steps of the plan make over the packets of the capture. So it has
-- the capture's number of packets and its cut record, and the plan's start and sizes. It meets each
-- clause of a good history that does not ask that the run is over: each arrival is at the queue of
-- a table entry or of a filter, wants were written, heads never fall, and writes, answers and
-- replies are those of the rules. Its commands are the plan's, each given once. Each arrival,
-- choice, drop and accepted packet is what one event of the run did, by the rules for the state
-- before it.
pub record IsOfTheRun (i : Input) (h : History) : Type 0 where
  pub made : h ≡ replayed i.plan i.packets i.cut
  pub of_input : IsOfItsInput i h
  pub good : GoodSoFar i h
  pub given : AreGiven 1 (commands_of i.plan.steps) h.commands
  pub moments : HaveMomentsOfTheRun i h

-- The bytes of a plan and the capture in other bytes say what was to be done: the plan, and the
-- packets with their flows, and their hashes by the plan's key and kinds.
pub record Says (plan_bytes capture_bytes : List ℕ) (capture : Capture) (i : Input) : Type 0 where
  pub plan : plan_of plan_bytes ≡ Ok (settings_of i.plan)
  pub packets : ArePackets (number_of i.plan.key) i.plan.kinds capture_bytes capture.records
      i.packets
  pub cut : i.cut ≡ capture.cut

-- A text is the report of a history for this plan and these packets, with the texts of some taps.
abbrev pub Reports : Input → History → List ℕ → Type 0
Reports i h text =
    (taps : List (List ℕ)) × IsReportOf i.packets (length i.plan.apps) i.plan.start h taps text

-- The text that was written is the report of just one history, that history is the one of the run,
-- and it is as it should be.
pub record Headline (plan_bytes capture_bytes : List ℕ) (capture : Capture) (text : List ℕ)
    : Type 0 where
  pub input : Input
  pub says : Says plan_bytes capture_bytes capture input
  pub history : History
  pub reports : Reports input history text
  pub only : (i : Input) (h : History) → Says plan_bytes capture_bytes capture i
      → Reports i h text → h ≡ history
  pub run : IsOfTheRun input history
  pub right : IsRight input history
