-- The laws on what is promised of a replay, and of a run with threads.
use Rattle.std.specs.Prelude.{ℕ, ◌≤◌, List, length}
use Rattle.history.specs.Ranges.{HistoryFits}
use Rattle.history.specs.declared.history.History.{History}
use Rattle.pcap_reader.specs.declared.capture.Capture.{Capture}
use Rattle.report.specs.Laws.{TextsFit}
use Rattle.report.specs.Report.{report}
use Rattle.steer_base.specs.declared.limits.TheConstants.{MAX_PACKETS}
use Rattle.steer_properties.specs.Histories.Always.{Always}
use Rattle.steer_invariant.specs.InvariantLaws.{MayStart}
use Rattle.steer_model.specs.Good.GoodHistory.{Good}
use Rattle.steer_model.specs.Good.Inputs.{Input}
use Rattle.steer_model.specs.State.Ranges.{AreOfFlows}
use Rattle.steer_model.specs.State.Start.{replayed}
use Rattle.headline.specs.ByRun.{IsByRun}
use Rattle.headline.specs.Headline.{Headline, IsOfTheRun, IsRight, Says}
use Rattle.headline.specs.Live.{IsWhole, LiveHeadline}

-- The history of every replay is as it should be, in every state.
abbrev pub ReplaysAreRight : Type 0
ReplaysAreRight = Always IsRight

-- The history of the replay of a plan is that of its run.
abbrev pub ReplaysAreOfTheirRuns : Type 0
ReplaysAreOfTheirRuns =
    (i : Input) → MayStart i.plan i.packets → IsOfTheRun i (replayed i.plan i.packets i.cut)

-- Where bytes say what was to be done, the report of its replay has the headline. The replay's
-- numbers, and the texts of the taps, are such as a program holds.
abbrev pub ReportsHaveTheHeadline : Type 0
ReportsHaveTheHeadline =
    (plan_bytes capture_bytes : List ℕ) (capture : Capture) (i : Input) (taps : List (List ℕ))
    → Says plan_bytes capture_bytes capture i → MayStart i.plan i.packets
    → HistoryFits (replayed i.plan i.packets i.cut) → TextsFit taps
    → Headline plan_bytes capture_bytes capture
    (report i.packets (length i.plan.apps) (replayed i.plan i.packets i.cut) taps)

-- A good history, whoever made it, is as it should be.
abbrev pub GoodHistoriesAreRight : Type 0
GoodHistoriesAreRight = (i : Input) (h : History) → Good i h → IsRight i h

-- A good history over packets whose flows have one hash each is whole.
abbrev pub GoodHistoriesAreWhole : Type 0
GoodHistoriesAreWhole =
    (i : Input) (h : History) → AreOfFlows i.packets → Good i h → IsWhole i h

-- Where bytes say what was to be done, the report of each good history of it whose lists are those
-- of a run has the headline of a run with threads. The numbers of the history, and the texts of the
-- taps, are such as a program holds.
abbrev pub RunReportsHaveTheHeadline : Type 0
RunReportsHaveTheHeadline =
    (plan_bytes capture_bytes : List ℕ) (capture : Capture) (i : Input) (h : History)
    (taps : List (List ℕ))
    → Says plan_bytes capture_bytes capture i → length i.packets ≤ MAX_PACKETS → Good i h
    → IsByRun i h → HistoryFits h → TextsFit taps
    → LiveHeadline plan_bytes capture_bytes capture (report i.packets (length i.plan.apps) h taps)
