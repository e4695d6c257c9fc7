-- A history as it is shown, the replay of a plan over the packets of a capture, and the report.
use Rattle.std.specs.Prelude.{ℕ, ◌^◌, ◌<◌, List, Option, length}
use Rattle.steer_base.specs.declared.packet.Packet.{Packet}
use Rattle.history.specs.Lines.{LineLists, lines_of}
use Rattle.history.specs.Ranges.{HistoryFits}
use Rattle.history.specs.declared.history.History.{History}
use Rattle.plan_reader.specs.declared.plan.Plan.{Plan}
use Rattle.report.specs.Laws.{TextsFit}
use Rattle.report.specs.Report.{rows_of}
use Rattle.report.specs.Texts.{text_of}
use Rattle.steer_model.specs.State.Start.{replayed}
use Rattle.replay.specs.Meanings.{Meaning, texts_of}

-- What is shown of a history: the history, the lines of its packets, and the texts of the taps.
pub record ShownLists : Type 0 where
  pub history : History
  pub lines : LineLists
  pub texts : List (List ℕ)

-- Numbers within the types that a program has for them: the start of a plan, and those of a
-- history and of the texts of its taps.
pub record IsWithinTypes (plan : Plan) (r : ShownLists) : Type 0 where
  pub start : plan.start < 2 ^ 32
  pub numbers : HistoryFits r.history
  pub texts : TextsFit r.texts

-- What is shown, from its three parts.
abbrev pub shown_lists : History → LineLists → List (List ℕ) → ShownLists
shown_lists h lines texts = record { history = h; lines = lines; texts = texts }

-- What is shown of a history: its lines, and the texts of these taps over the lines of the packets
-- that arrived.
abbrev pub shown_with : Plan → List Packet → List Meaning → History → ShownLists
shown_with plan packets taps h =
    let lines = lines_of packets (length plan.apps) h in
    shown_lists h lines (texts_of taps plan.detach lines.packets)

-- The replay of all steps of a plan over the packets of a capture, with taps that mean this.
unfoldable pub replay_of : Plan → List Packet → Option ℕ → List Meaning → ShownLists
replay_of plan packets cut taps = shown_with plan packets taps (replayed plan packets cut)

-- The report of what is shown.
unfoldable pub shown_text : ShownLists → List ℕ
shown_text r = text_of (rows_of r.lines r.history r.texts)
