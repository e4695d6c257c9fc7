-- What a report determines: its rows, its history and the texts of its taps.
use Rattle.std.specs.Prelude.{ℕ, ◌≡◌, ◌<◌, ◌≤◌, ◌^◌, List, length}
use Rattle.std.specs.List.{All}
use Rattle.steer_base.specs.declared.limits.TheConstants.{MAX_PACKETS}
use Rattle.steer_base.specs.declared.packet.Packet.{Packet}
use Rattle.history.specs.Lines.{LineLists}
use Rattle.history.specs.Ranges.{HistoryFits}
use Rattle.history.specs.Regular.{Regular, AreQueued}
use Rattle.history.specs.declared.history.History.{History}
use Rattle.report.specs.Report.{rows_of, report}
use Rattle.report.specs.Texts.{Row, text_of, AreRows}

-- the number of the taps' texts and the length of each have 64 bits
pub record TextsFit (texts : List (List ℕ)) : Type 0 where
  pub count : length texts < 2 ^ 64
  pub bytes : All (λ text. length text < 2 ^ 64) texts

-- no field of a report has a space or a line feed, and only the row of a tap begins like one
abbrev pub HasRows : Type 0
HasRows =
    (lines : LineLists) (h : History) (texts : List (List ℕ)) → TextsFit texts
    → AreRows (rows_of lines h texts)

-- two lists of rows with equal texts are equal
abbrev pub AreFoundInText : Type 0
AreFoundInText =
    (rows others : List Row) → AreRows rows → AreRows others → text_of rows ≡ text_of others
    → rows ≡ others

-- Bytes are the report of a history with this counter start and of the texts of its taps: the
-- history is regular for the packets of the capture and the number of applications, each arrival is
-- at the queue that its filter and table entry lead to, and numbers and texts are within their
-- types.
pub record IsReportOf (packets : List Packet) (apps start : ℕ) (h : History) (texts : List (List ℕ))
    (bytes : List ℕ) : Type 0 where
  pub regular : Regular packets apps h
  pub queued : AreQueued packets h
  pub numbers : HistoryFits h
  pub taps : TextsFit texts
  pub starts : h.start ≡ start
  pub text : report packets apps h texts ≡ bytes

-- A report has one history: bytes are the report of at most one history with a given counter start,
-- for the packets of a capture and a number of applications, and of one list of tap texts, whatever
-- these are.
abbrev pub HasOneHistory : Type 0
HasOneHistory =
    (packets : List Packet) (apps start : ℕ) (h k : History) (texts others : List (List ℕ))
    (bytes : List ℕ)
    → length packets ≤ MAX_PACKETS → apps < 2 ^ 64
    → IsReportOf packets apps start h texts bytes → IsReportOf packets apps start k others bytes
    → (h ≡ k) × (texts ≡ others)
