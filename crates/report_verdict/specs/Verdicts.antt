-- What is said of bytes that are to be a report, for a plan and the packets of a capture.
use Rattle.std.specs.Prelude.{ℕ, ◌≡◌, Bool, true, false, List, [], Option, Some, None, length}
use Rattle.std.specs.Option.{ForSome}
use Rattle.good_check.specs.Faults.{HasFirstFault, HasNoFault}
use Rattle.history.specs.declared.history.History.{History}
use Rattle.plan_reader.specs.Ranges.{commands_of}
use Rattle.report.specs.Laws.{IsReportOf}
use Rattle.report.specs.Report.{report}
use Rattle.report_check.specs.Reading.{IsCandidate, IsNoReport, IsOnlyReport}
use Rattle.steer_base.specs.declared.command.Command.{Command}
use Rattle.steer_model.specs.Good.Inputs.{Input}
use Rattle.report_verdict.specs.declared.verdict.Verdict.{Verdict}
use Rattle.report_verdict.specs.declared.verdict.Verdict.TheVariants as verdict

-- the commands of the plan of an input
abbrev pub commands_in : Input → List Command
commands_in i = commands_of i.plan.steps

-- Bytes are the report of this history with these texts of taps, for the packets of an input, the
-- number of applications of its plan, and counters that begin as the plan says.
abbrev pub IsReportFor : Input → List ℕ → History → List (List ℕ) → Type 0
IsReportFor i bytes h texts =
    IsReportOf i.packets (length i.plan.apps) i.plan.start h texts bytes

-- The verdict on bytes. The plan has commands; otherwise the bytes are the report of no history;
-- otherwise they are the report of a history that fails this clause first, or of one that fails
-- none.
abbrev pub IsVerdict : Input → List ℕ → Verdict → Type 0
IsVerdict i bytes verdict.NotChecked = commands_in i ≡ [] → ⊥
IsVerdict i bytes verdict.NotReport =
    (commands_in i ≡ []) × IsNoReport i.packets (length i.plan.apps) i.plan.start bytes
IsVerdict i bytes (verdict.Bad clause) =
    (commands_in i ≡ [])
    × ((h : History) × (texts : List (List ℕ)) × IsReportFor i bytes h texts
    × HasFirstFault i h clause)
IsVerdict i bytes verdict.Good =
    (commands_in i ≡ [])
    × ((h : History) × (texts : List (List ℕ)) × IsReportFor i bytes h texts × HasNoFault i h)

-- It is left to judge this history with these texts of taps: the plan has no commands, and if bytes
-- are a report for an input, they are that of this one.
pub record IsToJudge (i : Input) (bytes : List ℕ) (h : History) (texts : List (List ℕ))
    : Type 0 where
  pub commands : commands_in i ≡ []
  pub candidate : IsCandidate i.packets (length i.plan.apps) i.plan.start h texts
  pub only : IsOnlyReport i.packets (length i.plan.apps) i.plan.start h texts bytes

-- Whether just these bytes are written of a history, and the first clause that it fails.
pub record IsJudged (i : Input) (bytes : List ℕ) (h : History) (texts : List (List ℕ))
    (written : Bool) (fault : Option ℕ) : Type 0 where
  pub yes : written ≡ true → report i.packets (length i.plan.apps) h texts ≡ bytes
  pub no : report i.packets (length i.plan.apps) h texts ≡ bytes → written ≡ true
  pub some : ForSome fault (λ clause. HasFirstFault i h clause)
  pub none : fault ≡ None → HasNoFault i h

-- The verdict on such a history: whether bytes are its report, and the first clause that it fails.
abbrev pub verdict_of : Bool → Option ℕ → Verdict
verdict_of false fault = verdict.NotReport
verdict_of true (Some clause) = verdict.Bad clause
verdict_of true None = verdict.Good
