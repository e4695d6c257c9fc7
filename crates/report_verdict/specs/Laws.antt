-- Laws of verdicts.
use Rattle.std.specs.Prelude.{ℕ, ◌≡◌, ◌≤◌, ◌<◌, ◌^◌, List, [], length}
use Rattle.history.specs.declared.history.History.{History}
use Rattle.steer_base.specs.declared.limits.TheConstants.{MAX_PACKETS}
use Rattle.steer_model.specs.Good.GoodHistory.{Good}
use Rattle.steer_model.specs.Good.Inputs.{Input}
use Rattle.report_verdict.specs.declared.verdict.Verdict.{Verdict}
use Rattle.report_verdict.specs.declared.verdict.Verdict.TheVariants as verdict
use Rattle.report_verdict.specs.Verdicts.{IsReportFor, IsVerdict, commands_in}

-- Of an input and bytes there is at most one verdict.
abbrev pub HasOneVerdict : Type 0
HasOneVerdict =
    (i : Input) (bytes : List ℕ) (v w : Verdict)
    → length i.packets ≤ MAX_PACKETS → length i.plan.apps < 2 ^ 64
    → IsVerdict i bytes v → IsVerdict i bytes w → v ≡ w

-- The report of a good history without commands, for a plan without commands, is good.
abbrev pub GoodReportsAreGood : Type 0
GoodReportsAreGood =
    (i : Input) (bytes : List ℕ) (h : History) (texts : List (List ℕ))
    → commands_in i ≡ [] → h.commands ≡ [] → IsReportFor i bytes h texts → Good i h
    → IsVerdict i bytes verdict.Good

-- A history without commands is good, and these bytes are its report.
pub record IsReportOfGood (i : Input) (bytes : List ℕ) : Type 0 where
  pub history : History
  pub texts : List (List ℕ)
  pub report : IsReportFor i bytes history texts
  pub uncommanded : history.commands ≡ []
  pub good : Good i history

-- If bytes are said to be good, they are the report of a good history.
abbrev pub SaidGoodIsGood : Type 0
SaidGoodIsGood =
    (i : Input) (bytes : List ℕ) → IsVerdict i bytes verdict.Good → IsReportOfGood i bytes
