-- The verdict on the history that was found is that on the bytes.
use Rattle.std.proofs.Common.{ℕ, Bool, true, false, ◌≡◌, List, [], Option, Some, None, IfSome}
use Rattle.std.proofs.Common.{length, refl, subst}
use Rattle.history.specs.declared.history.History.{History}
use Rattle.report.specs.Report.{report}
use Rattle.report_check.proofs.ReadLemmas.{no-report, report-by-text}
use Rattle.report_check.specs.Reading.{IsCandidate, IsOnlyReport}
use Rattle.report_history.specs.declared.printed.Printed.{Printed}
use Rattle.steer_model.specs.Good.Inputs.{Input}
use Rattle.report_verdict.specs.Verdicts.{IsJudged, IsReportFor, IsToJudge}
use Rattle.report_verdict.specs.Verdicts.{IsVerdict, commands_in, verdict_of}

-- a history that was found in bytes is to be judged if the plan has no commands
pub to-judge : (i : Input) (bytes : List ℕ) (apps : ℕ) (found : Option Printed) (p : Printed)
    → found ≡ Some p → apps ≡ length i.plan.apps → commands_in i ≡ []
    → IfSome found (λ p. IsCandidate i.packets apps i.plan.start p.history p.texts.items)
    → IfSome found (λ p. IsOnlyReport i.packets apps i.plan.start p.history p.texts.items bytes)
    → IsToJudge i bytes p.history p.texts.items
to-judge i bytes apps found p is many none candidate only =
    record {
      commands = none;
      candidate = subst (λ n. IsCandidate i.packets n i.plan.start p.history p.texts.items) many
          (subst (λ o. IfSome o (λ (p : Printed).
          IsCandidate i.packets apps i.plan.start p.history p.texts.items)) is candidate);
      only = subst (λ n. IsOnlyReport i.packets n i.plan.start p.history p.texts.items bytes) many
          (subst (λ o. IfSome o (λ (p : Printed).
          IsOnlyReport i.packets apps i.plan.start p.history p.texts.items bytes)) is only);
    }

module _ (i : Input) (bytes : List ℕ) (h : History) (texts : List (List ℕ))
    (j : IsToJudge i bytes h texts) where
  reported : report i.packets (length i.plan.apps) h texts ≡ bytes → IsReportFor i bytes h texts
  reported = report-by-text i.packets (length i.plan.apps) i.plan.start bytes h texts j.candidate

  pub is_verdict : (written : Bool) (fault : Option ℕ) → IsJudged i bytes h texts written fault
      → IsVerdict i bytes (verdict_of written fault)
  is_verdict false fault is = (
    j.commands,
    no-report i.packets (length i.plan.apps) i.plan.start bytes h texts j.only
        (λ r. let e : false ≡ true = is.no r.text in absurd (cc)),
  )
  is_verdict true (Some n) is = (j.commands, (h, texts, reported (is.yes refl), is.some n refl))
  is_verdict true None is = (j.commands, (h, texts, reported (is.yes refl), is.none refl))
