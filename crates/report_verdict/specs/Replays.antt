-- What is said of the reports of replays.
use Rattle.std.specs.Prelude.{ℕ, ◌≡◌, ◌⊎◌, List, [], ◌∷◌, ◌++◌, length}
use Rattle.history.specs.Ranges.{HistoryFits}
use Rattle.plan_reader.specs.declared.plan.Plan.{Plan}
use Rattle.report.specs.Laws.{TextsFit}
use Rattle.report.specs.Report.{report}
use Rattle.steer_base.specs.declared.step.Step.{Step}
use Rattle.steer_base.specs.declared.step.Step.TheVariants as act
use Rattle.steer_invariant.specs.InvariantLaws.{MayStart}
use Rattle.steer_model.specs.Good.Inputs.{Input}
use Rattle.steer_model.specs.Good.Writes.{WritesAreRight}
use Rattle.steer_model.specs.State.Start.{replayed, steps_of}
use Rattle.report_verdict.specs.Verdicts.{IsVerdict, commands_in}
use Rattle.report_verdict.specs.declared.verdict.Verdict.{Verdict}
use Rattle.report_verdict.specs.declared.verdict.Verdict.TheVariants as verdict

-- Bytes are the report of the replay of an input with these texts of taps; numbers and texts are
-- within their types.
pub record IsReportOfReplay (i : Input) (texts : List (List ℕ)) (bytes : List ℕ) : Type 0 where
  pub start : MayStart i.plan i.packets
  pub numbers : HistoryFits (replayed i.plan i.packets i.cut)
  pub taps : TextsFit texts
  pub text : report i.packets (length i.plan.apps) (replayed i.plan i.packets i.cut) texts
      ≡ bytes

-- What may be said of the report of a replay: good, or that one of the clauses fails first that
-- speak of all packets. Not all arrived (1), one that was taken has no choice yet (3), something is
-- under way (8), or an application did not write for its whole inbox (9).
abbrev pub MayBeSaid : Verdict → Type 0
MayBeSaid v =
    (v ≡ verdict.Good)
    ⊎ ((v ≡ verdict.Bad 1)
    ⊎ ((v ≡ verdict.Bad 3) ⊎ ((v ≡ verdict.Bad 8) ⊎ (v ≡ verdict.Bad 9))))

-- Of the report of a replay of a plan without commands only these may be said.
abbrev pub ReplaysAreJudged : Type 0
ReplaysAreJudged =
    (i : Input) (texts : List (List ℕ)) (bytes : List ℕ) (v : Verdict)
    → commands_in i ≡ [] → IsReportOfReplay i texts bytes → IsVerdict i bytes v → MayBeSaid v

-- the last step of a plan is a sweep
abbrev pub EndsWithSweep : Plan → Type 0
EndsWithSweep plan = (ss : List Step) × (steps_of plan ≡ ss ++ act.Sweep ∷ [])

-- The writes of a replay are those of its inboxes.
abbrev pub WritesItsInboxes : Input → Type 0
WritesItsInboxes i = WritesAreRight i (replayed i.plan i.packets i.cut)

-- If the last step is a sweep, the report is good if the writes are those of the inboxes.
abbrev pub SweptReplaysAreGood : Type 0
SweptReplaysAreGood =
    (i : Input) (texts : List (List ℕ)) (bytes : List ℕ)
    → commands_in i ≡ [] → EndsWithSweep i.plan → IsReportOfReplay i texts bytes
    → WritesItsInboxes i → IsVerdict i bytes verdict.Good

-- If the last step is a sweep, the report is good, or the writes are not those of the inboxes, and
-- clause 9 fails first.
abbrev pub SweptReplaysAreJudged : Type 0
SweptReplaysAreJudged =
    (i : Input) (texts : List (List ℕ)) (bytes : List ℕ) (v : Verdict)
    → commands_in i ≡ [] → EndsWithSweep i.plan → IsReportOfReplay i texts bytes
    → IsVerdict i bytes v
    → (v ≡ verdict.Good) ⊎ ((v ≡ verdict.Bad 9) × (WritesItsInboxes i → ⊥))

-- If the last step is a sweep, and the plan has no socket flow table, the report is good.
abbrev pub UnrecordedReplaysAreGood : Type 0
UnrecordedReplaysAreGood =
    (i : Input) (texts : List (List ℕ)) (bytes : List ℕ)
    → commands_in i ≡ [] → EndsWithSweep i.plan → i.plan.sock ≡ 0
    → IsReportOfReplay i texts bytes → IsVerdict i bytes verdict.Good
