-- At most one verdict stands, and what is said to be good is good.
use Rattle.std.proofs.Common.{ℕ, ◌≡◌, ◌≤◌, ◌<◌, ◌^◌, List, length, refl, ap, ◌∙◌, sym, subst}
use Rattle.std.proofs.Common.{arith, inl, inr}
use Rattle.std.proofs.lemmas.Bool.{cases_lt}
use Rattle.good_check.specs.Faults.{FirstFault, HasFirstFault, HasNoFault}
use Rattle.history.specs.declared.history.History.{History}
use Rattle.report.specs.Laws.{HasOneHistory}
use Rattle.steer_base.specs.declared.limits.TheConstants.{MAX_PACKETS}
use Rattle.steer_model.specs.Good.Inputs.{Input}
use Rattle.steer_model.specs.Laws.GoodHistories.{GoodByClauses}
use Rattle.report_verdict.specs.Laws.{GoodReportsAreGood, HasOneVerdict, SaidGoodIsGood}
use Rattle.report_verdict.specs.Verdicts.{IsReportFor, IsVerdict}
use Rattle.report_verdict.specs.declared.verdict.Verdict.{Verdict}
use Rattle.report_verdict.specs.declared.verdict.Verdict.TheVariants as verdict

-- no clause that fails first is before another one
not_before : (i : Input) (h : History) (m n : ℕ) → FirstFault m i h → FirstFault n i h → m < n → ⊥
not_before i h m n a b l = a.fault (b.before m a.within.0 l)

same_first : (i : Input) (h : History) (m n : ℕ) → FirstFault m i h → FirstFault n i h → m ≡ n
same_first i h m n a b = elim (cases_lt m n) [
  | inl l ↦ absurd (not_before i h m n a b l)
  | inr l ↦ elim (cases_lt n m) [
    | inl k ↦ absurd (not_before i h n m b a k)
    | inr k ↦ omega (arith, l, k)
  ]
]

pub same_fault : (i : Input) (h : History) (m n : ℕ) → HasFirstFault i h m → HasFirstFault i h n
    → m ≡ n
same_fault i h m n (inl a) (inl b) = a.1 ∙ sym b.1
same_fault i h m n (inl a) (inr b) = absurd (a.0 b.0)
same_fault i h m n (inr a) (inl b) = absurd (b.0 a.0)
same_fault i h m n (inr a) (inr b) = same_first i h m n a.1 b.1

pub fault_or_none : (i : Input) (h : History) (n : ℕ) → HasFirstFault i h n → HasNoFault i h → ⊥
fault_or_none i h n (inl a) b = a.0 b.0
fault_or_none i h n (inr a) b = a.1.fault (b.1 n)

module _ (one : HasOneHistory) (i : Input) (bytes : List ℕ)
    (few : length i.packets ≤ MAX_PACKETS) (apps : length i.plan.apps < 2 ^ 64) where
  -- one history has these bytes as its report
  pub same_history : (h k : History) (texts others : List (List ℕ)) → IsReportFor i bytes h texts
      → IsReportFor i bytes k others → h ≡ k
  same_history h k texts others a b =
      (one i.packets (length i.plan.apps) i.plan.start h k texts others bytes few apps a b).0

  verdict_same : (v w : Verdict) → IsVerdict i bytes v → IsVerdict i bytes w → v ≡ w
  verdict_same verdict.NotChecked verdict.NotChecked a b = refl
  verdict_same verdict.NotChecked verdict.NotReport a b = absurd (a b.0)
  verdict_same verdict.NotChecked (verdict.Bad n) a b = absurd (a b.0)
  verdict_same verdict.NotChecked verdict.Good a b = absurd (a b.0)
  verdict_same verdict.NotReport verdict.NotChecked a b = absurd (b a.0)
  verdict_same verdict.NotReport verdict.NotReport a b = refl
  verdict_same verdict.NotReport (verdict.Bad n) a b = absurd (a.1 b.1.0 b.1.1 b.1.2)
  verdict_same verdict.NotReport verdict.Good a b = absurd (a.1 b.1.0 b.1.1 b.1.2)
  verdict_same (verdict.Bad m) verdict.NotChecked a b = absurd (b a.0)
  verdict_same (verdict.Bad m) verdict.NotReport a b = absurd (b.1 a.1.0 a.1.1 a.1.2)
  verdict_same (verdict.Bad m) (verdict.Bad n) a b =
      let e : b.1.0 ≡ a.1.0 = same_history b.1.0 a.1.0 b.1.1 a.1.1 b.1.2 a.1.2 in
      ap verdict.Bad (same_fault i a.1.0 m n a.1.3 (subst (λ h. HasFirstFault i h n) e b.1.3))
  verdict_same (verdict.Bad m) verdict.Good a b =
      let e : b.1.0 ≡ a.1.0 = same_history b.1.0 a.1.0 b.1.1 a.1.1 b.1.2 a.1.2 in
      absurd (fault_or_none i a.1.0 m a.1.3 (subst (λ h. HasNoFault i h) e b.1.3))
  verdict_same verdict.Good verdict.NotChecked a b = absurd (b a.0)
  verdict_same verdict.Good verdict.NotReport a b = absurd (b.1 a.1.0 a.1.1 a.1.2)
  verdict_same verdict.Good (verdict.Bad n) a b =
      let e : a.1.0 ≡ b.1.0 = same_history a.1.0 b.1.0 a.1.1 b.1.1 a.1.2 b.1.2 in
      absurd (fault_or_none i b.1.0 n b.1.3 (subst (λ h. HasNoFault i h) e a.1.3))
  verdict_same verdict.Good verdict.Good a b = refl

pub one_verdict : HasOneHistory → HasOneVerdict
one_verdict one i bytes v w few apps a b = verdict_same one i bytes few apps v w a b

pub good_report : GoodByClauses → GoodReportsAreGood
good_report by i bytes h texts plan none report good =
    (plan, (h, texts, report, (none, (by i h none).0 good)))

pub said_good : GoodByClauses → SaidGoodIsGood
said_good by i bytes (plan, (h, texts, report, (none, all))) =
    record {
      history = h;
      texts = texts;
      report = report;
      uncommanded = none;
      good = (by i h none).1 all;
    }
