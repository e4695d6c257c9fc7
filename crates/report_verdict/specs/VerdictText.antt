-- The line that says a verdict.
use Rattle.std.specs.Prelude.{ℕ, List, ◌++◌, codes, decimal}
use Rattle.report_verdict.specs.declared.verdict.Verdict.{Verdict}
use Rattle.report_verdict.specs.declared.verdict.Verdict.TheVariants as verdict

-- The line for a history that fails this clause first.
abbrev pub bad_text : ℕ → List ℕ
bad_text clause = codes "check bad " ++ (decimal clause ++ codes "\n")

-- The line of a verdict.
abbrev pub verdict_text : Verdict → List ℕ
verdict_text verdict.NotChecked = codes "check not checked\n"
verdict_text verdict.NotReport = codes "check not a report\n"
verdict_text (verdict.Bad clause) = bad_text clause
verdict_text verdict.Good = codes "check good\n"
