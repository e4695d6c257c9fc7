use Rattle.std.proofs.Common.{◌+◌, ◌∙◌, ap, cond, get_or, sym}
use Rattle.taps.specs.Cpus.{is_of}
use Rattle.taps.proofs.CpusLemmas.{same_counts}
use Rattle.taps.proofs.per_cpu.PerCpuTap.note.Goals as goal

pub returns-in_ok-count_at-clause-noted : goal.returns-in_ok-count_at-clause-noted
returns-in_ok-count_at-clause-noted c = λ lines.
    same_counts c.args.self.now.counts c.count_at.new.counts c.args.line.now lines
    (λ cpu. c.in_ok-count_at.ensures.counted cpu
    ∙ ap (λ o. get_or c.args.self.now.counts cpu 0 + cond (is_of cpu o) 1 0) (sym c.in-Some.is))
