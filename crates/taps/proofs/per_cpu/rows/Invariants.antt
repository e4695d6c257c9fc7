use Rattle.std.proofs.Common.{◌≡◌, ◌++◌, ◌-◌}
use Rattle.std.specs.Prelude.{slice_index}
use Rattle.taps.specs.Cpus.{cpu_count_line}
use Rattle.taps.specs.Rows.{each_cpu, rows_of_cpus}
use Rattle.taps.proofs.per_cpu.rows.Given as goal

-- the lines so far and those of the processors left are all lines
abbrev pub invariant-loop-cpu : goal.invariant-loop-cpu
invariant-loop-cpu l =
    l.text.items ++ rows_of_cpus l.cpu (256 - l.cpu) (λ cpu. cpu_count_line cpu
    (slice_index l.counts cpu))
    ≡ each_cpu (λ cpu. cpu_count_line cpu (slice_index l.counts cpu))
