use Rattle.std.proofs.Common.{◌≡◌, ◌++◌, ◌-◌}
use Rattle.std.specs.Prelude.{None, slice_index_or}
use Rattle.taps.specs.Positions.{depth_row}
use Rattle.taps.specs.Rows.{each_cpu, rows_of_cpus}
use Rattle.taps.proofs.depth.rows.Given as goal

-- the lines so far and those of the processors left are all lines
abbrev pub invariant-loop-cpu : goal.invariant-loop-cpu
invariant-loop-cpu l =
    l.text.items ++ rows_of_cpus l.cpu (256 - l.cpu)
    (λ cpu. depth_row cpu (slice_index_or l.depths cpu None))
    ≡ each_cpu (λ cpu. depth_row cpu (slice_index_or l.depths cpu None))
