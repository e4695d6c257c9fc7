use Rattle.std.proofs.Common.{ℕ, ◌-◌, ◌++◌, ◌∙◌, ap}
use Rattle.std.specs.Prelude.{slice_index}
use Rattle.taps.specs.Cpus.{cpu_count_line}
use Rattle.taps.specs.Rows.{each_cpu, rows_of_cpus}
use Rattle.taps.proofs.CpusLemmas.{rows_all, rows_moved}
use Rattle.taps.proofs.per_cpu.rows.Goals as goal

pub loop-cpu-init : goal.loop-cpu-init
loop-cpu-init c =
    let row = λ (cpu : ℕ). cpu_count_line cpu (slice_index c.args.counts.now cpu) in
    ap (λ text. text ++ rows_of_cpus 0 (256 - 0) row) c.new-text.ensures.items ∙ rows_all row

pub loop-cpu-preserved : goal.loop-cpu-preserved
loop-cpu-preserved c =
    let row = λ (cpu : ℕ). cpu_count_line cpu (slice_index c.args.counts.now cpu) in
    rows_moved c.loop-cpu.text.items c.push_cpu.new.text.items (each_cpu row) c.loop-cpu.cpu 256 row
    c.loop-cpu-test.true
    c.in_ok-push_cpu.ensures c.loop-cpu.invariant
