use Rattle.std.proofs.Common.{ℕ, ◌-◌, ◌++◌, ◌∙◌, ap}
use Rattle.std.specs.Prelude.{None, slice_index_or}
use Rattle.taps.specs.Positions.{depth_row}
use Rattle.taps.specs.Rows.{each_cpu, rows_of_cpus}
use Rattle.taps.proofs.CpusLemmas.{rows_all, rows_moved}
use Rattle.taps.proofs.depth.rows.Goals as goal

pub loop-cpu-init : goal.loop-cpu-init
loop-cpu-init c =
    let row = λ (cpu : ℕ). depth_row cpu (slice_index_or c.args.depths.now cpu None) in
    ap (λ text. text ++ rows_of_cpus 0 (256 - 0) row) c.new-text.ensures.items ∙ rows_all row

pub loop-cpu-preserved : goal.loop-cpu-preserved
loop-cpu-preserved c =
    let row = λ (cpu : ℕ). depth_row cpu (slice_index_or c.args.depths.now cpu None) in
    rows_moved c.loop-cpu.text.items c.push_depth.new.text.items
    (each_cpu row) c.loop-cpu.cpu 256 row c.loop-cpu-test.true
    c.in_ok-push_depth.ensures c.loop-cpu.invariant
