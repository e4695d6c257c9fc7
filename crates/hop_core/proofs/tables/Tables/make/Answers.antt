use Rattle.std.proofs.Common.{map, replicate, ap, ◌∙◌, arith}
use Rattle.std.proofs.lemmas.List.{take_all}
use Rattle.dev_flow_table.specs.Tables.{unset}
use Rattle.hop_model.specs.Shape.{classes_for}
use Rattle.hop_core.specs.SharedTable.{rows_from}
use Rattle.hop_core.proofs.SharedTables.{rows_from-free}
use Rattle.hop_core.proofs.tables.Tables.make.Goals as goal

pub returns : goal.returns
returns c =
    let a = c.args in
    let l = c.loop-count in
    ap (λ rows. record { rows = rows; start = a.start; exact = a.exact })
    (ap (λ ss. rows_from ss 0 l.tables.items) c.in_ok-make.ensures
    ∙ rows_from-free c.shared_count.result 0 l.tables.items
    ∙ l.invariant.rows
    ∙ ap (map (λ n. replicate (classes_for a.exact n) (unset a.start)))
    (take_all l.count-index a.counts.now (omega (arith, c.loop-count-test.false))))
