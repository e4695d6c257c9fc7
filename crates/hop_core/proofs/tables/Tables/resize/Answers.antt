use Rattle.std.proofs.Common.{◌≡◌, [], replicate, ap, arith, ◌∙◌}
use Rattle.steer_base.specs.Counters.{rounded_up}
use Rattle.dev_flow_table.specs.Tables.{Table, unset}
use Rattle.hop_core.specs.FlowTables.{with_rows}
use Rattle.hop_core.proofs.SharedTables.{has_table, rows-cleared}
use Rattle.hop_core.proofs.tables.Tables.resize.Goals as goal

pub index_mut-table-requires : goal.index_mut-table-requires
index_mut-table-requires c =
    let i = c.self.inside in
    let below = has_table i.shared.items i.tables.items c.args.p
    (rw (← c.self.view_is) at c.requires.table) in
    let counted = i.tables.ok.0 in
    omega (arith, below, counted)

pub resize-requires-clause-rounded : goal.resize-requires-clause-rounded
resize-requires-clause-rounded c =
    let i = c.self.inside in
    let old : Table = c.index_mut-table.result.now in
    let below = has_table i.shared.items i.tables.items c.args.p
    (rw (← c.self.view_is) at c.requires.table) in
    ap (λ t. t.exact) c.index_mut-table.ensures.value ∙ (c.self.invariant.1 c.args.p old below).1
    ∙ ap (λ t. t.exact) c.self.view_is ∙ c.requires.rounded

pub returns : goal.returns
returns c =
    let i = c.self.inside in
    let p = c.args.p in
    let old : Table = c.index_mut-table.result.now in
    let below = has_table i.shared.items i.tables.items p
    (rw (← c.self.view_is) at c.requires.table) in
    let none : i.shared.items ≡ [] =
    c.self.invariant.0 (ap (λ t. t.exact) c.self.view_is ∙ c.requires.rounded) in
    let start = ap (λ t. t.start) c.index_mut-table.ensures.value
    ∙ (c.self.invariant.1 p old below).0 in
    ap (λ rows. record { rows = rows; start = i.start; exact = i.exact })
    (rows-cleared i.shared.items i.tables.items p c.resize.new.self
    (replicate (rounded_up c.args.count) (unset i.start)) none
    (ap (λ t. t.rows) c.resize.ensures
    ∙ ap (λ s. replicate (rounded_up c.args.count) (unset s)) start))
    ∙ ap (λ t. with_rows t p (replicate (rounded_up c.args.count) (unset t.start))) c.self.view_is
