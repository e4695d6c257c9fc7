use Rattle.std.proofs.Common.{◌<◌, length, ap, arith, ◌∙◌, sym}
use Rattle.steer_base.specs.Choices.{class_of}
use Rattle.dev_flow_table.specs.Tables.{Table}
use Rattle.hop_core.specs.FlowTables.{table_at}
use Rattle.hop_core.proofs.SharedTables.{has_table, rows-long}
use Rattle.hop_core.proofs.tables.Tables.class.Goals as goal

pub index-table-requires : goal.index-table-requires
index-table-requires c =
    let i = c.self.inside in
    let below = has_table i.shared.items i.tables.items c.args.p
    (rw (← c.self.view_is) at c.requires) in
    let counted = i.tables.ok.0 in
    omega (arith, below, counted)

pub returns : goal.returns
returns c =
    let i = c.self.inside in
    let p = c.args.p in
    let table : Table = c.index-table.result.now in
    let below : p < length i.tables.items =
    has_table i.shared.items i.tables.items p (rw (← c.self.view_is) at c.requires) in
    c.class.ensures
    ∙ ap (λ n. class_of n c.args.hash)
    (sym (rows-long i.shared.items i.tables.items p table below c.index-table.ensures)
    ∙ ap (λ t. length (table_at t p).rows) c.self.view_is)
