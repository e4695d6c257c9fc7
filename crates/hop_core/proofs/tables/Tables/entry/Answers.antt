use Rattle.std.proofs.Common.{ap, arith, ◌∙◌, sym}
use Rattle.dev_flow_table.specs.Tables.{Table, entries, unset}
use Rattle.hop_core.specs.FlowTables.{table_at}
use Rattle.hop_core.specs.SharedTable.{entry_of, is_of}
use Rattle.hop_core.proofs.SharedTables.{entry-own, entry-shared, has_table, rows-long}
use Rattle.hop_core.proofs.tables.Tables.entry.Goals as goal

pub returns-then-is_of : goal.returns-then-is_of
returns-then-is_of c =
    let i = c.self.inside in
    let p = c.args.p in
    let below = has_table i.shared.items i.tables.items p
    (rw (← c.self.view_is) at c.requires.table) in
    let at = c.at-shared.ensures in
    c.entry.ensures ∙ ap entry_of at
    ∙ sym (entry-shared i.shared.items i.tables.items p c.args.class (unset i.start) below
    (rw (← c.self.view_is) at c.requires.class)
    (sym (ap (is_of p) at) ∙ sym c.is_of.ensures ∙ c.if-is_of.true))
    ∙ ap (λ t. entries (table_at t p) c.args.class) c.self.view_is

pub index-table-requires : goal.index-table-requires
index-table-requires c =
    let i = c.self.inside in
    let below = has_table i.shared.items i.tables.items c.args.p
    (rw (← c.self.view_is) at c.requires.table) in
    let counted = i.tables.ok.0 in
    omega (arith, below, counted)

pub entry-requires-2 : goal.entry-requires-2
entry-requires-2 c =
    let i = c.self.inside in
    let below = has_table i.shared.items i.tables.items c.args.p
    (rw (← c.self.view_is) at c.requires.table) in
    rw (
      ← c.self.view_is,
      rows-long i.shared.items i.tables.items c.args.p c.index-table.result.now
          below c.index-table.ensures,
    ) at c.requires.class

pub returns : goal.returns
returns c =
    let i = c.self.inside in
    let p = c.args.p in
    let k = c.args.class in
    let table : Table = c.index-table.result.now in
    let below = has_table i.shared.items i.tables.items p
    (rw (← c.self.view_is) at c.requires.table) in
    let same = c.self.invariant.1 p table below in
    let at = c.at-shared.ensures in
    c.entry-2.ensures
    ∙ ap (λ start. entries (record { rows = table.rows; start = start; exact = table.exact }) k)
    (ap (λ t. t.start) c.index-table.ensures ∙ same.0)
    ∙ sym (entry-own i.shared.items i.tables.items p table k (unset i.start) below
    c.index-table.ensures (sym (ap (is_of p) at) ∙ sym c.is_of.ensures ∙ c.if-is_of.false))
    ∙ ap (λ t. entries (table_at t p) k) c.self.view_is
