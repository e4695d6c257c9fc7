use Rattle.std.proofs.Common.{ap, arith, ◌∙◌, sym, set, cond}
use Rattle.dev_flow_table.specs.Tables.{Table, with_entry}
use Rattle.hop_core.specs.FlowTables.{table_at, with_rows}
use Rattle.hop_core.specs.SharedTable.{owned, rows_from}
use Rattle.hop_core.proofs.SharedTables.{has_table, rows-kept, rows-long, rows-taken}
use Rattle.hop_core.proofs.tables.Tables.write.Goals as goal

pub index_mut-table-requires : goal.index_mut-table-requires
index_mut-table-requires c =
    let i = c.self.inside in
    let below = has_table i.shared.items i.tables.items c.args.p
    (rw (← c.self.view_is) at c.requires.table) in
    let counted = i.tables.ok.0 in
    omega (arith, below, counted)

pub set-requires : goal.set-requires
set-requires c =
    let i = c.self.inside in
    let below = has_table i.shared.items i.tables.items c.args.p
    (rw (← c.self.view_is) at c.requires.table) in
    rw (
      ← c.self.view_is,
      rows-long i.shared.items i.tables.items c.args.p
          c.index_mut-table.result.now below c.index_mut-table.ensures.value,
    ) at c.requires.class

pub returns-then-not-put : goal.returns-then-not-put
returns-then-not-put c =
    let i = c.self.inside in
    let p = c.args.p in
    let old : Table = c.index_mut-table.result.now in
    let below = has_table i.shared.items i.tables.items p
    (rw (← c.self.view_is) at c.requires.table) in
    let no = sym c.put.ensures.result ∙ c.if-not-put.true in
    let shared = c.put.ensures.items ∙ ap (λ b. cond b (set i.shared.items c.args.class
    (owned p c.args.entry)) i.shared.items) no in
    ap (λ rows. record { rows = rows; start = i.start; exact = i.exact })
    (ap (λ ss. rows_from ss 0 (set i.tables.items p c.set.new.self)) shared
    ∙ rows-kept i.shared.items i.tables.items p old c.set.new.self c.args.class c.args.entry below
    c.index_mut-table.ensures.value (ap (λ t. t.rows) c.set.ensures) no)
    ∙ ap (λ t. with_rows t p (with_entry (table_at t p) c.args.class c.args.entry).rows)
    c.self.view_is

pub returns-else-not-put : goal.returns-else-not-put
returns-else-not-put c =
    let i = c.self.inside in
    let p = c.args.p in
    let below = has_table i.shared.items i.tables.items p
    (rw (← c.self.view_is) at c.requires.table) in
    let yes = sym c.put.ensures.result ∙ c.if-not-put.false in
    let shared = c.put.ensures.items ∙ ap (λ b. cond b (set i.shared.items c.args.class
    (owned p c.args.entry)) i.shared.items) yes in
    ap (λ rows. record { rows = rows; start = i.start; exact = i.exact })
    (ap (λ ss. rows_from ss 0 i.tables.items) shared
    ∙ rows-taken i.shared.items i.tables.items p c.args.class c.args.entry below yes)
    ∙ ap (λ t. with_rows t p (with_entry (table_at t p) c.args.class c.args.entry).rows)
    c.self.view_is
