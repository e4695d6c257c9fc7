use Rattle.std.proofs.Common.{◌≡◌, ◌<◌, ℕ, arith, ap, sym, ◌∙◌, set, length, slice_index_or}
use Rattle.steer_base.specs.declared.choice.Entry.{Entry}
use Rattle.dev_flow_table.specs.Tables.{Table, recorded, unset}
use Rattle.dev_flow_table.specs.Written.{filled}
use Rattle.dev_flow_table.proofs.WrittenLemmas.{filled-at, length-filled}
use Rattle.dev_flow_table.proofs.table.DevTable.accepted.Goals as goal

pub returns : goal.returns
returns c =
    let t = c.self.inside in
    let rows = t.rows.items in
    let n : ℕ = t.size in
    let k : ℕ = c.args.class in
    let inv = c.self.invariant in
    let counted = t.rows.ok.0 in
    let position : ℕ = c.args.position in
    let e : Entry = c.entry_at-entry.result in
    let long = length-filled rows n t.start (omega (arith, counted, inv.0)) in
    let same : length (filled rows n t.start) ≡ length c.args.self.now.rows =
    ap (λ (x : Table). length x.rows) c.self.view_is in
    let asked = c.requires.class in
    let within : k < n = omega arith in
    let found : e ≡ slice_index_or (filled rows n t.start) k (unset t.start) =
    c.entry_at-entry.ensures ∙ sym (filled-at rows n t.start k within) in
    (λ i. record {
      rows = c.write_at.ensures.written n within inv.0 i;
      start = t.start;
      exact = t.exact;
    })
    ∙ ((λ i. record {
      rows = set (filled rows n t.start) k (record (found i) { tail = position });
      start = t.start;
      exact = t.exact;
    })
    ∙ ap (λ (x : Table). recorded x k position) c.self.view_is)
