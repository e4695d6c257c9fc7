use Rattle.std.proofs.Common.{◌≡◌, ◌<◌, ℕ, arith, ap, ◌∙◌, length}
use Rattle.dev_flow_table.specs.Tables.{Table, with_entry}
use Rattle.dev_flow_table.specs.Written.{filled}
use Rattle.dev_flow_table.proofs.WrittenLemmas.{length-filled}
use Rattle.dev_flow_table.proofs.table.DevTable.set.Goals as goal

pub returns : goal.returns
returns c =
    let t = c.self.inside in
    let rows = t.rows.items in
    let n : ℕ = t.size in
    let k : ℕ = c.args.class in
    let inv = c.self.invariant in
    let counted = t.rows.ok.0 in
    let long = length-filled rows n t.start (omega (arith, counted, inv.0)) in
    let same : length (filled rows n t.start) ≡ length c.args.self.now.rows =
    ap (λ (x : Table). length x.rows) c.self.view_is in
    let asked = c.requires in
    let within : k < n = omega arith in
    (λ i. record {
      rows = c.write_at.ensures.written n within inv.0 i;
      start = t.start;
      exact = t.exact;
    })
    ∙ ap (λ (x : Table). with_entry x k c.args.entry) c.self.view_is
