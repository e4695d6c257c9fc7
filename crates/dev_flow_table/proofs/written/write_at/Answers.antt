use Rattle.std.proofs.Common.{◌∙◌, ap, arith, set}
use Rattle.dev_flow_table.proofs.WrittenLemmas.{filled-set}
use Rattle.dev_flow_table.proofs.written.write_at.Goals as goal

pub returns-clause-written : goal.returns-clause-written
returns-clause-written c size within short =
    let rows = c.reach.new.rows in
    let counted = rows.ok.0 in
    let class = c.args.class in
    filled-set rows.items size c.args.start class c.args.entry
    (omega (arith, counted, c.reach.ensures.enough))
    ∙ ap (λ es. set es class c.args.entry) (c.reach.ensures.same size (omega (arith, within)) short)
