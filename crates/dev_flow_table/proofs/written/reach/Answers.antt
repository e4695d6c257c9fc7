use Rattle.std.proofs.Common.{◌+◌, ◌∙◌, ◌∷◌, [], ◌++◌, ap, arith}
use Rattle.dev_flow_table.specs.Written.{filled}
use Rattle.dev_flow_table.proofs.WrittenLemmas.{filled-more}
use Rattle.dev_flow_table.proofs.written.reach.Goals as goal

pub loop-preserved : goal.loop-preserved
loop-preserved c =
    let l = c.loop in
    let counted = l.rows.ok.0 in
    let start = c.args.start in
    record {
      len = c.push_reserved.ensures.len ∙ ap (λ n. n + 1) l.invariant.len;
      room = c.push_reserved.ensures.capacity ∙ l.invariant.room;
      within = λ size enough short. omega (
        arith,
        c.push_reserved.ensures.len,
        l.invariant.len,
        c.loop-test.true,
      );
      same = λ size enough short.
          ap (λ rows. filled rows size start) (c.push_reserved.ensures.items
          ∙ ap (λ e. l.rows.items ++ e ∷ []) c.unset.ensures)
          ∙ filled-more l.rows.items size start
          (omega (arith, counted, l.invariant.len, c.loop-test.true))
          ∙ l.invariant.same size enough short;
    }
