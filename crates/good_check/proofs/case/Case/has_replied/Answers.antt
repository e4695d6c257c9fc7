use Rattle.std.proofs.Common.{◌≡◌, ◌∙◌, ap, arith, length}
use Rattle.std.proofs.lemmas.List.{length-replicate}
use Rattle.dev_flow_table.specs.Tables.{unset}
use Rattle.good_check.proofs.RepliesLemmas.{tx_position-known}
use Rattle.good_check.proofs.case.Case.has_replied.Goals as goal

pub invariant_of-sender : goal.invariant_of-sender
invariant_of-sender c =
    let case = c.args.self.now in
    record {
      are_queues = c.requires.queues;
      has_stand = omega (arith, c.requires.app, ap (λ s. length s.stands) case.is_initial);
      are_known =
          tx_position-known case.given.now.packets (length case.plan.now.apps) case.h.now
          c.requires.plain.regular case.known.now case.is_known;
    }

pub are_by_rule-requires : goal.are_by_rule-requires
are_by_rule-requires c = λ d.
    let case = c.args.self.now in
    let rows : length c.in_ok-table.table.rows ≡ c.args.flows =
    ap (λ t. length t.rows) c.in_ok-table.ensures
    ∙ length-replicate c.args.flows (unset case.h.now.start) in
    omega (arith, rows, c.requires.above d.id)
