use Rattle.std.proofs.Common.{rules}
use Rattle.std.proofs.lemmas.Iterator.{YieldsList-from_map, YieldsList-from_range}
use Rattle.std.proofs.lemmas.Iterator.{items_from_collect}
use Rattle.std.proofs.lemmas.Result.{IfOk-at_ok}
use Rattle.workers.proofs.Names.{arith}
use Rattle.workers.proofs.DrainLemmas.{each_first, first_drain, is_first_drain}
use Rattle.workers.proofs.actors.drains.Goals as goal

pub returns-clause-first : goal.returns-clause-first
returns-clause-first c =
    let exit = c.args.exit in
    let start = c.args.start in
    let lanes = c.args.lanes in
    let made =
    items_from_collect _ c.collect.ensures.ran
    (YieldsList-from_map _ (first_drain exit start)
    (YieldsList-from_range 0 lanes lanes c.map.ensures.source (omega arith)) c.map.ensures.closure
    (λ x r q k. search (rules, is_first_drain))) in
    each_first exit start lanes c.in_ok-collect.field-0.items
    (IfOk-at_ok _ c.in_ok-collect.was made)
