use Rattle.hint_words.specs.Closings.{HaveEnded}
use Rattle.board_api.specs.Closings.Closings.{HasEnded}
use Rattle.workers.specs.Lists.{AreReceived}
use Rattle.workers.proofs.Names.{◌++◌, ◌∷◌, [], map, ap, ◌∙◌, subst, SeatView, Journal, HintStep}
use Rattle.workers.proofs.Names.{BoardSeatView}
use Rattle.workers.proofs.ActorLemmas.{have-pollers, have-servers, pollers-are, pollers-paired}
use Rattle.workers.proofs.ActorLemmas.{pollers-room, servers-are, servers-room}
use Rattle.workers.proofs.RestLemmas.{rx-fills, tx-fills, words-fill}
use Rattle.workers.proofs.closing.leave.Goals as goal

pub all_actors-pollers-requires-clause-hands : goal.all_actors-pollers-requires-clause-hands
all_actors-pollers-requires-clause-hands g c =
    have-pollers g.i c.args.plan.now c.requires.0 c.args.run c.requires.1.0 _
    c.take_apart-parts.ensures.pollers _ c.len.ensures

pub all_actors-servers-requires-clause-hands : goal.all_actors-servers-requires-clause-hands
all_actors-servers-requires-clause-hands g c =
    have-servers g.i c.args.plan.now c.requires.0 c.args.run c.requires.1.0 _
    c.take_apart-parts.ensures.servers _ c.len-2.ensures

pub close_all-rx-requires-clause-rx : goal.close_all-rx-requires-clause-rx
close_all-rx-requires-clause-rx g c =
    rx-fills g.i c.args.run c.requires.1.0 c.free_workers_rest.ensures
    c.threads_keep_their_parts.ensures.lanes _ c.take_apart-parts.ensures.rx

pub close_all-rx-requires-clause-tx : goal.close_all-rx-requires-clause-tx
close_all-rx-requires-clause-tx g c =
    tx-fills g.i c.args.run c.requires.1.0 c.free_workers_rest.ensures
    c.threads_keep_their_parts.ensures.lanes _ c.take_apart-parts.ensures.tx

pub close_all-rx-requires-clause-hints : goal.close_all-rx-requires-clause-hints
close_all-rx-requires-clause-hints g c =
    words-fill g.i c.args.run c.requires.1.0 _ c.take_apart-parts.ensures.hints

pub take_queues-requires-clause-pairs : goal.take_queues-requires-clause-pairs
take_queues-requires-clause-pairs g c =
    pollers-paired g.i c.args.plan.now c.requires.0 c.args.run c.requires.1.0 _
    c.take_apart-parts.ensures.pollers _ c.len.ensures _ c.all_actors-pollers.ensures

pub take_queues-requires-clause-taken : goal.take_queues-requires-clause-taken
take_queues-requires-clause-taken g c =
    pollers-room g.i c.args.plan.now c.requires.0 c.args.run c.requires.1.0 _
    c.take_apart-parts.ensures.pollers _ c.len.ensures _ c.all_actors-pollers.ensures _
    c.requires.1.1.lists.taken

pub take_queues-requires-clause-choices : goal.take_queues-requires-clause-choices
take_queues-requires-clause-choices g c =
    pollers-room g.i c.args.plan.now c.requires.0 c.args.run c.requires.1.0 _
    c.take_apart-parts.ensures.pollers _ c.len.ensures _ c.all_actors-pollers.ensures _
    c.requires.1.1.lists.choices

pub take_replies-requires-clause-sent : goal.take_replies-requires-clause-sent
take_replies-requires-clause-sent g c =
    servers-room g.i c.args.plan.now c.requires.0 c.args.run c.requires.1.0 _
    c.take_apart-parts.ensures.servers _ c.len-2.ensures _ c.all_actors-servers.ensures _
    c.requires.1.1.lists.sent

pub take_replies-requires-clause-choices : goal.take_replies-requires-clause-choices
take_replies-requires-clause-choices g c =
    servers-room g.i c.args.plan.now c.requires.0 c.args.run c.requires.1.0 _
    c.take_apart-parts.ensures.servers _ c.len-2.ensures _ c.all_actors-servers.ensures _
    c.requires.1.1.lists.tx_choices

pub take_replies-requires-clause-writes : goal.take_replies-requires-clause-writes
take_replies-requires-clause-writes g c =
    servers-room g.i c.args.plan.now c.requires.0 c.args.run c.requires.1.0 _
    c.take_apart-parts.ensures.servers _ c.len-2.ensures _ c.all_actors-servers.ensures _
    c.requires.1.1.lists.writes

pub returns : goal.returns
returns g c =
    let run = c.args.run in
    let own = run.controller.seats in
    let parts = c.take_apart-parts.ensures in
    let closed = c.close_all-rx in
    let polled = pollers-are g.i c.args.plan.now c.requires.0 c.args.run c.requires.1.0 _
    c.take_apart-parts.ensures.pollers _ c.len.ensures _ c.all_actors-pollers.ensures in
    let served = servers-are g.i c.args.plan.now c.requires.0 c.args.run c.requires.1.0 _
    c.take_apart-parts.ensures.servers _ c.len-2.ensures _ c.all_actors-servers.ensures in
    record {
      rx = subst (λ (j : Journal BoardSeatView). HasEnded run.stage.rx.sizes
          (j.items ++ own.rx ∷ []) closed.result.0) parts.rx closed.ensures.rx;
      tx = subst (λ (j : Journal BoardSeatView). HasEnded run.stage.tx.sizes
          (j.items ++ own.tx ∷ []) closed.result.1) parts.tx closed.ensures.tx;
      words = subst (λ (j : Journal (SeatView HintStep)). HaveEnded
          (j.items ++ own.hint ∷ run.wire.seat ∷ [])) parts.hints closed.ensures.words;
      received = subst (AreReceived run.wire.wire) polled c.take_queues.ensures.received;
      taken = c.take_queues.ensures.taken ∙ ap (map _) polled;
      choices = c.take_queues.ensures.choices ∙ ap (map _) polled;
      sent = c.take_replies.ensures.sent ∙ ap (map _) served;
      reply_choices = c.take_replies.ensures.choices ∙ ap (map _) served;
      writes = c.take_replies.ensures.writes ∙ ap (map _) served;
      arrivals = c.from_vec.ensures ∙ c.into_vec.ensures;
      commands = c.from_vec-2.ensures ∙ c.into_vec-2.ensures;
    }
