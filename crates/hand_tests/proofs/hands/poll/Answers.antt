use Rattle.std.proofs.Common.{◌∙◌}
use Rattle.run_workers.specs.Hands.Deltas.{this_lane}
use Rattle.run_workers.proofs.Hands.StayLemmas.{polls_stay}
use Rattle.run_workers.proofs.Hands.VisitLemmas.{polls_leave}
use Rattle.hand_tests.proofs.hands.Resting.{polls_rest}
use Rattle.hand_tests.proofs.hands.poll.Goals as goal

pub poll-requires-clause-outside : goal.poll-requires-clause-outside
poll-requires-clause-outside g c = (c.requires.rests.outside, c.requires.rests.gate)

pub returns : goal.returns
returns g c =
    let is = c.requires in
    let given = c.args.shared.now.given in
    let filters = c.args.shared.now.filters in
    let old = c.args.worker.now in
    let polls = c.poll.ensures.polls in
    let stays = polls_stay given filters old.poller c.poll.new.self old.seat c.poll.new.seat
    old.hint c.poll.new.hint polls in
    record {
      bench = is.bench;
      within = is.within;
      hint_table = stays.hint_table ∙ is.hint_table;
      queue = stays.queue ∙ is.queue;
      room = stays.room ∙ is.room;
      poller = c.poll.ensures.is;
      kept = c.poll.ensures.kept;
      exit = is.exit;
      drain_is = polls_leave given old.drain filters old.poller c.poll.new.self old.seat
          c.poll.new.seat old.hint c.poll.new.hint polls is.drain_is;
      rests = polls_rest (this_lane old.drain.lane) c.args.board.now old.drain.lane old.seat
          c.poll.new.seat given filters old.poller c.poll.new.self old.hint c.poll.new.hint
          is.rests polls c.poll.ensures.outside.0 c.poll.ensures.outside.1;
    }
