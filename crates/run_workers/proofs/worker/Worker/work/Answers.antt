use Rattle.run_workers.proofs.Names.{arith, finished_by}
use Rattle.run_workers.proofs.LookLemmas.{looks_more}
use Rattle.run_workers.proofs.Records.ListLemmas.{contains_later}
use Rattle.run_workers.proofs.SameLemmas.{goes_both, goes_on_twice}
use Rattle.run_workers.proofs.TallyLemmas.{counts_both, counts_stay, finished_later}
use Rattle.run_workers.proofs.worker.Worker.work.Goals as goal

pub loop-preserved-then-turn : goal.loop-preserved-then-turn
loop-preserved-then-turn g c =
    record {
      goes = goes_on_twice _ c.args.self.now c.loop.self _ c.args.seats.now c.loop.seats
          c.looks-arrived.new.seats _ c.loop.invariant.goes c.looks-arrived.ensures.goes
          c.turn-in-loop.ensures.goes;
      counts = counts_stay _ c.args.tally.now c.args.counter.now c.loop.counter c.loop.self _
          c.looks-arrived.new.seats _ c.looks-arrived.ensures.goes.is
          c.turn-in-loop.ensures.goes c.loop.invariant.counts;
      few = omega arith;
      looks =
          (let more = looks_more c.args.seats.now c.loop.seats c.looks-arrived.new.seats
          c.turn-in-loop.new.seats c.loop.idle c.looks-arrived.ensures.look
          c.turn-in-loop.ensures.goes.same.hint_steps c.loop.invariant.looks in
          omega (arith, more));
      finished = λ e.
          finished_later _ _ c.loop.seats c.looks-arrived.new.seats c.turn-in-loop.new.seats
          c.loop.counter c.looks-arrived.ensures.goes.same.hint_steps
          c.turn-in-loop.ensures.goes.same.hint_steps (c.loop.invariant.finished e);
    }

pub returns-then-finished-clause-goes : goal.returns-then-finished-clause-goes
returns-then-finished-clause-goes g c =
    goes_on_twice _ c.args.self.now c.loop.self _ c.args.seats.now c.loop.seats
    c.looks-arrived.new.seats _ c.loop.invariant.goes c.looks-arrived.ensures.goes
    c.turn-in-loop.ensures.goes

pub returns-then-finished-clause-counts : goal.returns-then-finished-clause-counts
returns-then-finished-clause-counts g c =
    counts_stay _ c.args.tally.now c.args.counter.now c.loop.counter c.loop.self _
    c.looks-arrived.new.seats _ c.looks-arrived.ensures.goes.is c.turn-in-loop.ensures.goes
    c.loop.invariant.counts

pub returns-then-finished-clause-finished : goal.returns-then-finished-clause-finished
returns-then-finished-clause-finished g c = λ e.
    finished_later _ _ c.loop.seats c.looks-arrived.new.seats c.turn-in-loop.new.seats
    c.loop.counter c.looks-arrived.ensures.goes.same.hint_steps
    c.turn-in-loop.ensures.goes.same.hint_steps (c.loop.invariant.finished c.if-finished.true)

pub returns-then-idle-clause-goes : goal.returns-then-idle-clause-goes
returns-then-idle-clause-goes g c =
    goes_on_twice _ c.args.self.now c.loop.self _ c.args.seats.now c.loop.seats
    c.looks-arrived.new.seats _ c.loop.invariant.goes c.looks-arrived.ensures.goes
    c.turn-in-loop.ensures.goes

pub returns-then-idle-clause-counts : goal.returns-then-idle-clause-counts
returns-then-idle-clause-counts g c =
    counts_stay _ c.args.tally.now c.args.counter.now c.loop.counter c.loop.self _
    c.looks-arrived.new.seats _ c.looks-arrived.ensures.goes.is c.turn-in-loop.ensures.goes
    c.loop.invariant.counts

pub rests-finished-requires : goal.rests-finished-requires
rests-finished-requires g c =
    record {
      is = (counts_stay _ c.args.tally.now c.args.counter.now c.loop.counter c.loop.self _
          c.looks-arrived.new.seats _ c.looks-arrived.ensures.goes.is
          c.turn-in-loop.ensures.goes c.loop.invariant.counts).is;
    }

pub loop-preserved : goal.loop-preserved
loop-preserved g c =
    let going = counts_stay _ c.args.tally.now c.args.counter.now c.loop.counter c.loop.self _
    c.looks-arrived.new.seats _ c.looks-arrived.ensures.goes.is c.turn-in-loop.ensures.goes
    c.loop.invariant.counts in
    record {
      goes = goes_on_twice _ c.args.self.now c.loop.self _ c.args.seats.now c.loop.seats
          c.looks-arrived.new.seats _ c.loop.invariant.goes c.looks-arrived.ensures.goes
          c.turn-in-loop.ensures.goes;
      counts = counts_both c.args.tally.now c.args.counter.now c.loop.counter
          c.rests-finished.new.counter _ (finished_by c.turn-in-loop.new.self) going
          c.rests-finished.ensures.is;
      few = omega (arith, c.loop.invariant.few);
      looks = looks_more c.args.seats.now c.loop.seats c.looks-arrived.new.seats
          c.turn-in-loop.new.seats c.loop.idle c.looks-arrived.ensures.look
          c.turn-in-loop.ensures.goes.same.hint_steps c.loop.invariant.looks;
      finished = λ e.
          record {
            arrived = contains_later c.looks-arrived.new.seats.hint.steps _ _
                c.turn-in-loop.ensures.goes.same.hint_steps
                (c.looks-arrived.ensures.arrived (c.rests-finished.ensures.arrived e));
            saw = c.rests-finished.ensures.saw e;
          };
    }

pub returns-then-finished-clause-last : goal.returns-then-finished-clause-last
returns-then-finished-clause-last g c =
    record {
      last = c.loop.self;
      begins = c.looks-arrived.new.seats;
      goes = goes_both _ c.args.self.now c.loop.self c.loop.self c.args.seats.now c.loop.seats
          c.looks-arrived.new.seats c.loop.invariant.goes c.looks-arrived.ensures.goes;
      turn = c.if-turn.ensures.plays;
    }

pub returns-then-idle-clause-last : goal.returns-then-idle-clause-last
returns-then-idle-clause-last g c =
    record {
      last = c.loop.self;
      begins = c.looks-arrived.new.seats;
      goes = goes_both _ c.args.self.now c.loop.self c.loop.self c.args.seats.now c.loop.seats
          c.looks-arrived.new.seats c.loop.invariant.goes c.looks-arrived.ensures.goes;
      turn = c.if-turn.ensures.plays;
    }
