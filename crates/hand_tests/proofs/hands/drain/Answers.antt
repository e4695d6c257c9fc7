use Rattle.std.proofs.Common.{◌<◌, ◌-◌, ◌%◌, max, ℕ, sym, ap, subst, ◌∙◌, arith, length}
use Rattle.run_workers.specs.Hands.Deltas.{this_lane}
use Rattle.run_workers.specs.Hands.Drains.{outs_of}
use Rattle.run_workers.proofs.Hands.ReadLemmas.{kept_added}
use Rattle.hand_tests.specs.Benches.{RestsBut}
use Rattle.hand_tests.proofs.hands.Resting.{serves_rest}
use Rattle.hand_tests.proofs.hands.drain.Goals as goal

pub drain-requires-clause-mine : goal.drain-requires-clause-mine
drain-requires-clause-mine c =
    let is = c.requires in
    let lane = c.args.worker.now.drain.lane in
    let three = ap (λ (k : ℕ). lane % max 1 (k - 1)) is.bench.seats in
    three ∙ (omega (arith, is.within) ∙ sym is.rests.number_is)

pub drain-requires-clause-outs : goal.drain-requires-clause-outs
drain-requires-clause-outs c =
    let is = c.requires in
    let same = ap (λ e. outs_of e c.args.shared.now.given) is.exit in
    omega (arith, same, is.bench.outs)

pub returns : goal.returns
returns c =
    let is = c.requires in
    let old = c.args.worker.now in
    let same = c.drain.ensures.lane in
    record {
      bench = is.bench;
      within = subst (λ (n : ℕ). n < 2) (sym same) is.within;
      hint_table = is.hint_table;
      queue = is.queue ∙ sym same;
      room = is.room;
      poller = is.poller;
      kept = kept_added (length c.args.shared.now.given.homes) old.poller
          c.drain.ensures.serves.added old.seat c.drain.new.seat c.drain.ensures.serves.adds
          is.kept;
      exit = c.drain.ensures.exit ∙ is.exit;
      drain_is = c.drain.ensures.is;
      rests = subst (λ (n : ℕ). RestsBut (this_lane n) c.args.board.now n c.drain.new.seat)
          (sym same)
          (serves_rest (this_lane old.drain.lane) c.args.board.now old.drain.lane old.seat
          c.drain.new.seat is.rests c.drain.ensures.serves);
    }
