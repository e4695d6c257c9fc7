use Rattle.run_workers.specs.Hands.Pollers.{KeepsReading, put_of}
use Rattle.run_workers.proofs.Names.{◌≡◌, ◌∷◌, ap, sym, subst, length, arith, Poller}
use Rattle.run_workers.proofs.Hands.ReadLemmas.{kept_added}
use Rattle.run_workers.proofs.Hands.PollerLemmas.{steered_is}
use Rattle.run_workers.proofs.poller.Poller.steer.Goals as goal

pub put-requires-clause-count : goal.put-requires-clause-count
put-requires-clause-count g c =
    let same : c.choose-choice.new.self.accepted ≡ c.args.self.now.accepted =
    ap (λ (p : Poller). p.accepted) c.choose-choice.ensures.reads.same in
    let few = c.requires.is.few in
    let count = c.requires.is.count in
    let room = c.requires.room in
    omega (arith, same, few, count, room)

pub returns-clause-is : goal.returns-clause-is
returns-clause-is g c =
    steered_is c.args.shared.now.given.cpus c.args.self.now c.choose-choice.new.self
    c.put.new.self c.choose-choice.result.class c.put.result
    (record { id = c.args.id; choice = c.choose-choice.result }) c.push.new.self c.requires.is
    (ap (λ (p : Poller). p.accepted) c.choose-choice.ensures.reads.same)
    (ap (λ (p : Poller). p.choices) c.choose-choice.ensures.reads.same)
    c.choose-choice.ensures.lanes c.choose-choice.ensures.rounded c.choose-choice.ensures.class
    c.put.ensures.puts.table c.put.ensures.puts.count
    (ap (λ (p : Poller). p.choices) c.put.ensures.same) c.push.ensures

pub returns-clause-kept : goal.returns-clause-kept
returns-clause-kept g c =
    let homes = length c.args.shared.now.given.homes in
    subst (λ (p : Poller). KeepsReading homes p c.put.new.seat.steps) (sym c.put.ensures.same)
    (kept_added homes c.choose-choice.new.self
    (put_of c.args.shared.now.given c.choose-choice.result.lane c.args.id c.put.result
    ∷ c.put.ensures.puts.early) c.choose-choice.new.seat c.put.new.seat
    c.put.ensures.puts.adds c.choose-choice.ensures.reads.kept)
