use Rattle.run_workers.specs.Hands.Pollers.{AreRead, KeepsReading}
use Rattle.run_workers.proofs.Names.{ℕ, inr, sym, subst, Poller}
use Rattle.run_workers.proofs.Hands.ReadLemmas.{read_inside}
use Rattle.run_workers.proofs.poller.Poller.read.Goals as goal

pub returns-clause-reads : goal.returns-clause-reads
returns-clause-reads g c =
    record {
      steps = inr c.read_settings-reading.ensures.reads;
      are = read_inside c.args.queues c.args.self.now.queue c.read_settings-reading.result
          c.args.seat.now c.read_settings-reading.new.seat c.requires.inside
          c.read_settings-reading.ensures.reads;
    }

pub returns-clause-kept : goal.returns-clause-kept
returns-clause-kept g c =
    subst (λ (p : Poller). KeepsReading c.args.queues p c.read_settings-reading.new.seat.steps)
    (sym c.refresh-2.ensures.same)
    (subst (λ (n : ℕ). AreRead c.args.queues c.args.self.now.queue c.read_settings-reading.result
    c.read_settings-reading.new.seat.steps n) (sym c.visit_number-visit.ensures)
    (read_inside c.args.queues c.args.self.now.queue c.read_settings-reading.result
    c.args.seat.now c.read_settings-reading.new.seat c.requires.inside
    c.read_settings-reading.ensures.reads))
