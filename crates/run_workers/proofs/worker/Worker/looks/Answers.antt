use Rattle.run_workers.proofs.LookLemmas.{look_goes_on, look_is_one}
use Rattle.run_workers.proofs.worker.Worker.looks.Goals as goal

pub returns-clause-goes : goal.returns-clause-goes
returns-clause-goes g c =
    look_goes_on _ c.args.self.now c.args.seats.now _ c.load-word.result c.load-word.new.seat
    c.load-word.ensures.step c.requires.is

pub returns-clause-look : goal.returns-clause-look
returns-clause-look g c =
    look_is_one _ c.args.self.now c.args.seats.now _ c.load-word.result c.load-word.new.seat
    c.load-word.ensures.step c.requires.is c.number.ensures
