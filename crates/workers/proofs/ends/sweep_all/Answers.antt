use Rattle.workers.proofs.Names.{ap, refl}
use Rattle.workers.proofs.BackLemmas.{crew-full, is-over, late-work}
use Rattle.workers.proofs.ends.sweep_all.Goals as goal

pub sweep_crew-requires : goal.sweep_crew-requires
sweep_crew-requires g c =
    let work = late-work g.i c.args.run c.requires.1.0 c.requires.1.1
    c.crews_learn_arrivals.ensures c.swap.new.x.items in
    record { can = record { some = work.some; work = work.work } }

pub returns : goal.returns
returns g c =
    let back = c.requires.1.0 in
    let late = c.swap.new.x.items in
    record {
      over = is-over g.i c.args.run back c.requires.1.1 c.crews_learn_arrivals.ensures late
          c.crews_go_on.ensures.keep c.crews_go_on.ensures.play
          (record {
            stage = record c.args.run.stage { late = c.swap.new.x };
            crew = c.sweep_crew.new.crew;
            wire = record c.args.run.wire {
              wire = record c.args.run.wire.wire { arrivals = c.swap.new.y };
            };
            controller = c.args.run.controller;
          })
          refl (ap (λ j. j.items) c.swap.ensures.x_after) c.sweep_crew.ensures.goes
          c.sweep_crew.ensures.free c.sweep_crew.ensures.full;
      rests = λ free all.
          c.sweep_crew.ensures.rests
          (crew-full g.i c.args.run back c.requires.1.1 c.crews_learn_arrivals.ensures late
          c.finished_crews_are_full.ensures all) free;
    }
