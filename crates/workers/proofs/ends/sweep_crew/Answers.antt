use Rattle.run_crew.specs.CountLaws.{IsFull}
use Rattle.run_crew.specs.Sweeps.{AllWork}
use Rattle.workers.proofs.Names.{length, subst, sym, ap, ◌∙◌, ◌≡◌, ◌<◌, true, GoOn, all_free}
use Rattle.workers.proofs.Names.{workers_stage}
use Rattle.workers.proofs.CrewLemmas.{written-whole}
use Rattle.workers.proofs.ends.sweep_crew.Goals as goal

pub sweep-requires-clause-some : goal.sweep-requires-clause-some
sweep-requires-clause-some g c =
    subst (λ xs. 0 < length xs) (sym c.as_mut_slice.ensures.value) c.requires.can.some

pub sweep-requires-clause-work : goal.sweep-requires-clause-work
sweep-requires-clause-work g c =
    subst (AllWork (workers_stage c.args.stage.now)) (sym c.as_mut_slice.ensures.value)
    c.requires.can.work

pub returns : goal.returns
returns g c =
    let t = workers_stage c.args.stage.now in
    let count = c.sweep.auto.crew in
    let whole = sym (written-whole c.args.crew.now.len c.sweep.new.crew c.args.crew.now.items
    c.args.crew.now.ok.0 (count ∙ ap length c.as_mut_slice.ensures.value)) in
    record {
      goes = subst (GoOn t c.args.crew.now.items) whole
          (subst (λ xs. GoOn t xs c.sweep.new.crew) c.as_mut_slice.ensures.value
          c.sweep.ensures.goes);
      free = subst (λ xs. all_free xs ≡ true) whole c.sweep.ensures.free;
      full = subst (λ xs. IsFull xs (length c.args.stage.now.shared.given.homes)
          c.args.stage.now.shared.given.txs (length c.args.stage.now.shared.given.packets)) whole
          c.sweep.ensures.full;
      rests = λ full free.
          let given = c.args.stage.now.shared.given in
          let before = sym c.as_mut_slice.ensures.value in
          sym whole
          ∙ (c.sweep.ensures.rests
          (subst (λ xs. IsFull xs (length given.homes) given.txs (length given.packets)) before
          full) (subst (λ xs. all_free xs ≡ true) before free)
          ∙ c.as_mut_slice.ensures.value);
    }
