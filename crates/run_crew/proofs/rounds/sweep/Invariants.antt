use Rattle.std.specs.Prelude.{◌≡◌, length, true}
use Rattle.run_crew.specs.Sweeps.{all_free}
use Rattle.run_crew.proofs.Names.{stage_view, IsFull, GoOn}
use Rattle.run_crew.proofs.rounds.sweep.Given as goal

abbrev pub invariant-loop : goal.invariant-loop
invariant-loop g l = record {
  goes : GoOn (stage_view (g.B.Board.view l.fn.stage.rx) (g.B.Board.view l.fn.stage.tx)
      l.fn.stage.shared l.fn.stage.late.items) l.fn.crew l.crew;
  rests : IsFull l.fn.crew (length l.fn.stage.shared.given.homes) l.fn.stage.shared.given.txs
      (length l.fn.stage.shared.given.packets) → all_free l.fn.crew ≡ true
      → l.crew ≡ l.fn.crew;
}
