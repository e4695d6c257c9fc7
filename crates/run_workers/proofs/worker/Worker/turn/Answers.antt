use Rattle.run_workers.proofs.SameLemmas.{goes_both}
use Rattle.run_workers.proofs.TurnLemmas.{first_false, goes_grow, second_false, turn_of}
use Rattle.run_workers.proofs.worker.Worker.turn.Goals as goal

pub returns-clause-goes : goal.returns-clause-goes
returns-clause-goes g c =
    goes_both _ _ _ _ _ _ _
    (goes_both _ _ _ _ _ _ _ c.play_each-polled.ensures.goes c.play_each-drained.ensures.goes)
    (goes_both _ _ _ _ _ _ _ c.play_each-served.ensures.goes c.play_each-shipped.ensures.goes)

pub returns-clause-plays : goal.returns-clause-plays
returns-clause-plays g c =
    turn_of _ _ _ _ _ _ _ _ _ _ _ _ _ _ _ _
    (record {
      calls = c.play_each-polled.ensures.calls;
      others = c.play_each-polled.ensures.others;
      grow = goes_grow _ _ _ _ _ c.play_each-polled.ensures.goes;
    })
    (record {
      calls = c.play_each-drained.ensures.calls;
      others = c.play_each-drained.ensures.others;
      grow = goes_grow _ _ _ _ _ c.play_each-drained.ensures.goes;
    })
    (record {
      calls = c.play_each-served.ensures.calls;
      others = c.play_each-served.ensures.others;
      grow = goes_grow _ _ _ _ _ c.play_each-served.ensures.goes;
    })
    (record {
      calls = c.play_each-shipped.ensures.calls;
      others = c.play_each-shipped.ensures.others;
      grow = goes_grow _ _ _ _ _ c.play_each-shipped.ensures.goes;
    })
    (λ none. first_false _ _ (first_false _ _ (first_false _ _ (first_false _ _ none))))
    (λ none. second_false _ _ (first_false _ _ (first_false _ _ (first_false _ _ none))))
    (λ none. second_false _ _ (first_false _ _ (first_false _ _ none)))
    (λ none. second_false _ _ (first_false _ _ none))
