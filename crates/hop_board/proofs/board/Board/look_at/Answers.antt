use Rattle.hop_rule.specs.declared.step.BoardStep.TheVariants.{Counted}
use Rattle.hop_board.proofs.Names.{◌∷◌, refl, ap, ◌∙◌, SeatView, BoardStep}
use Rattle.hop_board.proofs.board.Board.look_at.Goals as goal

pub returns : goal.returns
returns c = (
  record { lane = c.args.lane; head = c.load-head.result; tail = c.load-tail.result },
  refl,
  c.head.ensures,
  c.tail.ensures,
  c.load-tail.ensures
      ∙ ap (λ (s : SeatView BoardStep). record s {
        steps = Counted c.args.lane c.load-tail.result
            ∷ s.steps;
      })
      c.load-head.ensures,
)
