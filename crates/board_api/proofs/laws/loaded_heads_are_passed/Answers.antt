use Rattle.board_api.specs.Laws.Heads.{HeadsArePassed}
use Rattle.board_api.proofs.Endings.{at_closings}
use Rattle.board_api.proofs.OwnHeads.{heads_are_passed}
use Rattle.board_api.proofs.laws.loaded_heads_are_passed.Goals as goal

pub returns : goal.returns
returns c =
    at_closings HeadsArePassed (λ about order fit lawful. heads_are_passed about order lawful)
