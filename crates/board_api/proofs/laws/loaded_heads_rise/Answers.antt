use Rattle.board_api.specs.Laws.Heads.{HeadsAreBelowTails, HeadsRise}
use Rattle.board_api.proofs.Endings.{at_closings}
use Rattle.board_api.proofs.OwnHeads.{heads_are_below, heads_rise}
use Rattle.board_api.proofs.laws.loaded_heads_rise.Goals as goal

pub returns-clause-rise : goal.returns-clause-rise
returns-clause-rise c =
    at_closings HeadsRise (λ about order fit lawful. heads_rise about order lawful)

pub returns-clause-below : goal.returns-clause-below
returns-clause-below c =
    at_closings HeadsAreBelowTails (λ about order fit lawful. heads_are_below about order lawful)
