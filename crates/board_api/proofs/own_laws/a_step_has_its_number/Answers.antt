use Rattle.board_api.proofs.NumberedSteps.{places_are_numbered, steps_are_numbered}
use Rattle.board_api.proofs.own_laws.a_step_has_its_number.Goals as goal

pub returns-clause-older : goal.returns-clause-older
returns-clause-older c = steps_are_numbered

pub returns-clause-place : goal.returns-clause-place
returns-clause-place c = places_are_numbered
