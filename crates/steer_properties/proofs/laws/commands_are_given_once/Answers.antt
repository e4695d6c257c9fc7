use Rattle.steer_properties.proofs.Commands.GivenOnceLemmas.{replays_give_once, runs_give_once}
use Rattle.steer_properties.proofs.laws.commands_are_given_once.Goals as goal

pub returns : goal.returns
returns c = record { runs = runs_give_once; replays = replays_give_once }
