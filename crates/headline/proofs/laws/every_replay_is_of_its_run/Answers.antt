use Rattle.headline.proofs.Reports.{of-their-runs}
use Rattle.headline.proofs.laws.every_replay_is_of_its_run.Goals as goal

pub returns : goal.returns
returns c =
    of-their-runs c.every_history_is_of_its_input.ensures c.every_replay_is_good_so_far.ensures
    c.commands_are_given_once.ensures.replays
