use Rattle.headline.proofs.EventLemmas.{events-are-the-steps}
use Rattle.headline.proofs.laws.the_events_of_steps_do_the_steps.Goals as goal

pub returns : goal.returns
returns c = events-are-the-steps
