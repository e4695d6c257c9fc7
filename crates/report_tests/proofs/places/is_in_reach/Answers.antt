use Rattle.history.proofs.PlaceLemmas.{in-reach}
use Rattle.report_tests.proofs.places.is_in_reach.Goals as goal

pub returns : goal.returns
returns c = in-reach c.args.h.now c.args.id c.requires.lanes c.requires.inboxes
