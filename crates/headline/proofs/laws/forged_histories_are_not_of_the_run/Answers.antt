use Rattle.headline.proofs.ExampleLemmas.{examples-within}
use Rattle.headline.proofs.ForgedLemmas.{accepting-at-full-forged, another-command-forged}
use Rattle.headline.proofs.ForgedLemmas.{another-drop-forged, another-queue-forged}
use Rattle.headline.proofs.ForgedLemmas.{another-write-forged, empty-forged, moving-at-once-forged}
use Rattle.headline.proofs.ForgedLemmas.{never-moving-forged, no-want-forged}
use Rattle.headline.proofs.laws.forged_histories_are_not_of_the_run.Goals as goal

pub returns-clause-examples : goal.returns-clause-examples
returns-clause-examples c = examples-within

pub returns-clause-empty : goal.returns-clause-empty
returns-clause-empty c = empty-forged

pub returns-clause-never_moving : goal.returns-clause-never_moving
returns-clause-never_moving c = never-moving-forged

pub returns-clause-moving_at_once : goal.returns-clause-moving_at_once
returns-clause-moving_at_once c = moving-at-once-forged

pub returns-clause-another_queue : goal.returns-clause-another_queue
returns-clause-another_queue c = another-queue-forged

pub returns-clause-no_want : goal.returns-clause-no_want
returns-clause-no_want c = no-want-forged

pub returns-clause-another_write : goal.returns-clause-another_write
returns-clause-another_write c = another-write-forged

pub returns-clause-another_command : goal.returns-clause-another_command
returns-clause-another_command c = another-command-forged

pub returns-clause-accepting_at_full : goal.returns-clause-accepting_at_full
returns-clause-accepting_at_full c = accepting-at-full-forged

pub returns-clause-another_drop : goal.returns-clause-another_drop
returns-clause-another_drop c = another-drop-forged
