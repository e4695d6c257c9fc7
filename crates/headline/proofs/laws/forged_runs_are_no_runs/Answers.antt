use Rattle.headline.proofs.ForgedRunLemmas.{circle-of-queues-forged, future-head-forged}
use Rattle.headline.proofs.ForgedRunLemmas.{future-transmit-head-forged, overfull-backlog-forged}
use Rattle.headline.proofs.ForgedRunLemmas.{own-filter-forged, own-want-forged}
use Rattle.headline.proofs.ForgedRunLemmas.{stale-drop-forged, stale-settings-forged}
use Rattle.headline.proofs.ForgedRunLemmas.{staler-drop-forged}
use Rattle.headline.proofs.ForgedRunLemmas.{swapped-inbox-forged, swapped-port-forged}
use Rattle.headline.proofs.ForgedRunLemmas.{swapped-puts-forged, unpulled-head-forged}
use Rattle.headline.proofs.ForgedRunLemmas.{unset-want-forged}
use Rattle.headline.proofs.laws.forged_runs_are_no_runs.Goals as goal

pub returns-clause-future_head : goal.returns-clause-future_head
returns-clause-future_head c = future-head-forged

pub returns-clause-swapped_puts : goal.returns-clause-swapped_puts
returns-clause-swapped_puts c = swapped-puts-forged

pub returns-clause-swapped_inbox : goal.returns-clause-swapped_inbox
returns-clause-swapped_inbox c = swapped-inbox-forged

pub returns-clause-swapped_port : goal.returns-clause-swapped_port
returns-clause-swapped_port c = swapped-port-forged

pub returns-clause-stale_drop : goal.returns-clause-stale_drop
returns-clause-stale_drop c = stale-drop-forged

pub returns-clause-staler_drop : goal.returns-clause-staler_drop
returns-clause-staler_drop c = staler-drop-forged

pub returns-clause-unpulled_head : goal.returns-clause-unpulled_head
returns-clause-unpulled_head c = unpulled-head-forged

pub returns-clause-future_transmit_head : goal.returns-clause-future_transmit_head
returns-clause-future_transmit_head c = future-transmit-head-forged

pub returns-clause-overfull_backlog : goal.returns-clause-overfull_backlog
returns-clause-overfull_backlog c = overfull-backlog-forged

pub returns-clause-circle_of_queues : goal.returns-clause-circle_of_queues
returns-clause-circle_of_queues c = circle-of-queues-forged

pub returns-clause-stale_settings : goal.returns-clause-stale_settings
returns-clause-stale_settings c = stale-settings-forged

pub returns-clause-own_want : goal.returns-clause-own_want
returns-clause-own_want c = own-want-forged

pub returns-clause-own_filter : goal.returns-clause-own_filter
returns-clause-own_filter c = own-filter-forged

pub returns-clause-unset_want : goal.returns-clause-unset_want
returns-clause-unset_want c = unset-want-forged
