use Rattle.hop_core.proofs.Settled.{each_keeps_settled, fresh_is_settled, reset_settles}
use Rattle.hop_core.proofs.Settled.{resize_settles, settled_allows_puts}
use Rattle.hop_core.proofs.state_laws.settled_hops_let_flows_pass.Goals as goal

pub returns-clause-fresh : goal.returns-clause-fresh
returns-clause-fresh c = fresh_is_settled

pub returns-clause-each : goal.returns-clause-each
returns-clause-each c = each_keeps_settled

pub returns-clause-resize : goal.returns-clause-resize
returns-clause-resize c = resize_settles

pub returns-clause-reset : goal.returns-clause-reset
returns-clause-reset c = reset_settles

pub returns-clause-puts : goal.returns-clause-puts
returns-clause-puts c = settled_allows_puts
