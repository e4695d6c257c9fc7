use Rattle.hop_core.proofs.NothingLost.{each_loses_nothing, each_put_is_once, loses_nothing}
use Rattle.hop_core.proofs.NothingLost.{fresh_loses_nothing}
use Rattle.hop_core.proofs.state_laws.nothing_is_lost.Goals as goal

pub returns-clause-fresh : goal.returns-clause-fresh
returns-clause-fresh c = fresh_loses_nothing

pub returns-clause-each : goal.returns-clause-each
returns-clause-each c = each_loses_nothing

pub returns-clause-all : goal.returns-clause-all
returns-clause-all c = loses_nothing

pub returns-clause-once : goal.returns-clause-once
returns-clause-once c = each_put_is_once
