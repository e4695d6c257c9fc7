use Rattle.hop_core.proofs.BareEvents.{each_keeps_drops_rising, fresh_drops_rise}
use Rattle.hop_core.proofs.state_laws.counts_of_drops_never_fall.Goals as goal

pub returns-clause-fresh : goal.returns-clause-fresh
returns-clause-fresh c = fresh_drops_rise

pub returns-clause-each : goal.returns-clause-each
returns-clause-each c = each_keeps_drops_rising
