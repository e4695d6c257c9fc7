use Rattle.hop_core.proofs.Drops.{each_keeps_ample, fresh_is_ample, never_drops}
use Rattle.hop_core.proofs.laws.ample_lanes_drop_nothing.Goals as goal

pub returns-clause-all : goal.returns-clause-all
returns-clause-all c = never_drops

pub returns-clause-fresh : goal.returns-clause-fresh
returns-clause-fresh c = fresh_is_ample

pub returns-clause-each : goal.returns-clause-each
returns-clause-each c = each_keeps_ample
