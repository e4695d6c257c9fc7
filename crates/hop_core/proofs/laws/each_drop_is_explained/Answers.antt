use Rattle.hop_core.proofs.Drops.{each_explains_drops, explains_drops, fresh_is_explained}
use Rattle.hop_core.proofs.laws.each_drop_is_explained.Goals as goal

pub returns-clause-all : goal.returns-clause-all
returns-clause-all c = explains_drops

pub returns-clause-fresh : goal.returns-clause-fresh
returns-clause-fresh c = fresh_is_explained

pub returns-clause-each : goal.returns-clause-each
returns-clause-each c = each_explains_drops
