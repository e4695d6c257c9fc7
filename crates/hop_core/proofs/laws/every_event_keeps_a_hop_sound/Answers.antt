use Rattle.hop_core.proofs.New.{Sound-fresh, Sound-new}
use Rattle.hop_core.proofs.AllSteps.{Sound-happens}
use Rattle.hop_core.proofs.laws.every_event_keeps_a_hop_sound.Goals as goal

pub returns-clause-new : goal.returns-clause-new
returns-clause-new c = λ shape is. Sound-new shape is

pub returns-clause-fresh : goal.returns-clause-fresh
returns-clause-fresh c = Sound-fresh

pub returns-clause-each : goal.returns-clause-each
returns-clause-each c = λ s e may h. Sound-happens s e may h
