use Rattle.hop_core.proofs.Flows.{FlowOrdered-happens, FlowInOrder-from}
use Rattle.hop_core.proofs.New.{Ordered-fresh}
use Rattle.hop_core.proofs.laws.each_event_keeps_flows.Goals as goal

pub returns-clause-fresh : goal.returns-clause-fresh
returns-clause-fresh c = λ fixed counts guests lanes outs test p o set within mine.
    Ordered-fresh fixed counts guests lanes outs set p o

pub returns-clause-each : goal.returns-clause-each
returns-clause-each c = λ test p o s e may allowed h all. FlowOrdered-happens test p o s e may h
    allowed all

pub returns-clause-order : goal.returns-clause-order
returns-clause-order c = λ test p o s h all. FlowInOrder-from test p o s h all
