use Rattle.hop_core.proofs.New.{Ordered-fresh, Ordered-new}
use Rattle.hop_core.proofs.Order.{Ordered-happens, InOrder-from}
use Rattle.hop_core.proofs.laws.each_event_keeps_order.Goals as goal

pub returns-clause-new : goal.returns-clause-new
returns-clause-new c = Ordered-new

pub returns-clause-fresh : goal.returns-clause-fresh
returns-clause-fresh c = Ordered-fresh

pub returns-clause-each : goal.returns-clause-each
returns-clause-each c = λ set p o s e may tight h g. Ordered-happens set p o s e may tight h g

pub returns-clause-order : goal.returns-clause-order
returns-clause-order c = λ set p o s g. InOrder-from set p o s g
