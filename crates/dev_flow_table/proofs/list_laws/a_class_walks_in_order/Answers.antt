use Rattle.dev_flow_table.proofs.WalkExample.{walks_move}
use Rattle.dev_flow_table.proofs.WalksLemmas.{walk_keeps_order}
use Rattle.dev_flow_table.proofs.list_laws.a_class_walks_in_order.Goals as goal

pub returns-clause-order : goal.returns-clause-order
returns-clause-order c = walk_keeps_order

pub returns-clause-moves : goal.returns-clause-moves
returns-clause-moves c = walks_move
