use Rattle.board_api.proofs.Endings.{at_closings}
use Rattle.run_promise.specs.BoardOrders.{BoardOrder}
use Rattle.run_promise.proofs.BoardOrderLemmas.{board-order}
use Rattle.run_promise.proofs.laws.boards_are_ordered.Goals as goal

pub returns : goal.returns
returns c = at_closings BoardOrder (λ about order fit lawful. board-order about order fit lawful)
