-- The laws: from what the threads of a run keep to what its history shows of them.
use Rattle.history.specs.declared.history.History.{History}
use Rattle.steer_model.specs.Good.Inputs.{Input}
use Rattle.board_api.specs.Closings.Closings.{AtEachClosing}
use Rattle.headline.specs.ByRun.{IsByRun}
use Rattle.run_coupling.specs.Coupling.Runs.{IsRun}
use Rattle.run_promise.specs.BoardOrders.{BoardOrder}

-- At each closing of a board all own steps have moments of one order.
abbrev pub BoardsAreOrdered : Type 0
BoardsAreOrdered = AtEachClosing BoardOrder

-- The lists of a history of a run are those of one order at each of its two hops.
abbrev pub RunsAreByRun : Type 0
RunsAreByRun = (i : Input) (h : History) → IsRun i h → IsByRun i h
