use Rattle.std.proofs.lemmas.List.Elements.{All-push, All-same, All-weaker}
use Rattle.board_api.specs.Closings.Closings.{IsAtRest}
use Rattle.workers.specs.BoardEnds.{IsLast}
use Rattle.workers.proofs.Names.{◌≡◌, ap, ◌∙◌, BoardSeatView}
use Rattle.workers.proofs.board_ends.close_board.Goals as goal

pub close_board-requires-clause-table : goal.close_board-requires-clause-table
close_board-requires-clause-table c =
    let P = λ (s : BoardSeatView). s.table ≡ c.args.board.table in
    All-same P _ _ (c.into_vec.ensures ∙ ap (λ j. j.items) c.push.ensures)
    (All-push P c.args.seats.items c.args.last
    (All-weaker (IsLast c.args.board) P (λ s is. is.table) c.args.seats.items
    c.requires.seats) c.requires.last.table)

pub close_board-requires-clause-rest : goal.close_board-requires-clause-rest
close_board-requires-clause-rest c =
    let P = λ (s : BoardSeatView). IsAtRest c.args.board.sizes s.steps in
    All-same P _ _ (c.into_vec.ensures ∙ ap (λ j. j.items) c.push.ensures)
    (All-push P c.args.seats.items c.args.last
    (All-weaker (IsLast c.args.board) P (λ s is. is.rests) c.args.seats.items
    c.requires.seats) c.requires.last.rests)
