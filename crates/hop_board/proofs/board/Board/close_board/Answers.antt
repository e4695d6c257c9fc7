use Rattle.linearization.specs.Closings.{Ends}
use Rattle.board_api.specs.Closings.Closings.{HasEnded, IsAtRest}
use Rattle.hop_board.proofs.Names.{All, List, sym, ap, subst, slots_items, SeatView, BoardSizes}
use Rattle.hop_board.proofs.Names.{BoardStep, BoardSeatView, BoardView, HasBoard}
use Rattle.hop_board.proofs.Ended.{all_lie, ended}
use Rattle.hop_board.proofs.board.Board.close_board.Goals as goal

pub lists_of-lists-requires-clause-lie : goal.lists_of-lists-requires-clause-lie
lists_of-lists-requires-clause-lie c =
    let about = c.self.inside.sizes in
    let closed = c.finish-closed.result in
    let words = slots_items closed.words in
    let items = slots_items closed.slots in
    let sizes = ap (λ (h : BoardView). h.sizes) c.self.view_is in
    let rest = subst (λ (b : BoardSizes). All (λ (s : BoardSeatView). IsAtRest b s.steps)
    c.args.seats.items) (sym sizes) c.requires.rest in
    let ends = subst (λ (z : BoardSizes × List (SeatView BoardStep)). Ends z.0.seats
    (HasBoard z.0) z.1 words items)
    (λ i. (c.self.invariant.told_is i, c.gathered-all.ensures.all i))
    c.finish-closed.ensures.ends in
    all_lie about c.args.seats.items rest words items ends

pub returns : goal.returns
returns c =
    let about = c.self.inside.sizes in
    let closed = c.finish-closed.result in
    let words = slots_items closed.words in
    let items = slots_items closed.slots in
    let sizes = ap (λ (h : BoardView). h.sizes) c.self.view_is in
    let rest = subst (λ (b : BoardSizes). All (λ (s : BoardSeatView). IsAtRest b s.steps)
    c.args.seats.items) (sym sizes) c.requires.rest in
    let ends = subst (λ (z : BoardSizes × List (SeatView BoardStep)). Ends z.0.seats
    (HasBoard z.0) z.1 words items)
    (λ i. (c.self.invariant.told_is i, c.gathered-all.ensures.all i))
    c.finish-closed.ensures.ends in
    subst (λ (b : BoardSizes). HasEnded b c.args.seats.items c.lists_of-lists.result) sizes
    (ended about c.args.seats.items rest words items ends c.self.invariant.fit
    c.lists_of-lists.result c.lists_of-lists.ensures.lists)
