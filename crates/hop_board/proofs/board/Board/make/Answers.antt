use Rattle.hop_board.proofs.Names.{◌≡◌, All, List, length, sym, ap, ◌∙◌, subst, arith, SeatView}
use Rattle.hop_board.proofs.Names.{BoardSizes, BoardStep, BoardSeatView, spaced, HasNoSteps, InSlot}
use Rattle.hop_board.proofs.Opening.{begins, new_fresh, slots_long, tables_at_board, words_long}
use Rattle.hop_board.proofs.board.Board.make.Goals as goal

pub new-requires : goal.new-requires
new-requires c =
    begins c.in_ok-sizes.sizes c.deref.result.now c.in_ok-slots.slots.items
    (c.deref.ensures.value ∙ c.in_ok-words.ensures)
    (c.in_ok-slots.ensures ∙ ap spaced c.in_ok-lanes.ensures)

pub at_board-requires : goal.at_board-requires
at_board-requires c =
    subst (λ (xs : List (SeatView BoardStep)). All HasNoSteps xs) (sym c.in_ok-given.ensures.given)
    (new_fresh c.in-Ok.made.0.shared.table_id 0 c.args.seats)

pub invariant_of-result : goal.invariant_of-result
invariant_of-result c =
    let about = c.in_ok-sizes.sizes in
    let made = c.in-Ok.ensures.ok in
    let sizes = c.in_ok-sizes.ensures.sizes in
    let room : about.room ≡ c.args.shape.now.room = ap (λ (b : BoardSizes). b.room) sizes in
    let lanes : about.lanes ≡ c.args.shape.now.lanes = ap (λ (b : BoardSizes). b.lanes) sizes in
    let seats : about.seats ≡ c.args.seats = ap (λ (b : BoardSizes). b.seats) sizes in
    let small = c.requires.room in
    let few = c.requires.lanes in
    let some = c.requires.some_seat in
    let most = c.requires.seats in
    record {
      told_is = made.5;
      words = made.0 ∙ (ap (λ xs. length xs) (c.deref.ensures.value ∙ c.in_ok-words.ensures)
          ∙ words_long about);
      slots = made.1 ∙ (ap (λ (xs : List InSlot). length xs)
          (c.in_ok-slots.ensures ∙ ap spaced c.in_ok-lanes.ensures)
          ∙ slots_long about);
      fit = record {
        room = omega arith;
        start = c.in_ok-sizes.ensures.start;
        lanes = omega arith;
        some_seat = omega arith;
        seats = omega arith;
      };
      room = c.in_ok-spare.ensures;
    }

pub returns-clause-table : goal.returns-clause-table
returns-clause-table c =
    subst (λ (xs : List BoardSeatView). All
    (λ (s : BoardSeatView). s.table ≡ c.in-Ok.made.0.shared.table_id) xs)
    (sym c.in_ok-seats.ensures)
    (tables_at_board c.in-Ok.made.0.shared.table_id c.in_ok-given.given.items
    c.in_ok-given.ensures.table)
