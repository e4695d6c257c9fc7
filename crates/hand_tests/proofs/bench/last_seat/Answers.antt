use Rattle.std.proofs.Common.{◌-◌, IfSome, Option, slice_index_or, take, vec_len, sym, ap, ◌∙◌}
use Rattle.std.proofs.Common.{subst, arith}
use Rattle.hand_tests.specs.Benches.{IsFresh}
use Rattle.hand_tests.proofs.bench.Fresh.{Seat, fresh_is, front_is, last_is, new_seat}
use Rattle.hand_tests.proofs.bench.last_seat.Goals as goal

pub returns-clause-fresh : goal.returns-clause-fresh
returns-clause-fresh c =
    let z = c.args.board.now.table in
    let d = new_seat z 0 in
    let all = c.requires.all in
    let some = c.requires.some in
    subst (λ (r : Option Seat). IfSome r (λ s. IsFresh c.args.board.now (c.args.count - 1) s))
    (sym (c.pop.ensures.value d (omega arith)))
    (fresh_is c.args.board.now (c.args.count - 1)
    (slice_index_or c.args.seats.now.items (vec_len c.args.seats.now - 1) d)
    (ap (λ n. slice_index_or c.args.seats.now.items (n - 1) d) all
    ∙ (ap (λ xs. slice_index_or xs (c.args.count - 1) d) c.requires.seats
    ∙ last_is z c.args.count d some)))

pub returns-clause-seats : goal.returns-clause-seats
returns-clause-seats c =
    let all = c.requires.all in
    c.pop.ensures.rest
    ∙ (ap (λ n. take (n - 1) c.args.seats.now.items) all
    ∙ (ap (λ xs. take (c.args.count - 1) xs) c.requires.seats
    ∙ front_is c.args.board.now.table c.args.count c.requires.some))
