use Rattle.hop_board.proofs.Names.{◌+◌, ◌%◌, ◌^◌}
use Rattle.hop_board.proofs.WordSteps.{acts_at}
use Rattle.hop_board.proofs.board.Board.add_as.Goals as goal

pub fetch_add-requires : goal.fetch_add-requires
fetch_add-requires g c =
    acts_at c.seat.inside.seat.id c.args.word c.self.invariant c.self.view_is c.seat.view_is
    c.requires.table c.seat.invariant c.requires.within c.place-place.ensures
    (λ n. (n + c.args.more) % 2 ^ 64) g.J.Told.makes g.J.Told.says c.args.more 0 c.requires.act
