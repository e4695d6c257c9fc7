use Rattle.hop_board.proofs.Names.{◌+◌, ◌-◌, ◌%◌, ◌^◌}
use Rattle.hop_board.proofs.WordSteps.{acts_at}
use Rattle.hop_board.proofs.board.Board.sub_as.Goals as goal

pub fetch_sub-requires : goal.fetch_sub-requires
fetch_sub-requires g c =
    acts_at c.seat.inside.seat.id c.args.word c.self.invariant c.self.view_is c.seat.view_is
    c.requires.table c.seat.invariant c.requires.within c.place-place.ensures
    (λ n. (n + (2 ^ 64 - c.args.less)) % 2 ^ 64) g.J.Told.makes g.J.Told.says c.args.less 0
    c.requires.act
