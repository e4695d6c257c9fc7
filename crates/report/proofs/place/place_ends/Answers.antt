use Rattle.std.proofs.Common.{◌-◌, arith, length}
use Rattle.std.proofs.lemmas.List.{take_rest}
use Rattle.report.proofs.RoomLemmas.{ends-placed}
use Rattle.report.proofs.place.place_ends.Goals as goal

pub returns : goal.returns
returns g c =
    let text = c.args.text.now in
    ends-placed c.args.room.now _ _ text c.args.at g.row.N (omega (arith, c.requires.fits))
    c.requires.covers.0 c.requires.covers.1 c.place_front.ensures
    (rw (take_rest text (length text - g.row.N)) at c.place_front-2.ensures)
