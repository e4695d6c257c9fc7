use Rattle.std.proofs.Common.{◌∷◌, ◌++◌, codes}
use Rattle.report.specs.Lines.{last_fields, put_fields}
use Rattle.report.specs.Pieces.{choice_fields, front_fields}
use Rattle.report.proofs.PiecesLemmas.{joined, row_done}
use Rattle.report.proofs.packets.packet_line.Goals as goal

pub returns : goal.returns
returns c =
    let line = c.args.line.now in
    let front = front_fields line in
    let choice = choice_fields line.choice in
    let put = codes "at" ∷ put_fields line.put in
    let chosen = joined (codes "p") front choice c.push_front.new.buf c.push_choice.new.buf
    c.push_front.ensures.text c.push_choice.ensures.text in
    let placed = joined (codes "p") (front ++ choice) put c.push_choice.new.buf
    c.push_put.new.buf chosen c.push_put.ensures.text in
    let last = joined (codes "p") (front ++ choice ++ put) (last_fields line) c.push_put.new.buf
    c.push_last.new.buf placed c.push_last.ensures.text in
    row_done (codes "p") (front ++ choice ++ put ++ last_fields line) c.push_last.new.buf
    c.push.new.self last c.push.ensures
