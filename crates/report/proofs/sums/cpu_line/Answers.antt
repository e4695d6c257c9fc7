use Rattle.std.proofs.Common.{[], ◌∷◌, ◌++◌, codes, decimal}
use Rattle.report.specs.Lines.{lane_fields}
use Rattle.report.proofs.PiecesLemmas.{joined, row_done}
use Rattle.report.proofs.sums.cpu_line.Goals as goal

pub returns : goal.returns
returns c =
    let cpu = decimal c.args.cpu ∷ [] in
    let sums = lane_fields c.args.lane.now in
    let dropped = codes "dropped" ∷ decimal c.len.result ∷ [] in
    let two = joined (codes "cpu") cpu sums c.begin.new.buf c.push_lane_sums.new.buf
    c.begin.ensures.text c.push_lane_sums.ensures.text in
    let three = joined (codes "cpu") (cpu ++ sums) dropped c.push_lane_sums.new.buf
    c.push_named.new.buf two c.push_named.ensures.text in
    let whole = row_done (codes "cpu") (cpu ++ sums ++ dropped) c.push_named.new.buf c.push.new.self
    three c.push.ensures in
    rw c.len.ensures at whole
