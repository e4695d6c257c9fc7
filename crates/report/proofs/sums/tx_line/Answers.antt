use Rattle.std.proofs.Common.{[], ◌∷◌, ◌++◌, codes, decimal}
use Rattle.report.specs.Lines.{lane_fields}
use Rattle.report.proofs.PiecesLemmas.{joined, row_done}
use Rattle.report.proofs.sums.tx_line.Goals as goal

pub returns : goal.returns
returns c =
    let tx = decimal c.args.tx ∷ [] in
    let sums = lane_fields c.args.lane.now in
    let two = joined (codes "tx") tx sums c.begin.new.buf c.push_lane_sums.new.buf
    c.begin.ensures.text c.push_lane_sums.ensures.text in
    row_done (codes "tx") (tx ++ sums) c.push_lane_sums.new.buf c.push.new.self two c.push.ensures
