use Rattle.std.proofs.Common.{ap, arith, length}
use Rattle.report_reader.proofs.JoinedLemmas.{lines-long}
use Rattle.report_reader.proofs.seen_list.SeenList.len.Goals as goal

pub returns : goal.returns
returns c =
    let long = lines-long c.self.inside.replies.items c.self.inside.packets.items
    c.self.inside.numbers.items in
    let view = ap length c.self.view_is in
    omega (arith, long, view, c.self.inside.one_each, c.len.ensures)
