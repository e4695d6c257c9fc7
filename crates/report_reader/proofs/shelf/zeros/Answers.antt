use Rattle.report_reader.proofs.PlacesLemmas.{zeros-long}
use Rattle.report_reader.proofs.shelf.zeros.Goals as goal

pub returns : goal.returns
returns c =
    zeros-long c.resize.new.self.items c.new-ids.result.items c.args.count _
    c.in_ok-resize.ensures.items c.new-ids.ensures.items c.new-ids.ensures.len
