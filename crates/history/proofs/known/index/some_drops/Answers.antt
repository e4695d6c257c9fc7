use Rattle.std.proofs.Common.{◌∙◌, sym}
use Rattle.history.proofs.NoDropLemmas.{no-slots}
use Rattle.history.proofs.known.index.some_drops.Goals as goal

pub returns-else-has_drops : goal.returns-else-has_drops
returns-else-has_drops c =
    no-slots c.empty.result c.args.count c.args.lanes.now
    (sym c.has_drops.ensures ∙ c.if-has_drops.false) c.empty.ensures
