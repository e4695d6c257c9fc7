use Rattle.history.proofs.IndexLemmas.{index-list}
use Rattle.history.proofs.known.index.index_list.Goals as goal

pub returns : goal.returns
returns c =
    index-list c.args.count c.in_ok-index.index c.note_places.new.index c.args.list.now
    c.in_ok-index.ensures c.note_places.ensures
