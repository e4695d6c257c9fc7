use Rattle.std.proofs.Common.{take}
use Rattle.steer_base.specs.Entries.{place_in}
use Rattle.history.specs.Finding.{first_some}
use Rattle.history.specs.Index.{IsIndex}
use Rattle.history.proofs.known.index.index_places.Given as goal

abbrev pub invariant-loop-list : goal.invariant-loop-list
invariant-loop-list l = IsIndex l.count l.index (λ x. first_some (place_in x)
    (take l.list-index l.lists))
