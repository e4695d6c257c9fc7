use Rattle.std.proofs.Common.{take}
use Rattle.std.specs.Option.{option_map}
use Rattle.history.specs.Finding.{first_some}
use Rattle.history.specs.Index.{IsIndex}
use Rattle.history.specs.Lines.{choice_in}
use Rattle.history.proofs.known.index.index_lanes.Given as goal

abbrev pub invariant-loop-list : goal.invariant-loop-list
invariant-loop-list l = IsIndex l.count l.index (λ x. first_some
    (λ list. option_map (λ c. c.lane) (choice_in x list))
    (take l.list-index l.lists))
