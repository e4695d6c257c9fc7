use Rattle.std.proofs.Common.{◌≡◌, drop}
use Rattle.history.specs.Index.{noted_by}
use Rattle.history.proofs.known.index.note_lanes.Given as goal

abbrev pub invariant-loop-chosen : goal.invariant-loop-chosen
invariant-loop-chosen l =
    noted_by (λ c. c.id) (λ i c. c.choice.lane) l.chosen-index l.index
    (drop l.chosen-index l.list) ≡ noted_by (λ c. c.id) (λ i c. c.choice.lane) 0 l.fn.index l.list
