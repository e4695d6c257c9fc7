use Rattle.std.proofs.Common.{◌≡◌, drop}
use Rattle.history.specs.Index.{noted_by}
use Rattle.history.proofs.known.index.note_senders.Given as goal

abbrev pub invariant-loop-sent : goal.invariant-loop-sent
invariant-loop-sent l = noted_by (λ s. s.id) (λ i s. s.cpu) l.sent-index l.index
    (drop l.sent-index l.list) ≡ noted_by (λ s. s.id) (λ i s. s.cpu) 0 l.fn.index l.list
