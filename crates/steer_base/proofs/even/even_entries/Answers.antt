use Rattle.std.proofs.Common.{◌≡◌, ◌<◌, ◌%◌, arith}
use Rattle.std.specs.Prelude.{slice_index}
use Rattle.std.proofs.lemmas.List.Elements.{All-from_get_or}
use Rattle.std.proofs.lemmas.List.FromFn.{fill_by_all}
use Rattle.std.proofs.Math.Nat.{mod-lt}
use Rattle.steer_base.specs.Arrivals.{even_entries}
use Rattle.steer_base.proofs.even.even_entries.Goals as goal

pub returns-clause-value : goal.returns-clause-value
unfolding even_entries
returns-clause-value c =
    fill_by_all (λ i. i % c.args.queues) c.loop-i.entries 128 0 c.loop-i.invariant.size
    (λ k h. c.loop-i.invariant.given k (omega (arith, h)))

pub returns-clause-within : goal.returns-clause-within
returns-clause-within c =
    let queues = c.args.queues in
    let entries = c.loop-i.entries in
    All-from_get_or (λ queue. queue < queues) entries 0 (λ k h.
    let at : slice_index entries k ≡ k % queues = c.loop-i.invariant.given k
    (omega (arith, c.loop-i.invariant.size, h)) in
    rw at (mod-lt k c.requires))
