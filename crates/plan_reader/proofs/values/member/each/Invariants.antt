use Rattle.std.proofs.Common.{◌≡◌, All, length, drop}
use Rattle.serde_json.specs.View.{items_view}
use Rattle.plan_reader.specs.Readings.{each}
use Rattle.plan_reader.proofs.Loops.{with_front}
use Rattle.plan_reader.proofs.values.member.each.Given as goal

abbrev pub invariant-loop-position : goal.invariant-loop-position
invariant-loop-position g l =
    (with_front l.members.items (each (g.T.Member.reading l.sizes) l.position
    (items_view (drop l.position l.items.items)))
    ≡ each (g.T.Member.reading l.sizes) 0 (items_view l.items.items))
    × All (g.T.Member.IsWithin l.sizes) l.members.items × (length l.members.items ≡ l.position)
