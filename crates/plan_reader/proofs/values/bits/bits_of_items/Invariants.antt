use Rattle.std.proofs.Common.{◌≡◌, ◌<◌, ◌^◌, drop}
use Rattle.serde_json.specs.View.{items_view}
use Rattle.plan_reader.specs.Readings.{set_from}
use Rattle.plan_reader.proofs.values.bits.bits_of_items.Given as goal

abbrev pub invariant-loop-position : goal.invariant-loop-position
invariant-loop-position l =
    (set_from l.limit l.position l.bits (items_view (drop l.position l.items.items)) ≡ set_from
    l.limit 0 0 (items_view l.items.items))
    × (l.bits < 2 ^ l.limit)
