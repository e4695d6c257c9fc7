use Rattle.std.proofs.Common.{◌≡◌, bytes_eq, map}
use Rattle.std.specs.List.{list_any}
use Rattle.serde_json.specs.View.{members_view}
use Rattle.plan_reader.specs.Readings.{first_unknown}
use Rattle.plan_reader.proofs.values.object.unknown_key.Given as goal

abbrev pub invariant-loop-key : goal.invariant-loop-key
invariant-loop-key l =
    (goal.iterator-loop-key).can_next l.key-iterator ×
    (goal.iterator-loop-key).is_finite l.key-iterator ×
    (first_unknown (λ key. list_any (bytes_eq key) (map (λ known. known.now) l.keys))
    (members_view l.key-iterator)
    ≡ first_unknown (λ key. list_any (bytes_eq key) (map (λ known. known.now) l.keys))
    (members_view l.object.entries))
