use Rattle.std.proofs.Common.{◌≡◌, ◌≤◌, [], length, map, replicate, vec_capacity}
use Rattle.std.specs.List.{All}
use Rattle.steer_base.proofs.journals.Journals.make.Given as goal

abbrev pub invariant-loop : goal.invariant-loop
invariant-loop g l = record {
  empty : map (λ list. list.items) l.lists.items ≡ replicate l.counter [];
  reserved : All (λ list. (length list.items ≤ l.room) × (l.room ≤ vec_capacity list))
      l.lists.items;
}
