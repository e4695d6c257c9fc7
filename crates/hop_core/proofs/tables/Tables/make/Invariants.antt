use Rattle.std.proofs.Common.{◌≡◌, map, replicate, take}
use Rattle.std.specs.List.{All}
use Rattle.dev_flow_table.specs.Tables.{unset}
use Rattle.hop_model.specs.Shape.{classes_for}
use Rattle.hop_core.proofs.tables.Tables.make.Given as goal

abbrev pub invariant-loop-count : goal.invariant-loop-count
invariant-loop-count l = record {
  rows : map (λ t. t.rows) l.tables.items ≡ map (λ n. replicate (classes_for l.exact n)
      (unset l.start)) (take l.count-index l.counts);
  same : All (λ t. (t.start ≡ l.start) × (t.exact ≡ l.exact)) l.tables.items;
}
