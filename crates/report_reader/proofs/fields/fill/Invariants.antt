use Rattle.std.proofs.Common.{◌≡◌, ◌≤◌, ℕ, List, [], ◌-◌, ◌+◌, length, map, drop, take}
use Rattle.std.specs.List.{All}
use Rattle.report_reader.specs.Ends.{Going}
use Rattle.report_reader.specs.Values.{HasSteps, IsNumber, values_of}
use Rattle.report_reader.proofs.StepsLemmas.{Stepping}
use Rattle.report_reader.proofs.fields.fill.Given as goal

abbrev pub invariant-loop-start : goal.invariant-loop-start
invariant-loop-start l = record {
  within : l.start ≤ length l.bytes;
  behind : l.at + l.count ≤ l.start;
  few : l.count ≤ 40;
  long : length l.fields ≡ 40;
  numbers : All (λ field. IsNumber field.text.now field.number) (take l.count l.fields);
  line : (all : List (List ℕ)) (rest : List ℕ) → length all ≤ 40 → Going l.bytes l.at [] all rest
      → HasSteps l.steps all
      → Stepping l.bytes l.start (drop l.count l.steps)
      (map (λ field. field.text.now) (take l.count l.fields)) (values_of l.steps all) rest;
}

abbrev pub decreases-loop-start : goal.decreases-loop-start
decreases-loop-start l = length l.bytes - l.start
