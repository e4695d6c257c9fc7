use Rattle.std.proofs.Common.{◌≡◌, length, drop}
use Rattle.rule_check.specs.Turns.{AreByTurns}
use Rattle.rule_check.proofs.producer.are_by_rule.Given as goal

-- the choices from here on are by the rule over the table as it is if and only if all are
abbrev pub invariant-loop-chosen : goal.invariant-loop-chosen
invariant-loop-chosen g l = record {
  rows : length l.table.rows ≡ length l.initial.table.rows;
  back : AreByTurns (g.P.Producer.questions l.producer) l.table (drop l.chosen-index l.choices)
      → AreByTurns (g.P.Producer.questions l.producer) l.initial.table l.choices;
  on : AreByTurns (g.P.Producer.questions l.producer) l.initial.table l.choices
      → AreByTurns (g.P.Producer.questions l.producer) l.table (drop l.chosen-index l.choices);
}
