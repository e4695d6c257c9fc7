use Rattle.std.proofs.Common.{◌≡◌, take}
use Rattle.std.specs.Prelude.{vec_len}
use Rattle.rule_check.specs.Currents.{AreCurrent}
use Rattle.good_check.specs.Heads.{HaveSeen}
use Rattle.good_check.specs.declared.heads.TheConstants.{LANES}
use Rattle.good_check.proofs.heads.heads_rise.Given as goal

abbrev pub invariant-loop-chosen : goal.invariant-loop-chosen
invariant-loop-chosen l = record {
  lanes : vec_len l.last ≡ LANES;
  current : AreCurrent l.current (take l.chosen-index l.choices);
  seen : HaveSeen l.start l.lanes l.choices l.chosen-index l.last.items;
}
