use Rattle.std.proofs.Common.{take}
use Rattle.std.specs.List.{All}
use Rattle.steer_model.specs.Good.Choices.{HeadsRise}
use Rattle.good_check.proofs.heads.all_heads_rise.Given as goal

abbrev pub invariant-loop-choices : goal.invariant-loop-choices
invariant-loop-choices l = All (HeadsRise l.start l.lanes) (take l.choices-index l.lists)
