-- What is shown of a run with threads.
use Rattle.std.specs.Prelude.{◌≡◌, List}
use Rattle.headline.specs.ByRun.{IsByRun}
use Rattle.history.specs.declared.history.History.{History}
use Rattle.replay.specs.Meanings.{Meaning}
use Rattle.replay.specs.Replays.{IsWithinTypes, ShownLists, shown_with}
use Rattle.steer_model.specs.Good.GoodHistory.{Good}
use Rattle.steer_top.specs.declared.input.Input.{Input}

-- A history is good for a plan and its packets.
abbrev pub IsGoodFor : Input → History → Type 0
IsGoodFor input h =
    Good (record {
      plan = input.plan;
      packets = input.captured.packets.items;
      cut = input.captured.cut;
    }) h

-- The lists of a history are those of a run of a plan and its packets.
abbrev pub IsByRunFor : Input → History → Type 0
IsByRunFor input h =
    IsByRun (record {
      plan = input.plan;
      packets = input.captured.packets.items;
      cut = input.captured.cut;
    }) h

-- What is shown is a history that is good for a plan and its packets and whose lists are those of a
-- run, with taps that mean this.
pub record IsRunOf (input : Input) (taps : List Meaning) (shown : ShownLists) : Type 0 where
  pub history : History
  pub good : IsGoodFor input history
  pub by_run : IsByRunFor input history
  pub is : shown ≡ shown_with input.plan input.captured.packets.items taps history
  pub fits : IsWithinTypes input.plan shown
