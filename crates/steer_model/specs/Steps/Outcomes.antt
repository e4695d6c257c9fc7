-- What a step makes of a machine, and what it answers.
use Rattle.steer_base.specs.declared.command.Answer.{Answer}
use Rattle.steer_base.specs.declared.command.Answer.TheVariants as says
use Rattle.steer_base.specs.declared.idle.Idle.{Idle}
use Rattle.hop_model.specs.declared.event.HopEvent.{HopEvent}
use Rattle.hop_model.specs.declared.event.HopAnswer.{HopAnswer}
use Rattle.hop_model.specs.declared.event.HopAnswer.TheVariants as answer
use Rattle.hop_model.specs.Events.{happens}
use Rattle.steer_model.specs.State.Machine.{Machine}

-- the machine after a step, and its answer
abbrev pub StepOutcome : Type 0
StepOutcome = Machine × Answer

-- the outcome of a step that is not enabled, for this reason
abbrev pub idle_step : Machine → Idle → StepOutcome
idle_step m why = (m, says.Idle why)

-- the answer of a hop, as the machine gives it
abbrev pub told : HopAnswer → Answer
told (answer.Idle why) = says.Idle why
told _ = says.Done

-- the outcome of an event of the receive hop only
abbrev pub by_rx : Machine → HopEvent → StepOutcome
by_rx m e = (record m { rx = (happens m.rx e).0 }, told (happens m.rx e).1)

-- the outcome of an event of the transmit hop only
abbrev pub by_tx : Machine → HopEvent → StepOutcome
by_tx m e = (record m { tx = (happens m.tx e).0 }, told (happens m.tx e).1)
