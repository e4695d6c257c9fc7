-- Every step of one event and every command keeps what the machine's lists say of each other, and a
-- new machine has no such lists.
use Rattle.std.proofs.Common.{refl}
use Rattle.steer_base.specs.declared.step.Step.{Step}
use Rattle.steer_base.specs.declared.step.Step.TheVariants as act
use Rattle.hop_model.specs.declared.event.HopEvent.TheVariants as event
use Rattle.steer_model.specs.State.Machine.{Machine}
use Rattle.steer_model.specs.Steps.SingleSteps.{simple}
use Rattle.steer_invariant.specs.StepInvariant.{StepInvariant}
use Rattle.steer_invariant.specs.RecordedLists.{IsRecorded}
use Rattle.steer_invariant.proofs.Recorded.ArrivalLemmas.{recorded-arrive}
use Rattle.steer_invariant.proofs.Recorded.CommandLemmas.{recorded-give}
use Rattle.steer_invariant.proofs.Recorded.RowLemmas.{recorded-ask, recorded-deliver}
use Rattle.steer_invariant.proofs.Recorded.RowLemmas.{recorded-leave}
use Rattle.steer_invariant.proofs.Recorded.RowLemmas.{recorded-look, recorded-put, recorded-record}
use Rattle.steer_invariant.proofs.Recorded.RowLemmas.{recorded-rx, recorded-send, recorded-take}
use Rattle.steer_invariant.proofs.Recorded.RowLemmas.{recorded-tput}
use Rattle.steer_invariant.proofs.Recorded.RowLemmas.{recorded-tweigh, recorded-tx, recorded-weigh}

pub recorded-simple : (m : Machine) (s : Step) → StepInvariant m → IsRecorded m → IsRecorded
    (simple m s).0
recorded-simple m act.Arrive k r = recorded-arrive m k r
recorded-simple m (act.Take q) k r = recorded-take m q r
recorded-simple m (act.Enter q) k r = recorded-rx m (event.Enter q) refl r
recorded-simple m (act.Look q) k r = recorded-look m q r
recorded-simple m (act.Weigh q) k r = recorded-weigh m q r
recorded-simple m (act.Put q) k r = recorded-put m q r
recorded-simple m (act.Ask q) k r = recorded-ask m q r
recorded-simple m (act.Leave q) k r = recorded-leave m q r
recorded-simple m (act.Pull c) k r = recorded-rx m (event.Pull c) refl r
recorded-simple m (act.Deliver c) k r = recorded-deliver m c r
recorded-simple m (act.Retire c) k r = recorded-rx m (event.Retire c) refl r
recorded-simple m (act.Record flow) k r = recorded-record m flow r
recorded-simple m (act.Send a) k r = recorded-send m a r
recorded-simple m (act.TEnter a) k r = recorded-tx m (event.Enter a) refl r
recorded-simple m (act.TLeave a) k r = recorded-tx m (event.Leave a) refl r
recorded-simple m (act.TWeigh a) k r = recorded-tweigh m a k r
recorded-simple m (act.TPut a) k r = recorded-tput m a r
recorded-simple m (act.TPull t) k r = recorded-tx m (event.Pull t) refl r
recorded-simple m (act.TDeliver t) k r = recorded-tx m (event.Deliver t 0) refl r
recorded-simple m (act.TRetire t) k r = recorded-tx m (event.Retire t) refl r
recorded-simple m (act.Give c) k r = recorded-give m c r
recorded-simple m (act.Poll q) k r = r
recorded-simple m (act.Drain c) k r = r
recorded-simple m (act.Reply a) k r = r
recorded-simple m (act.Serve a) k r = r
recorded-simple m (act.Ship t) k r = r
recorded-simple m act.Sweep k r = r
