-- What all steps keep, each step of one event and each command keeps.
use Rattle.std.proofs.Common.{List, [], ◌∷◌}
use Rattle.steer_base.specs.declared.step.Step.{Step}
use Rattle.steer_base.specs.declared.step.Step.TheVariants as act
use Rattle.steer_model.specs.State.Machine.{Machine}
use Rattle.steer_model.specs.Steps.SingleSteps.{simple}
use Rattle.steer_model.specs.Steps.CompoundSteps.{after}

pub single : (P : Machine → Type 0) → ((ss : List Step) (m : Machine) → P m → P (after ss m))
    → (m : Machine) (s : Step) → P m → P (simple m s).0
single P keeps m act.Arrive h = keeps (act.Arrive ∷ []) m h
single P keeps m (act.Take q) h = keeps (act.Take q ∷ []) m h
single P keeps m (act.Enter q) h = keeps (act.Enter q ∷ []) m h
single P keeps m (act.Look q) h = keeps (act.Look q ∷ []) m h
single P keeps m (act.Weigh q) h = keeps (act.Weigh q ∷ []) m h
single P keeps m (act.Put q) h = keeps (act.Put q ∷ []) m h
single P keeps m (act.Ask q) h = keeps (act.Ask q ∷ []) m h
single P keeps m (act.Leave q) h = keeps (act.Leave q ∷ []) m h
single P keeps m (act.Pull c) h = keeps (act.Pull c ∷ []) m h
single P keeps m (act.Deliver c) h = keeps (act.Deliver c ∷ []) m h
single P keeps m (act.Retire c) h = keeps (act.Retire c ∷ []) m h
single P keeps m (act.Record flow) h = keeps (act.Record flow ∷ []) m h
single P keeps m (act.Send a) h = keeps (act.Send a ∷ []) m h
single P keeps m (act.TEnter a) h = keeps (act.TEnter a ∷ []) m h
single P keeps m (act.TLeave a) h = keeps (act.TLeave a ∷ []) m h
single P keeps m (act.TWeigh a) h = keeps (act.TWeigh a ∷ []) m h
single P keeps m (act.TPut a) h = keeps (act.TPut a ∷ []) m h
single P keeps m (act.TPull t) h = keeps (act.TPull t ∷ []) m h
single P keeps m (act.TDeliver t) h = keeps (act.TDeliver t ∷ []) m h
single P keeps m (act.TRetire t) h = keeps (act.TRetire t ∷ []) m h
single P keeps m (act.Give c) h = keeps (act.Give c ∷ []) m h
single P keeps m (act.Poll q) h = h
single P keeps m (act.Drain c) h = h
single P keeps m (act.Reply a) h = h
single P keeps m (act.Serve a) h = h
single P keeps m (act.Ship t) h = h
single P keeps m act.Sweep h = h
