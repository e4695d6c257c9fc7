-- What every step of one event and every command keeps that names what there is, all steps keep.
use Rattle.std.proofs.Common.{ℕ, ◌<◌, ◌≡◌, Bool, true, false, List, [], ◌∷◌, arith, suc, zero}
use Rattle.std.specs.Prelude.{if◌then◌else◌}
use Rattle.std.proofs.lemmas.Bool.{ltb-true}
use Rattle.steer_base.specs.declared.step.Step.{Step}
use Rattle.steer_base.specs.declared.step.Step.TheVariants as act
use Rattle.steer_model.specs.State.Machine.{Machine}
use Rattle.steer_model.specs.State.Setup.{Setup, flow_number_of}
use Rattle.steer_model.specs.Steps.SingleSteps.{simple}
use Rattle.steer_model.specs.Steps.CompoundSteps.{Progress, after, one_round, rounds, step}
use Rattle.steer_invariant.specs.StepInvariant.{AreNamed, IsNamed}
use Rattle.steer_invariant.proofs.TurnLiftLemmas.{drain-keeps, poll-keeps, reply-keeps, round-keeps}
use Rattle.steer_invariant.proofs.TurnLiftLemmas.{serve-keeps, ship-keeps}

module _ (p : Setup) (P : Machine → Type 0) (same : (m : Machine) → P m → m.setup ≡ p)
    (flows : (x : ℕ) → flow_number_of p x < 262144)
    (keeps : (m : Machine) (s : Step) → IsNamed p s → P m → P (simple m s).0) where
  abbrev At : Progress → Type 0
  At t = P t.0

  turn-if : (b : Bool) (x y : Progress) → P x.0 → P y.0 → P (if b then x else y).0
  turn-if true x y h g = h
  turn-if false x y h g = g

  rounds-keep : (n : ℕ) (t : Progress) → P t.0 → P (rounds n t).0
  unfolding rounds
  rounds-keep zero t h = h
  rounds-keep (suc n) t h =
      let next =
      round-keeps p At (λ t h. same t.0 h) flows (λ t s is h. keeps t.0 s is.named h)
      (t.0, false) h in
      turn-if (one_round (t.0, false)).1 (rounds n ((one_round (t.0, false)).0, true))
      ((one_round (t.0, false)).0, t.1) (rounds-keep n ((one_round (t.0, false)).0, true) next) next

  pub step-keeps : (m : Machine) (s : Step) → IsNamed p s → P m → P (step m s).0
  step-keeps m (act.Poll q) named h =
      poll-keeps p At (λ t h. same t.0 h) flows (λ t s is h. keeps t.0 s is.named h) q (m, false)
      (ltb-true _ _ named) h
  step-keeps m (act.Drain c) named h =
      drain-keeps p At (λ t h. same t.0 h) flows (λ t s is h. keeps t.0 s is.named h) c (m, false)
      (ltb-true _ _ named) h
  step-keeps m (act.Reply a) named h =
      reply-keeps p At (λ t h. same t.0 h) flows (λ t s is h. keeps t.0 s is.named h) a (m, false)
      (ltb-true _ _ named) h
  step-keeps m (act.Serve a) named h =
      serve-keeps p At (λ t h. same t.0 h) flows (λ t s is h. keeps t.0 s is.named h) a (m, false)
      (ltb-true _ _ named) h
  step-keeps m (act.Ship t) named h =
      ship-keeps p At (λ t h. same t.0 h) flows (λ t s is h. keeps t.0 s is.named h) t (m, false)
      (ltb-true _ _ named) h
  step-keeps m act.Sweep named h = rounds-keep _ (m, false) h
  step-keeps m act.Arrive named h = keeps m act.Arrive named h
  step-keeps m (act.Take q) named h = keeps m (act.Take q) named h
  step-keeps m (act.Enter q) named h = keeps m (act.Enter q) named h
  step-keeps m (act.Look q) named h = keeps m (act.Look q) named h
  step-keeps m (act.Weigh q) named h = keeps m (act.Weigh q) named h
  step-keeps m (act.Put q) named h = keeps m (act.Put q) named h
  step-keeps m (act.Ask q) named h = keeps m (act.Ask q) named h
  step-keeps m (act.Leave q) named h = keeps m (act.Leave q) named h
  step-keeps m (act.Pull c) named h = keeps m (act.Pull c) named h
  step-keeps m (act.Deliver c) named h = keeps m (act.Deliver c) named h
  step-keeps m (act.Retire c) named h = keeps m (act.Retire c) named h
  step-keeps m (act.Record flow) named h = keeps m (act.Record flow) named h
  step-keeps m (act.Send a) named h = keeps m (act.Send a) named h
  step-keeps m (act.TEnter a) named h = keeps m (act.TEnter a) named h
  step-keeps m (act.TLeave a) named h = keeps m (act.TLeave a) named h
  step-keeps m (act.TWeigh a) named h = keeps m (act.TWeigh a) named h
  step-keeps m (act.TPut a) named h = keeps m (act.TPut a) named h
  step-keeps m (act.TPull t) named h = keeps m (act.TPull t) named h
  step-keeps m (act.TDeliver t) named h = keeps m (act.TDeliver t) named h
  step-keeps m (act.TRetire t) named h = keeps m (act.TRetire t) named h
  step-keeps m (act.Give c) named h = keeps m (act.Give c) named h

  pub after-keeps : (ss : List Step) (m : Machine) → AreNamed p ss → P m → P (after ss m)
  after-keeps [] m named h = h
  after-keeps (s ∷ ss) m named h =
      after-keeps ss (step m s).0 (λ i d lt. named (suc i) d (omega (arith, lt)))
      (step-keeps m s (named 0 s (omega arith)) h)
