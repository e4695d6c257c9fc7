-- What every step of one event and every command keeps, all steps keep.
use Rattle.std.proofs.Common.{ℕ, Bool, true, false, List, [], ◌∷◌, Option, Some, None, length, suc}
use Rattle.std.proofs.Common.{zero}
use Rattle.std.specs.Prelude.{if◌then◌else◌}
use Rattle.steer_base.specs.declared.step.Step.{Step}
use Rattle.steer_base.specs.declared.step.Step.TheVariants as act
use Rattle.steer_model.specs.State.Machine.{Machine}
use Rattle.steer_model.specs.State.Setup.{flow_number_of}
use Rattle.steer_model.specs.Steps.SingleSteps.{simple}
use Rattle.steer_model.specs.Steps.CompoundSteps.{Progress, after, again, drain, drain_one}
use Rattle.steer_model.specs.Steps.CompoundSteps.{for_each}
use Rattle.steer_model.specs.Steps.CompoundSteps.{one_round, poll, with_record}
use Rattle.steer_model.specs.Steps.CompoundSteps.{reply, replying, rounds, serve, ship, ship_one}
use Rattle.steer_model.specs.Steps.CompoundSteps.{step, tried, tries}

module _ (P : Machine → Type 0) (keeps : (m : Machine) (s : Step) → P m → P (simple m s).0) where
  tries-keep : (ss : List Step) (t : Progress) → P t.0 → P (tries t ss).0
  tries-keep [] t p = p
  tries-keep (s ∷ ss) t p = tries-keep ss (tried t s) (keeps t.0 s p)

  again-keeps : (n : ℕ) (ss : List Step) (t : Progress) → P t.0 → P (again n ss t).0
  unfolding again
  again-keeps zero ss t p = p
  again-keeps (suc n) ss t p = again-keeps n ss (tries t ss) (tries-keep ss t p)

  for_each-keeps : (n : ℕ) (f : ℕ → Progress → Progress) → ((i : ℕ) (t : Progress) → P t.0
      → P (f i t).0)
      → (t : Progress) → P t.0 → P (for_each n f t).0
  unfolding for_each
  for_each-keeps zero f k t p = p
  for_each-keeps (suc n) f k t p = k n (for_each n f t) (for_each-keeps n f k t p)

  recorded-keeps : (x : Option ℕ) (t : Progress) → P t.0 → P (with_record x t).0
  recorded-keeps None t p = p
  recorded-keeps (Some x) t p = keeps t.0 (act.Record (flow_number_of t.0.setup x)) p

  reply-keeps : (a : ℕ) (t : Progress) → P t.0 → P (reply a t).0
  reply-keeps a t p =
      tries-keep (act.TEnter a ∷ act.Send a ∷ act.TWeigh a ∷ act.TPut a ∷ act.TLeave a ∷ []) t p

  serve-keeps : (a : ℕ) (t : Progress) → P t.0 → P (serve a t).0
  serve-keeps a t p = reply-keeps a (with_record (replying t.0 a) t)
      (recorded-keeps (replying t.0 a) t p)

  poll-keeps : (q : ℕ) (t : Progress) → P t.0 → P (poll q t).0
  poll-keeps q t p =
      tries-keep
      (act.Enter q ∷ act.Take q ∷ act.Look q ∷ act.Weigh q ∷ act.Put q ∷ act.Ask q ∷ act.Leave q
      ∷ []) t p

  drain-keeps : (c : ℕ) (t : Progress) → P t.0 → P (drain c t).0
  drain-keeps c t p = again-keeps _ (drain_one c) t p

  ship-keeps : (x : ℕ) (t : Progress) → P t.0 → P (ship x t).0
  ship-keeps x t p = again-keeps _ (ship_one x) t p

  round-keeps : (t : Progress) → P t.0 → P (one_round t).0
  round-keeps t p =
      let arrived : Progress = tried t act.Arrive in
      let polled : Progress = for_each (length t.0.setup.homes) poll arrived in
      let drained : Progress = for_each t.0.setup.cpus drain polled in
      let served : Progress = for_each t.0.setup.apps serve drained in
      let a = keeps t.0 act.Arrive p in
      let b = for_each-keeps (length t.0.setup.homes) poll poll-keeps arrived a in
      let c = for_each-keeps t.0.setup.cpus drain drain-keeps polled b in
      let d = for_each-keeps t.0.setup.apps serve serve-keeps drained c in
      for_each-keeps t.0.setup.txs ship ship-keeps served d

  turn-if : (b : Bool) (x y : Progress) → P x.0 → P y.0 → P (if b then x else y).0
  turn-if true x y p q = p
  turn-if false x y p q = q

  rounds-keep : (n : ℕ) (t : Progress) → P t.0 → P (rounds n t).0
  unfolding rounds
  rounds-keep zero t p = p
  rounds-keep (suc n) t p =
      let q = round-keeps (t.0, false) p in
      turn-if (one_round (t.0, false)).1 (rounds n ((one_round (t.0, false)).0, true))
      ((one_round (t.0, false)).0, t.1) (rounds-keep n ((one_round (t.0, false)).0, true) q) q

  pub step-keeps : (m : Machine) (s : Step) → P m → P (step m s).0
  step-keeps m (act.Poll q) p = poll-keeps q (m, false) p
  step-keeps m (act.Drain c) p = drain-keeps c (m, false) p
  step-keeps m (act.Reply a) p = reply-keeps a (m, false) p
  step-keeps m (act.Serve a) p = serve-keeps a (m, false) p
  step-keeps m (act.Ship t) p = ship-keeps t (m, false) p
  step-keeps m act.Sweep p = rounds-keep _ (m, false) p
  step-keeps m act.Arrive p = keeps m act.Arrive p
  step-keeps m (act.Take q) p = keeps m (act.Take q) p
  step-keeps m (act.Enter q) p = keeps m (act.Enter q) p
  step-keeps m (act.Look q) p = keeps m (act.Look q) p
  step-keeps m (act.Weigh q) p = keeps m (act.Weigh q) p
  step-keeps m (act.Put q) p = keeps m (act.Put q) p
  step-keeps m (act.Ask q) p = keeps m (act.Ask q) p
  step-keeps m (act.Leave q) p = keeps m (act.Leave q) p
  step-keeps m (act.Pull c) p = keeps m (act.Pull c) p
  step-keeps m (act.Deliver c) p = keeps m (act.Deliver c) p
  step-keeps m (act.Retire c) p = keeps m (act.Retire c) p
  step-keeps m (act.Record flow) p = keeps m (act.Record flow) p
  step-keeps m (act.Send a) p = keeps m (act.Send a) p
  step-keeps m (act.TEnter a) p = keeps m (act.TEnter a) p
  step-keeps m (act.TLeave a) p = keeps m (act.TLeave a) p
  step-keeps m (act.TWeigh a) p = keeps m (act.TWeigh a) p
  step-keeps m (act.TPut a) p = keeps m (act.TPut a) p
  step-keeps m (act.TPull t) p = keeps m (act.TPull t) p
  step-keeps m (act.TDeliver t) p = keeps m (act.TDeliver t) p
  step-keeps m (act.TRetire t) p = keeps m (act.TRetire t) p
  step-keeps m (act.Give c) p = keeps m (act.Give c) p

  pub after-keeps : (ss : List Step) (m : Machine) → P m → P (after ss m)
  after-keeps [] m p = p
  after-keeps (s ∷ ss) m p = after-keeps ss (step m s).0 (step-keeps m s p)
