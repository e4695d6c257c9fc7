-- What every try of an event keeps that names what there is, each turn of the machine keeps.
use Rattle.std.proofs.Common.{ℕ, ◌<◌, ◌≡◌, false, List, [], ◌∷◌, Option, Some, None, length, refl}
use Rattle.std.proofs.Common.{subst, arith, ap, suc, zero, sym}
use Rattle.std.proofs.lemmas.Bool.{lt-ltb}
use Rattle.steer_base.specs.declared.step.Step.{Step}
use Rattle.steer_base.specs.declared.step.Step.TheVariants as act
use Rattle.steer_model.specs.State.Setup.{Setup, flow_number_of}
use Rattle.steer_model.specs.Steps.SingleSteps.{is_command}
use Rattle.steer_model.specs.Steps.CompoundSteps.{Progress, again, drain, drain_one, for_each}
use Rattle.steer_model.specs.Steps.CompoundSteps.{one_round, poll}
use Rattle.steer_model.specs.Steps.CompoundSteps.{with_record, reply, replying, serve, ship}
use Rattle.steer_model.specs.Steps.CompoundSteps.{ship_one}
use Rattle.steer_model.specs.Steps.CompoundSteps.{tried, tries}
use Rattle.steer_invariant.specs.StepInvariant.{IsNamed}

-- an event that names what there is, and no command
pub record IsTried (p : Setup) (s : Step) : Type 0 where
  pub event : is_command s ≡ false
  pub named : IsNamed p s

abbrev pub AreTried : Setup → List Step → Type 0
AreTried p [] = Unit {0}
AreTried p (s ∷ ss) = IsTried p s × AreTried p ss

module _ (p : Setup) where
  pub is_tried : (s : Step) → is_command s ≡ false → IsNamed p s → IsTried p s
  is_tried s e n = record { event = e; named = n }

  pub poll-tried : (q : ℕ) → q < length p.homes
      → AreTried p
      (act.Enter q ∷ act.Take q ∷ act.Look q ∷ act.Weigh q ∷ act.Put q ∷ act.Ask q ∷ act.Leave
      q ∷ [])
  poll-tried q lt =
      let n = lt-ltb q (length p.homes) lt in (
        is_tried (act.Enter q) refl n,
        (
          is_tried (act.Take q) refl n,
          (
            is_tried (act.Look q) refl n,
            (
              is_tried (act.Weigh q) refl n,
              (
                is_tried (act.Put q) refl n,
                (is_tried (act.Ask q) refl n, (is_tried (act.Leave q) refl n, tt)),
              ),
            ),
          ),
        ),
      )

  pub drain-tried : (c : ℕ) → c < p.cpus → AreTried p (drain_one c)
  drain-tried c lt =
      let n = lt-ltb c p.cpus lt in (
        is_tried (act.Pull c) refl n,
        (is_tried (act.Deliver c) refl n, (is_tried (act.Retire c) refl n, tt)),
      )

  pub ship-tried : (x : ℕ) → x < p.txs → AreTried p (ship_one x)
  ship-tried x lt =
      let n = lt-ltb x p.txs lt in (
        is_tried (act.TPull x) refl n,
        (is_tried (act.TDeliver x) refl n, (is_tried (act.TRetire x) refl n, tt)),
      )

  pub reply-tried : (a : ℕ) → a < p.apps
      → AreTried p (act.TEnter a ∷ act.Send a ∷ act.TWeigh a ∷ act.TPut a ∷ act.TLeave a ∷ [])
  reply-tried a lt =
      let n = lt-ltb a p.apps lt in (
        is_tried (act.TEnter a) refl n,
        (
          is_tried (act.Send a) refl n,
          (
            is_tried (act.TWeigh a) refl n,
            (
              is_tried (act.TPut a) refl n,
              (is_tried (act.TLeave a) refl n, tt),
            ),
          ),
        ),
      )

module _ (p : Setup) (P : Progress → Type 0) (same : (t : Progress) → P t → t.0.setup ≡ p)
    (flows : (x : ℕ) → flow_number_of p x < 262144)
    (keeps : (t : Progress) (s : Step) → IsTried p s → P t → P (tried t s)) where
  pub tries-keep : (ss : List Step) (t : Progress) → AreTried p ss → P t → P (tries t ss)
  tries-keep [] t all h = h
  tries-keep (s ∷ ss) t all h =
      tries-keep ss (tried t s) all.1 (keeps t s all.0 h)

  pub again-keeps : (n : ℕ) (ss : List Step) (t : Progress) → AreTried p ss → P t → P (again n ss t)
  unfolding again
  again-keeps zero ss t all h = h
  again-keeps (suc n) ss t all h = again-keeps n ss (tries t ss) all (tries-keep ss t all h)

  pub for_each-keeps : (n : ℕ) (f : ℕ → Progress → Progress) (t : Progress)
      → ((i : ℕ) (u : Progress) → i < n → P u → P (f i u)) → P t → P (for_each n f t)
  unfolding for_each
  for_each-keeps zero f t one h = h
  for_each-keeps (suc n) f t one h =
      one n (for_each n f t) (omega arith)
      (for_each-keeps n f t (λ i u lt. one i u (omega (arith, lt))) h)

  pub poll-keeps : (q : ℕ) (t : Progress) → q < length p.homes → P t → P (poll q t)
  poll-keeps q t lt h =
      tries-keep
      (act.Enter q ∷ act.Take q ∷ act.Look q ∷ act.Weigh q ∷ act.Put q ∷ act.Ask q ∷ act.Leave
      q ∷ []) t
      (poll-tried p q lt) h

  pub drain-keeps : (c : ℕ) (t : Progress) → c < p.cpus → P t → P (drain c t)
  drain-keeps c t lt h = again-keeps _ (drain_one c) t (drain-tried p c lt) h

  pub ship-keeps : (x : ℕ) (t : Progress) → x < p.txs → P t → P (ship x t)
  ship-keeps x t lt h = again-keeps _ (ship_one x) t (ship-tried p x lt) h

  pub reply-keeps : (a : ℕ) (t : Progress) → a < p.apps → P t → P (reply a t)
  reply-keeps a t lt h =
      tries-keep (act.TEnter a ∷ act.Send a ∷ act.TWeigh a ∷ act.TPut a ∷ act.TLeave a ∷ []) t
      (reply-tried p a lt) h

  pub recorded-keeps : (x : Option ℕ) (t : Progress) → P t → P (with_record x t)
  recorded-keeps None t h = h
  recorded-keeps (Some x) t h =
      let lt : flow_number_of t.0.setup x < 262144 =
      subst (λ (q : Setup). flow_number_of q x < 262144) (sym (same t h)) (flows x) in
      keeps t (act.Record (flow_number_of t.0.setup x))
      (record { event = refl; named = lt-ltb (flow_number_of t.0.setup x) 262144 lt }) h

  pub serve-keeps : (a : ℕ) (t : Progress) → a < p.apps → P t → P (serve a t)
  serve-keeps a t lt h =
      reply-keeps a (with_record (replying t.0 a) t) lt (recorded-keeps (replying t.0 a) t h)

  pub arrive-keeps : (t : Progress) → P t → P (tried t act.Arrive)
  arrive-keeps t h = keeps t act.Arrive (record { event = refl; named = refl }) h

  -- the parts of a round, each after the ones before it
  pub polls-keep : (n : ℕ) (t : Progress) → n ≡ length p.homes → P t → P (for_each n poll t)
  polls-keep n t is h =
      for_each-keeps n poll t (λ q u lt k. poll-keeps q u (omega (arith, lt, is)) k) h

  pub drains-keep : (n : ℕ) (t : Progress) → n ≡ p.cpus → P t → P (for_each n drain t)
  drains-keep n t is h =
      for_each-keeps n drain t (λ c u lt k. drain-keeps c u (omega (arith, lt, is)) k) h

  pub serves-keep : (n : ℕ) (t : Progress) → n ≡ p.apps → P t → P (for_each n serve t)
  serves-keep n t is h =
      for_each-keeps n serve t (λ a u lt k. serve-keeps a u (omega (arith, lt, is)) k) h

  pub ships-keep : (n : ℕ) (t : Progress) → n ≡ p.txs → P t → P (for_each n ship t)
  ships-keep n t is h =
      for_each-keeps n ship t (λ x u lt k. ship-keeps x u (omega (arith, lt, is)) k) h

  pub round-keeps : (t : Progress) → P t → P (one_round t)
  round-keeps t h =
      let is : t.0.setup ≡ p = same t h in
      let polled : Progress = for_each (length t.0.setup.homes) poll (tried t act.Arrive) in
      let drained : Progress = for_each t.0.setup.cpus drain polled in
      let served : Progress = for_each t.0.setup.apps serve drained in
      ships-keep t.0.setup.txs served (ap (λ (q : Setup). q.txs) is)
      (serves-keep t.0.setup.apps drained (ap (λ (q : Setup). q.apps) is)
      (drains-keep t.0.setup.cpus polled (ap (λ (q : Setup). q.cpus) is)
      (polls-keep (length t.0.setup.homes) (tried t act.Arrive)
      (ap (λ (q : Setup). length q.homes) is)
      (arrive-keeps t h))))
