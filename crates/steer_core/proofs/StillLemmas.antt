-- Where nothing is left to do, a round and a sweep change nothing.
use Rattle.std.proofs.Common.{ℕ, ◌-◌, ◌<◌, ◌≤◌, ◌≡◌, true, false, List, length}
use Rattle.std.proofs.Common.{refl, ap, ◌∙◌, cond, arith, suc, zero}
use Rattle.std.specs.Prelude.{nat_lt}
use Rattle.std.proofs.lemmas.Bool.{le-ltb}
use Rattle.steer_base.specs.declared.command.Answer.TheVariants as says
use Rattle.steer_base.specs.declared.idle.Idle.TheVariants as idle
use Rattle.steer_base.specs.declared.step.Step.{Step}
use Rattle.steer_base.specs.declared.step.Step.TheVariants as act
use Rattle.hop_model.specs.Events.{IsEmptied}
use Rattle.hop_model.specs.Sound.{Sound}
use Rattle.hop_model.specs.Hop.{Bare, HopState, accepted_at, retired_at}
use Rattle.steer_model.specs.State.Machine.{Machine}
use Rattle.steer_model.specs.Steps.CompoundSteps.{Progress, again, drain, drain_one, for_each}
use Rattle.steer_model.specs.Steps.CompoundSteps.{most_rounds, poll, rounds, serve, ship}
use Rattle.steer_model.specs.Steps.CompoundSteps.{ship_one, step, tried, unretired}
use Rattle.steer_invariant.specs.StepInvariant.{StepInvariant}
use Rattle.steer_core.specs.Resting.{IsStill, PollerIsDone, SenderIsDone}
use Rattle.steer_core.proofs.IdleTurns.{poll-of-done, serve-of-done}

-- turns that change nothing
each-still : (n : ℕ) (f : ℕ → Progress → Progress) (t : Progress)
    → ((i : ℕ) → i < n → f i t ≡ t) → for_each n f t ≡ t
unfolding for_each
each-still zero f t one = refl
each-still (suc n) f t one =
    ap (f n) (each-still n f t (λ i lt. one i (omega (arith, lt)))) ∙ one n (omega arith)

again-none : (n : ℕ) (ss : List Step) (t : Progress) → n ≡ 0 → again n ss t ≡ t
unfolding again
again-none zero ss t none = refl
again-none (suc n) ss t none = absurd (omega (arith, none))

none-unretired : (b : Bare) (c : ℕ) → IsEmptied b c → unretired b c ≡ 0
none-unretired b c is = omega (arith, is)

-- the turn of a lane that is empty
pub drain-of-done : (c : ℕ) (t : Progress) → IsEmptied t.0.rx.bare c → drain c t ≡ t
drain-of-done c t is = again-none _ (drain_one c) t (none-unretired t.0.rx.bare c is)

pub ship-of-done : (x : ℕ) (t : Progress) → IsEmptied t.0.tx.bare x → ship x t ≡ t
ship-of-done x t is = again-none _ (ship_one x) t (none-unretired t.0.tx.bare x is)

-- a lane with nothing that is not retired is empty
pub emptied-by : (s : HopState) (c r : ℕ) → Sound s
    → r ≡ length (accepted_at s.bare c) - retired_at s.bare c → r ≤ 0 → IsEmptied s.bare c
emptied-by s c r h is none =
    let a = h.counts.retired_first c in let b = h.counts.delivered_first c in
    let d = h.counts.pulled_first c in
    omega (arith, is, none, a, b, d)

module _ (m : Machine) (k : StepInvariant m) (came : length m.arrivals ≡ length m.setup.packets)
    (pollers : (q : ℕ) → q < length m.setup.homes → PollerIsDone q m)
    (cpus : (c : ℕ) → c < m.setup.cpus → IsEmptied m.rx.bare c)
    (senders : (a : ℕ) → a < m.setup.apps → SenderIsDone a m)
    (txs : (x : ℕ) → x < m.setup.txs → IsEmptied m.tx.bare x) where
  arrive-still : tried (m, false) act.Arrive ≡ (m, false)
  arrive-still =
      let none : nat_lt (length m.arrivals) (length m.setup.packets) ≡ false =
      le-ltb _ _ (omega (arith, came)) in
      rw none refl

  pub still-round : IsStill m
  still-round =
      let t : Progress = (m, false) in
      let polled : for_each (length m.setup.homes) poll t ≡ t =
      each-still (length m.setup.homes) poll t
      (λ q lt. poll-of-done m q k lt (pollers q lt) false) in
      let drained : for_each m.setup.cpus drain t ≡ t =
      each-still m.setup.cpus drain t
      (λ c lt. drain-of-done c t (cpus c lt)) in
      let served : for_each m.setup.apps serve t ≡ t =
      each-still m.setup.apps serve t
      (λ a lt. serve-of-done m a k lt (senders a lt) false) in
      let shipped : for_each m.setup.txs ship t ≡ t =
      each-still m.setup.txs ship t
      (λ x lt. ship-of-done x t (txs x lt)) in
      ap (λ (u : Progress). for_each m.setup.txs ship (for_each m.setup.apps serve
      (for_each m.setup.cpus drain (for_each (length m.setup.homes) poll u)))) arrive-still
      ∙ ap (λ (u : Progress). for_each m.setup.txs ship (for_each m.setup.apps serve
      (for_each m.setup.cpus drain u))) polled
      ∙ ap (λ (u : Progress). for_each m.setup.txs ship (for_each m.setup.apps serve u)) drained
      ∙ ap (λ (u : Progress). for_each m.setup.txs ship u) served
      ∙ shipped

-- a sweep of a machine that is still
still-rounds : (n : ℕ) (m : Machine) → IsStill m → rounds n (m, false) ≡ (m, false)
unfolding rounds
still-rounds zero m still = refl
still-rounds (suc n) m still =
    ap (λ (t : Progress). cond t.1 (rounds n (t.0, true)) (t.0, false)) still

pub still-sweep : (m : Machine) → IsStill m
    → step m act.Sweep ≡ (m, says.Idle idle.Nothing)
still-sweep m still =
    ap (λ (t : Progress). (t.0, cond t.1 says.Done (says.Idle idle.Nothing)))
    (still-rounds (most_rounds (length m.setup.packets)) m still)
