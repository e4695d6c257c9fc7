-- As many rounds of a lane as it has packets that are not retired empty it.
use Rattle.std.proofs.Common.{ℕ, ◌<◌, ◌≡◌, false, List, [], ◌∷◌, length, refl, ap, ◌∙◌, sym}
use Rattle.std.proofs.Common.{subst, arith, suc, zero}
use Rattle.std.specs.Prelude.{slice_index_or}
use Rattle.steer_base.specs.declared.step.Step.{Step}
use Rattle.steer_base.specs.declared.step.Step.TheVariants as act
use Rattle.hop_model.specs.Hop.{HopState, accepted_at, retired_at}
use Rattle.hop_model.specs.Sound.{Sound}
use Rattle.steer_model.specs.State.Machine.{Machine}
use Rattle.steer_model.specs.State.Setup.{Setup, app_for}
use Rattle.steer_model.specs.Steps.Applications.{in_lane}
use Rattle.steer_model.specs.Steps.CompoundSteps.{Progress, again, drain_one, ship_one, tried}
use Rattle.steer_model.specs.Steps.CompoundSteps.{tries, unretired}
use Rattle.steer_invariant.specs.StepInvariant.{IsNamed, StepInvariant}
use Rattle.steer_invariant.proofs.StepInvariant.SingleStepLemmas.{goes-simple}
use Rattle.steer_invariant.proofs.TurnLiftLemmas.{AreTried, IsTried, drain-tried, ship-tried}
use Rattle.steer_properties.specs.CompoundSteps.{DrainEmpties, DrainRoundRetiresOne, EmptiesLane}
use Rattle.steer_properties.specs.CompoundSteps.{RetiresOne}
use Rattle.steer_properties.specs.CompoundSteps.{ShipEmpties, ShipRoundRetiresOne}
use Rattle.steer_properties.proofs.CompoundSteps.LaneLemmas.{round-retires}

-- ---- what tries keep

-- a machine of this plan and capture, with the invariant
record Kept (p : Setup) (m : Machine) : Type 0 where
  setup : m.setup ≡ p
  kept : StepInvariant m

kept-tried : (p : Setup) (t : Progress) (s : Step) → IsTried p s → Kept p t.0 → Kept p (tried t s).0
kept-tried p t s is k =
    let g = goes-simple t.0 k.kept s (subst (λ (r : Setup). IsNamed r s) (sym k.setup) is.named) in
    record { setup = g.setup ∙ k.setup; kept = g.kept }

kept-tries : (p : Setup) (ss : List Step) (t : Progress) → AreTried p ss → Kept p t.0
    → Kept p (tries t ss).0
kept-tries p [] t all k = k
kept-tries p (s ∷ ss) t all k = kept-tries p ss (tried t s) all.1 (kept-tried p t s all.0 k)

-- ---- rounds

-- if each round of a lane retires one, as many rounds as there are packets to retire empty it
module _ (p : Setup) (c : ℕ) (hop : Machine → HopState) (ss : List Step) (all : AreTried p ss)
    (sound : (m : Machine) → StepInvariant m → Sound (hop m))
    (round : (t : Progress) → Kept p t.0
    → retired_at (hop t.0).bare c < length (accepted_at (hop t.0).bare c)
    → RetiresOne (hop t.0).bare (hop (tries t ss).0).bare c) where
  empties : (n : ℕ) (t : Progress) → Kept p t.0 → unretired (hop t.0).bare c ≡ n
      → EmptiesLane (hop t.0).bare (hop (again n ss t).0).bare c
  unfolding again
  empties zero t k is =
      let h = (sound t.0 k.kept).counts in
      let a = h.retired_first c in let b = h.delivered_first c in let d = h.pulled_first c in
      record {
        accepted = refl;
        hand = omega (arith, is, a, b, d);
        waiting = omega (arith, is, a, b, d);
        emptied = omega (arith, is, a, b, d);
      }
  empties (suc n) t k is =
      let u : Progress = tries t ss in
      let one = round t k (omega (arith, is)) in
      let same : length (accepted_at (hop u.0).bare c) ≡ length (accepted_at (hop t.0).bare c) =
      ap (λ (l : List (List ℕ)). length (slice_index_or l c [])) one.accepted in
      let up = one.retired in
      let rest = empties n u (kept-tries p ss t all k) (omega (arith, is, same, up)) in
      record {
        accepted = rest.accepted ∙ one.accepted;
        hand = rest.hand;
        waiting = rest.waiting;
        emptied = rest.emptied;
      }

-- ---- a processor

drain-round : (p : Setup) (c : ℕ) (t : Progress) → c < p.cpus → Kept p t.0
    → retired_at t.0.rx.bare c < length (accepted_at t.0.rx.bare c)
    → RetiresOne t.0.rx.bare (tries t (drain_one c)).0.rx.bare c
drain-round p c t lt k left =
    let named = drain-tried p c lt in
    let pulled : Progress = tried t (act.Pull c) in
    let first = kept-tried p t (act.Pull c) named.0 k in
    let given : Progress = tried pulled (act.Deliver c) in
    let second = kept-tried p pulled (act.Deliver c) named.1.0 first in
    let o : ℕ = app_for pulled.0.setup (in_lane pulled.0.rx c) in
    let cpus = ap (λ (r : Setup). r.cpus) k.setup in
    let z = k.kept.rx.sizes in
    round-retires t.0.rx c o k.kept.rx.sound first.kept.rx.sound second.kept.rx.sound
    (omega (arith, lt, cpus, z.cpus)) left

pub drain_round_retires_one : DrainRoundRetiresOne
drain_round_retires_one m c k lt left =
    drain-round m.setup c (m, false) lt (record { setup = refl; kept = k }) left

pub drain_empties : DrainEmpties
drain_empties m c k lt =
    empties m.setup c (λ n. n.rx) (drain_one c) (drain-tried m.setup c lt) (λ n h. h.rx.sound)
    (λ t h left. drain-round m.setup c t lt h left) (unretired m.rx.bare c) (m, false)
    (record { setup = refl; kept = k }) refl

-- ---- a transmit queue

ship-round : (p : Setup) (x : ℕ) (t : Progress) → x < p.txs → Kept p t.0
    → retired_at t.0.tx.bare x < length (accepted_at t.0.tx.bare x)
    → RetiresOne t.0.tx.bare (tries t (ship_one x)).0.tx.bare x
ship-round p x t lt k left =
    let named = ship-tried p x lt in
    let pulled : Progress = tried t (act.TPull x) in
    let first = kept-tried p t (act.TPull x) named.0 k in
    let second = kept-tried p pulled (act.TDeliver x) named.1.0 first in
    let txs = ap (λ (r : Setup). r.txs) k.setup in
    let z = k.kept.tx.sizes in
    round-retires t.0.tx x 0 k.kept.tx.sound first.kept.tx.sound second.kept.tx.sound
    (omega (arith, lt, txs, z.txs)) left

pub ship_round_retires_one : ShipRoundRetiresOne
ship_round_retires_one m x k lt left =
    ship-round m.setup x (m, false) lt (record { setup = refl; kept = k }) left

pub ship_empties : ShipEmpties
ship_empties m x k lt =
    empties m.setup x (λ n. n.tx) (ship_one x) (ship-tried m.setup x lt) (λ n h. h.tx.sound)
    (λ t h left. ship-round m.setup x t lt h left) (unretired m.tx.bare x) (m, false)
    (record { setup = refl; kept = k }) refl
