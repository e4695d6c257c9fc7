-- A walk over the busy actors passes over those whose turns would change nothing.
use Rattle.std.proofs.Common.{ℕ, ◌<◌, ◌≤◌, ◌≡◌, Bool, length, arith}
use Rattle.std.specs.Slice.Scan.{HoldsNowhere}
use Rattle.steer_base.specs.Sets.{has}
use Rattle.steer_model.specs.State.Machine.{Machine}
use Rattle.steer_model.specs.Steps.CompoundSteps.{Progress, drain, for_each, poll, serve, ship}
use Rattle.steer_invariant.specs.StepInvariant.{StepInvariant}
use Rattle.steer_core.specs.Resting.{OthersAreDone}
use Rattle.steer_core.specs.declared.actors.busy.Busy.{Busy}
use Rattle.steer_core.proofs.IdleTurns.{poll-of-done, serve-of-done}
use Rattle.steer_core.proofs.StillLemmas.{drain-of-done, ship-of-done}
use Rattle.steer_core.proofs.TurnLemmas.{each-past}

-- the walk came to this machine, and none of the actors from one on up to another is busy
module _ (m : Machine) (w : Bool) (busy : Busy) (others : OthersAreDone busy m) (start : Progress)
    (from to : ℕ) (upto : from ≤ to) where
  pub polls-past : StepInvariant m → ◌≡◌ {A = Progress} (m, w) (for_each from poll start)
      → to ≤ length m.setup.homes → HoldsNowhere (has busy.pollers) from to
      → ◌≡◌ {A = Progress} (m, w) (for_each to poll start)
  polls-past k before within free =
      each-past poll start (m, w) from before to upto (λ q above below.
      let lt : q < length m.setup.homes = omega (arith, below, within) in
      poll-of-done m q k lt (others.pollers q lt (free q above below)) w)

  pub drains-past : ◌≡◌ {A = Progress} (m, w) (for_each from drain start)
      → to ≤ m.setup.cpus → HoldsNowhere (has busy.cpus) from to
      → ◌≡◌ {A = Progress} (m, w) (for_each to drain start)
  drains-past before within free =
      each-past drain start (m, w) from before to upto (λ c above below.
      drain-of-done c (m, w)
      (others.cpus c (omega (arith, below, within)) (free c above below)))

  pub serves-past : StepInvariant m → ◌≡◌ {A = Progress} (m, w) (for_each from serve start)
      → to ≤ m.setup.apps → HoldsNowhere (has busy.apps) from to
      → ◌≡◌ {A = Progress} (m, w) (for_each to serve start)
  serves-past k before within free =
      each-past serve start (m, w) from before to upto (λ a above below.
      let lt : a < m.setup.apps = omega (arith, below, within) in
      serve-of-done m a k lt (others.apps a lt (free a above below)) w)

  pub ships-past : ◌≡◌ {A = Progress} (m, w) (for_each from ship start)
      → to ≤ m.setup.txs → HoldsNowhere (has busy.txs) from to
      → ◌≡◌ {A = Progress} (m, w) (for_each to ship start)
  ships-past before within free =
      each-past ship start (m, w) from before to upto (λ x above below.
      ship-of-done x (m, w)
      (others.txs x (omega (arith, below, within)) (free x above below)))
