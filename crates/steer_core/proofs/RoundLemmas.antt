-- The room for writes stays through the parts of a round, by what the code knows of each.
use Rattle.std.proofs.Common.{ℕ, ◌≡◌, Bool, ap, sym, subst}
use Rattle.steer_base.specs.declared.step.Step.TheVariants as act
use Rattle.steer_model.specs.State.Machine.{Machine}
use Rattle.steer_model.specs.Steps.CompoundSteps.{Progress, drain, for_each, poll, ship, tried}
use Rattle.steer_core.proofs.Paced.{Paced, paced-trans, quiet-paced}
use Rattle.steer_core.proofs.QuietTurns.{quiet-arrive, quiet-drain, quiet-each, quiet-poll}
use Rattle.steer_core.proofs.QuietTurns.{quiet-ship}

along : (m n : Machine) (t : Progress) (w : Bool) → ◌≡◌ {A = Progress} (n, w) t → Paced 0 0 m t.0
    → Paced 0 0 m n
along m n t w is p = subst (λ (k : Machine). Paced 0 0 m k) (sym (ap (λ (u : Progress). u.0) is)) p

-- an arrival, and a turn of each poller and of each processor
pub before_serves : (m n o p : Machine) (w x y z : Bool) (q c : ℕ)
    → ◌≡◌ {A = Progress} (n, x) (tried (m, w) act.Arrive)
    → ◌≡◌ {A = Progress} (o, y) (for_each q poll (n, x))
    → ◌≡◌ {A = Progress} (p, z) (for_each c drain (o, y)) → Paced 0 0 m p
before_serves m n o p w x y z q c one two three =
    let a = along m n (tried (m, w) act.Arrive) x one (quiet-paced m _ (quiet-arrive (m, w))) in
    let b = along n o (for_each q poll (n, x)) y two
    (quiet-paced n _ (quiet-each q poll quiet-poll (n, x))) in
    let d = along o p (for_each c drain (o, y)) z three
    (quiet-paced o _ (quiet-each c drain quiet-drain (o, y))) in
    paced-trans m o p (paced-trans m n o a b) d

-- a turn of each transmit queue
pub ships_paced : (m n : Machine) (w x : Bool) (t : ℕ) → ◌≡◌ {A = Progress} (n, x)
    (for_each t ship (m, w)) → Paced 0 0 m n
ships_paced m n w x t is = along m n (for_each t ship (m, w)) x is
    (quiet-paced m _ (quiet-each t ship quiet-ship (m, w)))
