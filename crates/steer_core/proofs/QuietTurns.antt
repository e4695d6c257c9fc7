-- Turns of pollers, processors, transmit queues, and the replies of applications are quiet.
use Rattle.std.proofs.Common.{ℕ, ◌≡◌, true, List, [], ◌∷◌, refl, suc, zero}
use Rattle.steer_base.specs.declared.step.Step.{Step}
use Rattle.steer_base.specs.declared.step.Step.TheVariants as act
use Rattle.steer_model.specs.Steps.CompoundSteps.{Progress, again, drain, drain_one, for_each, poll}
use Rattle.steer_model.specs.Steps.CompoundSteps.{reply, ship, ship_one, tried, tries}
use Rattle.steer_core.proofs.QuietLemmas.{Quiet, is_quiet, quiet-refl, quiet-simple, quiet-trans}

abbrev AreQuiet : List Step → Type 0
AreQuiet [] = Unit {0}
AreQuiet (s ∷ ss) = (is_quiet s ≡ true) × AreQuiet ss

quiet-tries : (ss : List Step) (t : Progress) → AreQuiet ss → Quiet t.0 (tries t ss).0
quiet-tries [] t all = quiet-refl t.0
quiet-tries (s ∷ ss) t all =
    quiet-trans t.0 (tried t s).0 (tries (tried t s) ss).0 (quiet-simple t.0 s all.0)
    (quiet-tries ss (tried t s) all.1)

quiet-again : (n : ℕ) (ss : List Step) (t : Progress) → AreQuiet ss → Quiet t.0 (again n ss t).0
unfolding again
quiet-again zero ss t all = quiet-refl t.0
quiet-again (suc n) ss t all =
    quiet-trans t.0 (tries t ss).0 (again n ss (tries t ss)).0 (quiet-tries ss t all)
    (quiet-again n ss (tries t ss) all)

pub quiet-each : (n : ℕ) (f : ℕ → Progress → Progress) → ((i : ℕ) (t : Progress) → Quiet t.0
    (f i t).0)
    → (t : Progress)
    → Quiet t.0 (for_each n f t).0
unfolding for_each
quiet-each zero f one t = quiet-refl t.0
quiet-each (suc n) f one t =
    quiet-trans t.0 (for_each n f t).0 (f n (for_each n f t)).0 (quiet-each n f one t)
    (one n (for_each n f t))

pub quiet-arrive : (t : Progress) → Quiet t.0 (tried t act.Arrive).0
quiet-arrive t = quiet-simple t.0 act.Arrive refl

pub quiet-poll : (q : ℕ) (t : Progress) → Quiet t.0 (poll q t).0
quiet-poll q t =
    quiet-tries
    (act.Enter q ∷ act.Take q ∷ act.Look q ∷ act.Weigh q ∷ act.Put q ∷ act.Ask q ∷ act.Leave q
    ∷ []) t
    (refl, (refl, (refl, (refl, (refl, (refl, (refl, tt)))))))

pub quiet-drain : (c : ℕ) (t : Progress) → Quiet t.0 (drain c t).0
quiet-drain c t = quiet-again _ (drain_one c) t (refl, (refl, (refl, tt)))

pub quiet-ship : (x : ℕ) (t : Progress) → Quiet t.0 (ship x t).0
quiet-ship x t = quiet-again _ (ship_one x) t (refl, (refl, (refl, tt)))

pub quiet-reply : (a : ℕ) (t : Progress) → Quiet t.0 (reply a t).0
quiet-reply a t =
    quiet-tries (act.TEnter a ∷ act.Send a ∷ act.TWeigh a ∷ act.TPut a ∷ act.TLeave a ∷ []) t
    (refl, (refl, (refl, (refl, (refl, tt)))))
