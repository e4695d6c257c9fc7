-- A turn in which no work was done: each work that it tried was idle, and left the machine as it
-- was.
use Rattle.std.proofs.Common.{◌≡◌, Bool, true, false, List, [], ◌∷◌, refl, ◌∙◌, subst}
use Rattle.std.specs.Prelude.{◌&&◌, ◌||◌, not}
use Rattle.steer_base.specs.declared.command.Answer.{Answer}
use Rattle.steer_base.specs.declared.command.Answer.TheVariants as says
use Rattle.steer_base.specs.declared.idle.Idle.{Idle}
use Rattle.steer_base.specs.declared.step.Step.{Step}
use Rattle.steer_model.specs.State.Machine.{Machine}
use Rattle.steer_model.specs.Steps.SingleSteps.{is_command, is_idle, is_work, simple}
use Rattle.steer_model.specs.Steps.CompoundSteps.{Progress, tried, tries}
use Rattle.step_laws.proofs.IdleLemmas.{idle_leaves_all}

-- ---- tests

pub or-first : (a b : Bool) → (a || b) ≡ false → a ≡ false
or-first false b e = refl
or-first true b e = absurd (cc)

pub or-second : (a b : Bool) → (a || b) ≡ false → b ≡ false
or-second false b e = e
or-second true b e = absurd (cc)

idle-by : (work idle : Bool) → (work && not idle) ≡ false → work ≡ true → idle ≡ true
idle-by true true e w = refl
idle-by true false e w = absurd (cc)
idle-by false idle e w = absurd (cc)

pub idle-why : (a : Answer) → is_idle a ≡ true → (why : Idle) × (a ≡ says.Idle why)
idle-why (says.Idle why) e = (why, refl)
idle-why says.Done e = absurd (cc)
idle-why (says.Busy why) e = absurd (cc)
idle-why (says.CpuInUse user) e = absurd (cc)
idle-why says.CpuOffline e = absurd (cc)
idle-why (says.Expired n) e = absurd (cc)

-- an event that is idle leaves the machine
pub idle-leaves : (m : Machine) (s : Step) → is_command s ≡ false → is_idle (simple m s).1 ≡ true
    → (simple m s).0 ≡ m
idle-leaves m s event idle =
    let w = idle-why (simple m s).1 idle in idle_leaves_all m s w.0 event w.1

-- ---- events that are tried one after the other

-- events that are work, and no command
abbrev pub AreWork : List Step → Type 0
AreWork [] = Unit {0}
AreWork (s ∷ ss) = (is_command s ≡ false) × (is_work s ≡ true) × AreWork ss

-- each of these events is idle in a machine
abbrev pub AreIdle : Machine → List Step → Type 0
AreIdle m [] = Unit {0}
AreIdle m (s ∷ ss) = (is_idle (simple m s).1 ≡ true) × AreIdle m ss

pub record WereIdle (t u : Progress) (ss : List Step) : Type 0 where
  pub before : t.1 ≡ false
  pub same : u.0 ≡ t.0
  pub idle : AreIdle t.0 ss

-- what was tried last was no work, if none was done
pub tried-before : (t : Progress) (s : Step) → (tried t s).1 ≡ false → t.1 ≡ false
tried-before t s none = or-first t.1 (is_work s && not (is_idle (simple t.0 s).1)) none

pub tried-idle : (t : Progress) (s : Step) → is_work s ≡ true → (tried t s).1 ≡ false
    → is_idle (simple t.0 s).1 ≡ true
tried-idle t s work none =
    idle-by (is_work s) (is_idle (simple t.0 s).1)
    (or-second t.1 (is_work s && not (is_idle (simple t.0 s).1)) none) work

pub idle-tries : (ss : List Step) (t : Progress) → AreWork ss → (tries t ss).1 ≡ false
    → WereIdle t (tries t ss) ss
idle-tries [] t work none = record { before = none; same = refl; idle = tt }
idle-tries (s ∷ ss) t work none =
    let rest = idle-tries ss (tried t s) work.2 none in
    let idle = tried-idle t s work.1 rest.before in
    let same : (tried t s).0 ≡ t.0 = idle-leaves t.0 s work.0 idle in
    record {
      before = tried-before t s rest.before;
      same = rest.same ∙ same;
      idle = (idle, subst (λ (m : Machine). AreIdle m ss) same rest.idle);
    }
