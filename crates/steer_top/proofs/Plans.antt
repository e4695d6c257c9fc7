-- Plans with the same settings are one plan.
use Rattle.std.proofs.Common.{◌≡◌, ap, ◌∙◌, sym, subst}
use Rattle.std.proofs.Props.{props}
use Rattle.std.proofs.Math.Path.{Cosingl, contract'}
use Rattle.headline.specs.Forged.{plan_with}
use Rattle.plan_reader.specs.PlanTexts.{settings_of}
use Rattle.plan_reader.specs.Ranges.{commands_of}
use Rattle.plan_reader.specs.Settings.{IsWithin, PlanSettings}
use Rattle.plan_reader.specs.declared.plan.Plan.{Plan}

-- settings are within their ranges in one way
within-prop : (s : PlanSettings) → IsProp (IsWithin s)
within-prop s = hlevel props

-- a plan is the one with its settings, since its commands are those of its steps
made : (p : Plan) → plan_with (settings_of p) p.within ≡ p
made p =
    ap
    (λ (c : Cosingl (commands_of p.steps)). (
    let plan : Plan = record p { commands = c.0; commands_are = c.1 } in plan))
    (contract' p.commands_are)

by-settings : (s t : PlanSettings) (w : IsWithin s) (v : IsWithin t) → s ≡ t
    → plan_with s w ≡ plan_with t v
by-settings s t w v same =
    subst (λ (u : PlanSettings). (x : IsWithin u) → plan_with s w ≡ plan_with u x) same
    (λ x. ap (plan_with s) (within-prop s w x)) v

pub one-plan : (p q : Plan) → settings_of p ≡ settings_of q → p ≡ q
one-plan p q same =
    sym (made p) ∙ by-settings (settings_of p) (settings_of q) p.within q.within same ∙ made q
