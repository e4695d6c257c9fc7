use Rattle.std.proofs.Common.{◌∙◌, ap, sym, Some, None}
use Rattle.std.specs.Prelude.{is_some}
use Rattle.plan_reader.proofs.Sets.{is_some-first, none-first}
use Rattle.plan_reader.proofs.steps.set.is_list.Goals as goal

pub parts-preserved : goal.parts-preserved
parts-preserved c =
    is_some-first c.parts.rest.now _ (Some c.in-Some.after.now) c.cut.ensures.front
    (ap is_some (sym c.number_of.ensures) ∙ c.if-is_none.ensures)
    (rw c.in-Some.is at c.cut.ensures.rest)
    ∙ c.parts.invariant

pub returns-then-is_none : goal.returns-then-is_none
returns-then-is_none c =
    sym (ap is_some (none-first c.parts.rest.now _ c.cut.ensures.front
    (ap is_some (sym c.number_of.ensures) ∙ c.if-is_none.ensures)))
    ∙ c.parts.invariant

pub returns-in_default : goal.returns-in_default
returns-in_default c =
    is_some-first c.parts.rest.now _ None c.cut.ensures.front
    (ap is_some (sym c.number_of.ensures) ∙ c.if-is_none.ensures)
    (rw c.in_default.is at c.cut.ensures.rest)
    ∙ c.parts.invariant
