use Rattle.std.proofs.Common.{◌≡◌, ◌∙◌, true, false, Some, None, IsSome, sym, subst}
use Rattle.plan_reader.proofs.Sets.{numbers_after, numbers-None, numbers-first, bits_fit, tail_some}
use Rattle.plan_reader.proofs.Sets.{refused_at, kept_at}
use Rattle.plan_reader.proofs.steps.set.bits_of_list.Goals as goal

pub returns-in_default-clause-merged : goal.returns-in_default-clause-merged
returns-in_default-clause-merged c =
    let none = numbers-None c.parts.rest.now _ c.cut.ensures.front (sym c.number_of.ensures
    ∙ c.in_default.is) in
    let impossible : false ≡ true = subst IsSome none c.parts.invariant.0 in
    cc

pub returns-then-number-from-clause-merged : goal.returns-then-number-from-clause-merged
returns-then-number-from-clause-merged c =
    let first = numbers-first c.parts.rest.now _ _ _ c.cut.ensures.front
    (sym c.in-Some.ensures) c.cut.ensures.rest in
    refused_at c.args.limit c.parts.bits _ _ _ _ first c.parts.invariant.0
    (rw c.from.ensures at c.if-number-from.true) c.parts.invariant.2

pub returns-in_default-after-clause-merged : goal.returns-in_default-after-clause-merged
returns-in_default-after-clause-merged c =
    let last = rw c.in_default-after.is at c.cut.ensures.rest in
    let first = numbers-first c.parts.rest.now _ None _ c.cut.ensures.front
    (sym c.in-Some.ensures) last in
    sym (kept_at c.args.limit c.parts.bits _ _ (numbers_after None) _ first c.requires.width
    (rw c.from.ensures at c.if-number-from.false) c.parts.invariant.2)

pub returns-in_default-after-clause-within : goal.returns-in_default-after-clause-within
returns-in_default-after-clause-within c =
    bits_fit c.args.limit c.parts.bits _ c.requires.width
    (rw c.from.ensures at c.if-number-from.false) c.parts.invariant.1

pub parts-preserved : goal.parts-preserved
parts-preserved c =
    let more = rw c.in-Some-after.is at c.cut.ensures.rest in
    let below = rw c.from.ensures at c.if-number-from.false in
    let first = numbers-first c.parts.rest.now _
    (Some c.in-Some-after.after.now) _ c.cut.ensures.front (sym c.in-Some.ensures) more in (
      tail_some _ _ _ first c.parts.invariant.0,
      bits_fit c.args.limit c.parts.bits _ c.requires.width below c.parts.invariant.1,
      kept_at c.args.limit c.parts.bits _ _ _ _ first c.requires.width below c.parts.invariant.2,
    )
