use Rattle.std.proofs.Common.{rules, ◌+◌, ◌<◌, ◌∙◌, arith, length, refl}
use Rattle.std.proofs.Math.ListN.{drop_of_length-le}
use Rattle.report_reader.specs.Values.{IsNumber}
use Rattle.report_reader.proofs.EndsLemmas.{going-in, going-none}
use Rattle.report_reader.proofs.StepsLemmas.{first-all, first-view, full-values, step-fits}
use Rattle.report_reader.proofs.StepsLemmas.{step-over, value-last, value-next, value-set}
use Rattle.report_reader.proofs.fields.fill.Goals as goal

pub returns-then-step-bytes-clause-values : goal.returns-then-step-bytes-clause-values
returns-then-step-bytes-clause-values c = λ all rest few g h.
    let fits = step-fits _ _ c.args.steps.now _ _ _ _ rest c.step_at-step.ensures
    (c.loop-start.invariant.line all rest few g h) in
    absurd (omega (arith, fits, c.if-step-bytes.true))

pub returns-then-step-bytes-clause-next : goal.returns-then-step-bytes-clause-next
returns-then-step-bytes-clause-next c = λ all rest few g h.
    let fits = step-fits _ _ c.args.steps.now _ _ _ _ rest c.step_at-step.ensures
    (c.loop-start.invariant.line all rest few g h) in
    absurd (omega (arith, fits, c.if-step-bytes.true))

pub returns-then-count-ge-MOST_FIELDS-clause-values :
    goal.returns-then-count-ge-MOST_FIELDS-clause-values
returns-then-count-ge-MOST_FIELDS-clause-values c = λ all rest few g h.
    let size = c.loop-start.invariant.long in
    let v = step-over _ _ (c.loop-start.start + c.step_at-step.result) _ _ rest c.args.steps.now
    _ _ _ refl c.step_at-step.ensures (c.loop-start.invariant.line all rest few g h)
    (omega (arith, c.if-step-bytes.false)) in
    absurd (full-values (λ f. f.text.now) _ _ _ _ c.loop-start.fields c.loop-start.count _ _ v few
    (omega (arith, c.if-count-ge-MOST_FIELDS.true))
    (omega (arith, size, c.loop-start.invariant.few)))

pub returns-then-count-ge-MOST_FIELDS-clause-next :
    goal.returns-then-count-ge-MOST_FIELDS-clause-next
returns-then-count-ge-MOST_FIELDS-clause-next c = λ all rest few g h.
    let size = c.loop-start.invariant.long in
    let v = step-over _ _ (c.loop-start.start + c.step_at-step.result) _ _ rest c.args.steps.now
    _ _ _ refl c.step_at-step.ensures (c.loop-start.invariant.line all rest few g h)
    (omega (arith, c.if-step-bytes.false)) in
    absurd (full-values (λ f. f.text.now) _ _ _ _ c.loop-start.fields c.loop-start.count _ _ v few
    (omega (arith, c.if-count-ge-MOST_FIELDS.true))
    (omega (arith, size, c.loop-start.invariant.few)))

pub returns-then-end-bytes-clause-values : goal.returns-then-end-bytes-clause-values
returns-then-end-bytes-clause-values c = λ all rest few g h.
    let v = step-over _ _ (c.loop-start.start + c.step_at-step.result) _ _ rest c.args.steps.now
    _ _ _ refl c.step_at-step.ensures (c.loop-start.invariant.line all rest few g h)
    (omega (arith, c.if-step-bytes.false)) in
    let i = going-in _ _ _ _ _ _ c.field_end-end.ensures.end v.line in
    absurd (omega (arith, i, c.if-end-bytes.true))

pub returns-then-end-bytes-clause-next : goal.returns-then-end-bytes-clause-next
returns-then-end-bytes-clause-next c = λ all rest few g h.
    let v = step-over _ _ (c.loop-start.start + c.step_at-step.result) _ _ rest c.args.steps.now
    _ _ _ refl c.step_at-step.ensures (c.loop-start.invariant.line all rest few g h)
    (omega (arith, c.if-step-bytes.false)) in
    let i = going-in _ _ _ _ _ _ c.field_end-end.ensures.end v.line in
    absurd (omega (arith, i, c.if-end-bytes.true))

pub returns-then-end-bytes-clause-numbers : goal.returns-then-end-bytes-clause-numbers
returns-then-end-bytes-clause-numbers c =
    let size = c.loop-start.invariant.long in
    let lt : c.loop-start.count < length c.loop-start.fields =
    omega (arith, size, c.if-count-ge-MOST_FIELDS.false) in
    first-all (λ f. IsNumber f.text.now f.number) _ _ _ lt
    c.loop-start.invariant.numbers c.field_end-end.ensures.number

pub returns-then-bytes-end-eq10-clause-numbers : goal.returns-then-bytes-end-eq10-clause-numbers
returns-then-bytes-end-eq10-clause-numbers c =
    let size = c.loop-start.invariant.long in
    let lt : c.loop-start.count < length c.loop-start.fields =
    omega (arith, size, c.if-count-ge-MOST_FIELDS.false) in
    first-all (λ f. IsNumber f.text.now f.number) _ _ _ lt
    c.loop-start.invariant.numbers c.field_end-end.ensures.number

pub returns-then-bytes-end-eq10-clause-values : goal.returns-then-bytes-end-eq10-clause-values
returns-then-bytes-end-eq10-clause-values c = λ all rest few g h.
    let size = c.loop-start.invariant.long in
    let lt : c.loop-start.count < length c.loop-start.fields =
    omega (arith, size, c.if-count-ge-MOST_FIELDS.false) in
    let v = step-over _ _ (c.loop-start.start + c.step_at-step.result) _ _ rest c.args.steps.now
    _ _ _ refl c.step_at-step.ensures (c.loop-start.invariant.line all rest few g h)
    (omega (arith, c.if-step-bytes.false)) in
    first-view (λ f. f.text.now) _ _ _ lt
    ∙ (value-last _ _ _ _ _ _ _ c.field_end-end.ensures.end v c.if-bytes-end-eq10.true).0

pub returns-then-bytes-end-eq10-clause-next : goal.returns-then-bytes-end-eq10-clause-next
returns-then-bytes-end-eq10-clause-next c = λ all rest few g h.
    let v = step-over _ _ (c.loop-start.start + c.step_at-step.result) _ _ rest c.args.steps.now
    _ _ _ refl c.step_at-step.ensures (c.loop-start.invariant.line all rest few g h)
    (omega (arith, c.if-step-bytes.false)) in
    (value-last _ _ _ _ _ _ _ c.field_end-end.ensures.end v c.if-bytes-end-eq10.true).1

pub loop-start-preserved : goal.loop-start-preserved
loop-start-preserved c =
    let size = c.loop-start.invariant.long in
    let lt : c.loop-start.count < length c.loop-start.fields =
    omega (arith, size, c.if-count-ge-MOST_FIELDS.false) in
    record {
      within = search rules;
      behind = search rules;
      few = search rules;
      long = search rules;
      numbers = first-all (λ f. IsNumber f.text.now f.number) _ _ _ lt
          c.loop-start.invariant.numbers c.field_end-end.ensures.number;
      line = λ all rest few g h.
          let old = c.loop-start.invariant.line all rest few g h in
          let from = c.loop-start.start + c.step_at-step.result in
          let v = step-over _ _ from _ _ rest c.args.steps.now _ _ _ refl c.step_at-step.ensures old
          (omega (arith, c.if-step-bytes.false)) in
          value-set (λ f. f.text.now) _ _ _ _ _ _ _ _ lt
          (value-next _ _ _ _ _ _ _ c.field_end-end.ensures.end v c.if-bytes-end-eq10.false);
    }

pub returns-clause-values : goal.returns-clause-values
returns-clause-values c = λ all rest few g h.
    absurd (going-none _ _ _ _ _
    (drop_of_length-le c.args.bytes.now (omega (arith, c.loop-start-test.false)))
    (c.loop-start.invariant.line all rest few g h).line)

pub returns-clause-next : goal.returns-clause-next
returns-clause-next c = λ all rest few g h.
    absurd (going-none _ _ _ _ _
    (drop_of_length-le c.args.bytes.now (omega (arith, c.loop-start-test.false)))
    (c.loop-start.invariant.line all rest few g h).line)
