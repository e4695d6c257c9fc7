use Rattle.std.proofs.Common.{◌≡◌, ◌<◌, ap, arith, false, length, subst, sym, true}
use Rattle.std.proofs.lemmas.List.{length-map}
use Rattle.steer_model.specs.State.Start.{initial_settings}
use Rattle.good_check.specs.Cases.{input_of}
use Rattle.good_check.specs.Choices.{HasChosen}
use Rattle.good_check.proofs.ChoicesLemmas.{choices-from, choices-to}
use Rattle.good_check.proofs.case.Case.has_choices.Goals as goal

pub returns-then-not-branch-clause-no : goal.returns-then-not-branch-clause-no
returns-then-not-branch-clause-no c = λ r.
    let case = c.args.self.now in
    let i = input_of case in
    let q = c.loop-q.q in
    let t : c.in_ok-has_chosen.field-0 ≡ true =
    c.in_ok-has_chosen.ensures.no
    (subst (λ s. HasChosen case.given.now s case.h.now q) (sym case.is_initial)
    (subst (λ p. HasChosen p (initial_settings case.plan.now) case.h.now q) (sym case.is_setup)
    (choices-from i case.h.now c.requires.plain.uncommanded c.requires.plain.regular r q))) in
    let f : c.in_ok-has_chosen.field-0 ≡ false = c.if-not-branch.true in
    cc

pub returns-clause-yes : goal.returns-clause-yes
returns-clause-yes c = λ t.
    let case = c.args.self.now in
    let i = input_of case in
    choices-to i case.h.now c.requires.plain.uncommanded c.requires.plain.regular (λ q l.
    let below : q < c.loop-q.q =
    omega (
      arith,
      l,
      c.requires.queues,
      c.loop-q-test.false,
      c.queues-q-end.ensures.value,
      ap (λ p. length p.homes) case.is_setup,
      length-map case.plan.now.queues (λ queue. queue.home),
    ) in
    subst (λ p. HasChosen p (initial_settings case.plan.now) case.h.now q) case.is_setup
    (subst (λ s. HasChosen case.given.now s case.h.now q) case.is_initial
    (c.loop-q.invariant q below)))
