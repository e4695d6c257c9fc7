use Rattle.std.proofs.Common.{◌≡◌, ◌∙◌, Some, [], ap, arith, get_or}
use Rattle.std.proofs.Common.{slice_get}
use Rattle.std.proofs.Common.{sym}
use Rattle.std.proofs.lemmas.List.{get_or_default}
use Rattle.std.proofs.lemmas.Option.{slice_get-get_or}
use Rattle.steer_base.specs.Counters.{rounded_up}
use Rattle.history.specs.Lists.{list_at}
use Rattle.steer_model.specs.Good.Inputs.{setup_in}
use Rattle.good_check.specs.Cases.{input_of}
use Rattle.good_check.specs.Writes.{writes_for}
use Rattle.good_check.proofs.WritesLemmas.{writes-from, writes-to}
use Rattle.good_check.proofs.case.Case.has_written.Goals as goal

pub returns-clause-yes : goal.returns-clause-yes
returns-clause-yes c = λ t.
    let case = c.args.self.now in
    let h = case.h.now in
    let i = input_of case in
    let a = c.args.a in
    let cpu = c.stand.result in
    let r = c.requires.plain.regular in
    let stands : slice_get case.plan.now.apps a ≡ Some cpu =
    slice_get-get_or case.plan.now.apps a 0 c.requires.app
    ∙ ap (λ n. Some n) (sym (c.stand.ensures ∙ ap (λ s. get_or s.stands a 0) case.is_initial)) in
    let inbox : c.as_slice.result.now ≡ list_at h.inboxes a =
    c.as_slice.ensures ∙ c.get.ensures
    ∙ get_or_default h.inboxes a c.get.result.now []
    (omega (arith, r.matched.inboxes, c.requires.app))
    in
    let writes : c.as_slice-2.result.now ≡ list_at h.writes a =
    c.as_slice-2.ensures ∙ c.get-2.ensures
    ∙ get_or_default h.writes a c.get-2.result.now []
    (omega (arith, r.matched.writes, c.requires.app))
    in
    writes-from i h a cpu c.requires.plain.uncommanded stands (list_at h.inboxes a)
    (list_at h.writes a)
    (sym writes ∙ c.wrote.ensures.yes t
    ∙ ap (λ p. writes_for p case.settings.now.sock cpu c.as_slice.result.now) case.is_setup
    ∙ ap (λ s. writes_for (setup_in i) s.sock cpu c.as_slice.result.now) case.is_initial
    ∙ ap (λ xs. writes_for (setup_in i) (rounded_up i.plan.sock) cpu xs) inbox)

pub returns-clause-no : goal.returns-clause-no
returns-clause-no c = λ w.
    let case = c.args.self.now in
    let h = case.h.now in
    let i = input_of case in
    let a = c.args.a in
    let cpu = c.stand.result in
    let r = c.requires.plain.regular in
    let stands : slice_get case.plan.now.apps a ≡ Some cpu =
    slice_get-get_or case.plan.now.apps a 0 c.requires.app
    ∙ ap (λ n. Some n) (sym (c.stand.ensures ∙ ap (λ s. get_or s.stands a 0) case.is_initial)) in
    let inbox : c.as_slice.result.now ≡ list_at h.inboxes a =
    c.as_slice.ensures ∙ c.get.ensures
    ∙ get_or_default h.inboxes a c.get.result.now []
    (omega (arith, r.matched.inboxes, c.requires.app))
    in
    let writes : c.as_slice-2.result.now ≡ list_at h.writes a =
    c.as_slice-2.ensures ∙ c.get-2.ensures
    ∙ get_or_default h.writes a c.get-2.result.now []
    (omega (arith, r.matched.writes, c.requires.app))
    in
    c.wrote.ensures.no (writes
    ∙ writes-to i h a cpu c.requires.plain.uncommanded stands (list_at h.inboxes a)
    (list_at h.writes a) w
    ∙ sym (ap (λ p. writes_for p case.settings.now.sock cpu c.as_slice.result.now) case.is_setup
    ∙ ap (λ s. writes_for (setup_in i) s.sock cpu c.as_slice.result.now) case.is_initial
    ∙ ap (λ xs. writes_for (setup_in i) (rounded_up i.plan.sock) cpu xs) inbox))
