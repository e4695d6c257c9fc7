use Rattle.std.proofs.Common.{◌∙◌, ap, sym}
use Rattle.std.specs.List.{list_all}
use Rattle.rule_check.specs.Pairs.{has_pair}
use Rattle.steer_model.specs.Good.Inputs.{setup_in}
use Rattle.good_check.specs.Cases.{input_of}
use Rattle.good_check.specs.Wants.{want_is_in}
use Rattle.good_check.proofs.WantsLemmas.{wants-from, wants-to}
use Rattle.good_check.proofs.case.Case.has_wants.Goals as goal

pub returns-clause-yes : goal.returns-clause-yes
returns-clause-yes c = λ t.
    let case = c.args.self.now in
    let i = input_of case in
    wants-to i case.h.now c.requires.plain.uncommanded (has_pair c.in_ok-set.set)
    c.in_ok-set.ensures
    (sym (ap (λ p. list_all (list_all (want_is_in p case.settings.now.sock
    (has_pair c.in_ok-set.set))) case.h.now.choices) case.is_setup
    ∙ ap (λ s. list_all (list_all (want_is_in (setup_in i) s.sock (has_pair c.in_ok-set.set)))
    case.h.now.choices) case.is_initial) ∙ sym c.all_are_wanted.ensures ∙ t)

pub returns-clause-no : goal.returns-clause-no
returns-clause-no c = λ w.
    let case = c.args.self.now in
    let i = input_of case in
    c.all_are_wanted.ensures
    ∙ ap (λ p. list_all (list_all (want_is_in p case.settings.now.sock
    (has_pair c.in_ok-set.set))) case.h.now.choices) case.is_setup
    ∙ ap (λ s. list_all (list_all (want_is_in (setup_in i) s.sock (has_pair c.in_ok-set.set)))
    case.h.now.choices) case.is_initial
    ∙ wants-from i case.h.now c.requires.plain.uncommanded (has_pair c.in_ok-set.set)
    c.in_ok-set.ensures w
