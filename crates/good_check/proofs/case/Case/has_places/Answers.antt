use Rattle.std.proofs.Common.{◌∙◌, length, sym}
use Rattle.good_check.proofs.PlacesLemmas.{places-from, places-to}
use Rattle.good_check.proofs.case.Case.has_places.Goals as goal

pub returns-clause-yes : goal.returns-clause-yes
returns-clause-yes c = λ t.
    let case = c.args.self.now in
    places-to case.given.now.packets (length case.plan.now.apps) case.h.now
    c.requires.plain.regular case.known.now case.is_known
    (sym c.all_are_delivered.ensures ∙ t)

pub returns-clause-no : goal.returns-clause-no
returns-clause-no c = λ r.
    let case = c.args.self.now in
    c.all_are_delivered.ensures
    ∙ places-from case.given.now.packets (length case.plan.now.apps) case.h.now
    c.requires.plain.regular case.known.now case.is_known r
