use Rattle.std.proofs.Common.{◌≡◌, ◌∙◌, Some, None, sym}
use Rattle.good_check.proofs.HeadsLemmas.{seen-nothing}
use Rattle.good_check.proofs.heads.is_next.Goals as goal

pub returns-in_default-clause-yes : goal.returns-in_default-clause-yes
returns-in_default-clause-yes c = λ t cs k h l s.
    seen-nothing c.args.start c.args.lanes.now cs k c.args.last.now.items s (λ head lane saw.
    let f : Some head ≡ None = sym saw.0 ∙ h ∙ c.in_default.is in cc)

pub returns-in_default-lane-clause-yes : goal.returns-in_default-lane-clause-yes
returns-in_default-lane-clause-yes c = λ t cs k h l s.
    seen-nothing c.args.start c.args.lanes.now cs k c.args.last.now.items s (λ head lane saw.
    let f : Some lane ≡ None = sym saw.1 ∙ l ∙ c.in_default-lane.is in cc)

pub returns-clause-yes : goal.returns-clause-yes
returns-clause-yes c = λ t cs k h l s.
    c.follows.ensures.yes t cs k (h ∙ c.in-Some.is, l ∙ c.in-Some-lane.is) s

pub returns-clause-no : goal.returns-clause-no
returns-clause-no c = λ f cs k h l less s r.
    c.follows.ensures.no f cs k (h ∙ c.in-Some.is, l ∙ c.in-Some-lane.is) less s r
