use Rattle.std.proofs.Common.{ℕ, ◌≡◌, ◌∙◌, ap, get_or, subst, sym}
use Rattle.rule_check.specs.Pairs.{has_pair}
use Rattle.steer_model.specs.Good.Inputs.{setup_in}
use Rattle.steer_model.specs.State.Setup.{packet_hash}
use Rattle.good_check.specs.Cases.{input_of}
use Rattle.good_check.specs.Queues.{IsSeenIn, is_asked_for}
use Rattle.good_check.proofs.QueuesLemmas.{seen-from, seen-to}
use Rattle.good_check.proofs.case.Case.has_queues.Goals as goal

pub returns-clause-yes : goal.returns-clause-yes
returns-clause-yes c = λ t k d l.
    let case = c.args.self.now in
    let h = case.h.now in
    let i = input_of case in
    let plan = case.plan.now in
    let set = has_pair c.in_ok-set.set in
    let a = get_or h.arrivals k d in
    let is : (n m : ℕ) → set n m ≡ is_asked_for (setup_in i) h plan.filters n m h.choices =
    λ n m. c.in_ok-set.ensures n m
    ∙ ap (λ p. is_asked_for p h plan.filters n m h.choices) case.is_setup in
    seen-to i h c.requires.plain.uncommanded set is (packet_hash (setup_in i) a.id) a
    (subst (λ p. IsSeenIn set plan.reta plan.filters (packet_hash p a.id) a) case.is_setup
    (subst (λ s. IsSeenIn set s.reta.entries plan.filters (packet_hash case.given.now a.id) a)
    case.is_initial (c.are_seen.ensures.yes t k d l)))

pub returns-clause-no : goal.returns-clause-no
returns-clause-no c = λ q.
    let case = c.args.self.now in
    let h = case.h.now in
    let i = input_of case in
    let plan = case.plan.now in
    let set = has_pair c.in_ok-set.set in
    let is : (n m : ℕ) → set n m ≡ is_asked_for (setup_in i) h plan.filters n m h.choices =
    λ n m. c.in_ok-set.ensures n m
    ∙ ap (λ p. is_asked_for p h plan.filters n m h.choices) case.is_setup in
    c.are_seen.ensures.no (λ k d l.
    let a = get_or h.arrivals k d in
    subst (λ s. IsSeenIn set s.reta.entries plan.filters (packet_hash case.given.now a.id) a)
    (sym case.is_initial)
    (subst (λ p. IsSeenIn set plan.reta plan.filters (packet_hash p a.id) a) (sym case.is_setup)
    (seen-from i h c.requires.plain.uncommanded set is (packet_hash (setup_in i) a.id) a
    (q k d l))))
