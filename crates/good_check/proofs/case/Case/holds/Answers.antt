use Rattle.std.proofs.Common.{◌≡◌, ◌<◌, arith, refl, true}
use Rattle.std.proofs.lemmas.Result.{IfOk-weaker}
use Rattle.steer_model.specs.Good.Choices.{WantsAreWritten}
use Rattle.steer_model.specs.Good.GoodHistory.{Clause, never}
use Rattle.good_check.specs.Cases.{input_of}
use Rattle.good_check.proofs.case.Case.holds.Goals as goal

pub has_choices-requires-clause-queues : goal.has_choices-requires-clause-queues
has_choices-requires-clause-queues c =
    let l : 1 < c.args.clause = omega (arith, c.in-3.is) in
    ((c.requires.earlier 1 (omega arith) l).arrived refl).queues

pub has_explained_drops-requires-clause-lanes : goal.has_explained_drops-requires-clause-lanes
has_explained_drops-requires-clause-lanes c =
    let l : 1 < c.args.clause = omega (arith, c.in-6.is) in
    ((c.requires.earlier 1 (omega arith) l).arrived refl).cpus

pub has_replies-requires-clause-swept : goal.has_replies-requires-clause-swept
has_replies-requires-clause-swept c =
    let l : 8 < c.args.clause = omega (arith, c.requires.some, c.in_default) in
    (c.requires.earlier 8 (omega arith) l).swept refl

pub returns-in-4-clause-no : goal.returns-in-4-clause-no
returns-in-4-clause-no c =
    let case = c.args.self.now in
    let i = input_of case in
    let h = case.h.now in
    let e : c.args.clause ≡ 4 = omega (arith, c.in-4.is) in
    IfOk-weaker c.has_wants.result (λ r. WantsAreWritten i h never → r ≡ true)
    (λ r. Clause c.args.clause i h → r ≡ true) (λ r o k. o (k.wants e)) c.has_wants.ensures.no
