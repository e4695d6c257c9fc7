use Rattle.std.proofs.Common.{ℕ, ◌≡◌, [], None, arith, inr, length, subst}
use Rattle.std.specs.Option.{ForSome}
use Rattle.std.proofs.lemmas.Result.{IfOk-weaker}
use Rattle.history.proofs.BoundLemmas.{short-lists}
use Rattle.steer_model.specs.Good.GoodHistory.{Clause}
use Rattle.good_check.specs.Cases.{input}
use Rattle.good_check.specs.Faults.{FirstFault, HasFirstFault, HasNoFault}
use Rattle.good_check.proofs.FaultLemmas.{none-there, same-input}
use Rattle.good_check.proofs.faults.first_fault.Goals as goal

pub make-requires : goal.make-requires
make-requires c =
    short-lists c.args.packets.now (length c.args.plan.now.apps) c.args.h.now c.requires.regular
    c.requires.few

pub returns-clause-fault : goal.returns-clause-fault
returns-clause-fault c =
    let plan = c.args.plan.now in
    let h = c.args.h.now in
    let given = c.in_ok-given.given in
    let none : h.commands ≡ [] =
    none-there h.commands (omega (arith, c.if-len-gt0.false, c.len.ensures)) in
    let same = same-input plan c.args.packets.now c.args.cut given c.in_ok-given.ensures in
    IfOk-weaker c.first_fault.result
    (λ found. ForSome found (λ n. FirstFault n (input plan given.packets given.cut) h))
    (λ found. ForSome found (λ n. HasFirstFault (input plan c.args.packets.now c.args.cut) h n))
    (λ found o n e. inr (none, subst (λ i. FirstFault n i h) same (o n e)))
    c.first_fault.ensures.fault

pub returns-clause-none : goal.returns-clause-none
returns-clause-none c =
    let plan = c.args.plan.now in
    let h = c.args.h.now in
    let given = c.in_ok-given.given in
    let none : h.commands ≡ [] =
    none-there h.commands (omega (arith, c.if-len-gt0.false, c.len.ensures)) in
    let same = same-input plan c.args.packets.now c.args.cut given c.in_ok-given.ensures in
    IfOk-weaker c.first_fault.result
    (λ found. found ≡ None → (n : ℕ) → Clause n (input plan given.packets given.cut) h)
    (λ found. found ≡ None → HasNoFault (input plan c.args.packets.now c.args.cut) h)
    (λ found o e. (none, λ n. subst (λ i. Clause n i h) same (o e n)))
    c.first_fault.ensures.none
