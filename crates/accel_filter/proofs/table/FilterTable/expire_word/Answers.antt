use Rattle.std.proofs.Common.{ℕ, ap, sym, ◌∙◌, arith, cond}
use Rattle.accel_filter.proofs.WordLemmas.{is_smaller, is_there, walked_all, walked_next}
use Rattle.accel_filter.proofs.table.FilterTable.expire_word.Goals as goal

pub expire_by-requires-clause-place : goal.expire_by-requires-clause-place
expire_by-requires-clause-place c =
    is_there _ _ _ _ _ _ _ c.loop-left.invariant (omega (arith, c.loop-left.auto.left-fits))
    (omega (arith, c.loop-left-test.true))

pub loop-left-smaller-then-expire_by : goal.loop-left-smaller-then-expire_by
loop-left-smaller-then-expire_by c =
    is_smaller _ _ _ _ _ _ _ c.loop-left.invariant (omega (arith, c.loop-left.auto.left-fits))
    (omega (arith, c.loop-left-test.true))

pub loop-left-preserved-then-expire_by : goal.loop-left-preserved-then-expire_by
loop-left-preserved-then-expire_by c =
    let is_old = sym c.if-expire_by.true ∙ c.expire_by.ensures.answer in
    let one = ap {B = ℕ} (λ b. cond b 1 0) is_old in
    walked_next _ _ _ _ _ _ _ c.loop-left.invariant (omega (arith, c.loop-left.auto.left-fits))
    (omega (arith, c.loop-left-test.true)) _ _ c.expire_by.ensures.state (omega (arith, one))

pub loop-left-smaller : goal.loop-left-smaller
loop-left-smaller c =
    is_smaller _ _ _ _ _ _ _ c.loop-left.invariant (omega (arith, c.loop-left.auto.left-fits))
    (omega (arith, c.loop-left-test.true))

pub loop-left-preserved : goal.loop-left-preserved
loop-left-preserved c =
    let not_old = sym c.if-expire_by.false ∙ c.expire_by.ensures.answer in
    let none = ap {B = ℕ} (λ b. cond b 1 0) not_old in
    walked_next _ _ _ _ _ _ _ c.loop-left.invariant (omega (arith, c.loop-left.auto.left-fits))
    (omega (arith, c.loop-left-test.true)) _ _ c.expire_by.ensures.state (omega (arith, none))

pub returns-clause-walked : goal.returns-clause-walked
returns-clause-walked c = walked_all _ _ _ _ _ _ _ c.loop-left.invariant c.loop-left-test.false
