use Rattle.run_controller.proofs.Names.{◌≡◌, ◌∙◌, ℕ, arith, subst, MAX_SOCKET_SIZE, Store}
use Rattle.run_controller.proofs.Names.{after_step}
use Rattle.run_controller.proofs.LoopLemmas.{Cleared, cleared_all, cleared_more, cleared_none}
use Rattle.run_controller.proofs.sockets.clear_sockets.Goals as goal

pub loop-entry-init : goal.loop-entry-init
loop-entry-init c = cleared_none c.args.hint.now

pub store-requires-clause-table : goal.store-requires-clause-table
store-requires-clause-table c = c.loop-entry.invariant.table ∙ c.requires.table

pub loop-entry-preserved : goal.loop-entry-preserved
loop-entry-preserved c =
    cleared_more c.loop-entry.entry c.args.hint.now c.loop-entry.hint c.store.new.seat
    c.loop-entry.invariant
    (subst (λ (n : ℕ). c.store.new.seat ≡ after_step (Store n 0) c.loop-entry.hint)
    c.number.ensures c.store.ensures.step)

pub returns : goal.returns
returns c =
    let past = c.loop-entry-test.false in
    let within = c.loop-entry.auto.entry-end in
    let all : c.loop-entry.entry ≡ MAX_SOCKET_SIZE = omega (arith, past, within) in
    cleared_all c.args.hint.now c.loop-entry.hint
    (subst (λ (n : ℕ). Cleared n c.args.hint.now c.loop-entry.hint) all c.loop-entry.invariant)
