use Rattle.steer_core.proofs.BusyLemmas.{busy-after-serve, done-after-serve}
use Rattle.steer_core.proofs.actors.Actors.serve_busy.Goals as goal

pub returns-then-not-is_sender_done-clause-busy
    : goal.returns-then-not-is_sender_done-clause-busy
returns-then-not-is_sender_done-clause-busy c =
    let done = c.serve-done.ensures in
    busy-after-serve c.args.self.now.machine c.serve-done.new.self.machine c.args.a c.args.worked
    c.serve-done.result c.args.busy.now c.serve-done.new.txs done.turn done.setup done.txs
    c.requires.busy c.requires.member

pub returns-clause-busy : goal.returns-clause-busy
returns-clause-busy c =
    let done = c.serve-done.ensures in
    done-after-serve c.args.self.now.machine c.serve-done.new.self.machine c.args.a c.args.worked
    c.serve-done.result c.args.busy.now c.serve-done.new.txs done.turn done.setup done.txs
    c.requires.busy c.without-busy.result
    (c.is_sender_done.ensures c.if-not-is_sender_done.false)
    c.without-busy.ensures.members
