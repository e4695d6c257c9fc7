use Rattle.steer_core.proofs.BusyLemmas.{busy-after-poll, done-after-poll}
use Rattle.steer_core.proofs.actors.Actors.poll_busy.Goals as goal

pub returns-then-not-is_poller_done-clause-busy
    : goal.returns-then-not-is_poller_done-clause-busy
returns-then-not-is_poller_done-clause-busy c =
    let done = c.poll-done.ensures in
    busy-after-poll c.args.self.now.machine c.poll-done.new.self.machine c.args.q c.args.worked
    c.poll-done.result c.args.busy.now c.poll-done.new.cpus done.turn done.setup done.cpus
    c.requires.busy c.requires.member

pub returns-clause-busy : goal.returns-clause-busy
returns-clause-busy c =
    let done = c.poll-done.ensures in
    done-after-poll c.args.self.now.machine c.poll-done.new.self.machine c.args.q c.args.worked
    c.poll-done.result c.args.busy.now c.poll-done.new.cpus done.turn done.setup done.cpus
    c.requires.busy c.without-busy.result
    (c.is_poller_done.ensures c.if-not-is_poller_done.false)
    c.without-busy.ensures.members
